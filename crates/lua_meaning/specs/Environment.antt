-- What names mean where a tree is run: lexical scoping (Lua 5.3 manual, 3.5).
-- A use of a name leads by its number to a local's number, or to a name of the library. Locals are numbered in order of place, so each form
-- knows the numbers of the locals that it declares from how many are declared before it in the module's text.
use Rattle.std.specs.Prelude.{ℕ, ◌+◌, nat_eq, List, ◌∷◌, Option, slice_get}
use Rattle.std.specs.Map.{lookup}
use Rattle.lua_tree.specs.declared.scoped.Use.{Use}
use Rattle.lua_tree.specs.declared.scoped.Require.{Require}
use Rattle.lua_values.specs.declared.value.Value.{Value}

-- what the names of a module mean
pub record Names : Type 0 where
  pub uses : List Use
  pub required : List Require

-- the locals in scope and their cells, the innermost first
abbrev pub Bound : Type 0
Bound = List (ℕ × ℕ)

pub record Env : Type 0 where
  pub names : Names
  pub bound : Bound
  -- how many locals the module's text declares before this place
  pub next : ℕ
  -- the further arguments of the function at work, `...`
  pub rest : List Value

-- the cell of a local, none where it isn't in scope
abbrev pub cell_of : Env → ℕ → Option ℕ
cell_of env x = lookup (nat_eq x) env.bound

abbrev pub use_of : Env → ℕ → Option Use
use_of env u = slice_get env.names.uses u

-- the place behind a text that declares n locals
abbrev pub behind : ℕ → Env → Env
behind n env = record env { next = env.next + n }

-- with these locals in scope
abbrev pub with_bound : Bound → Env → Env
with_bound bound env = record env { bound = bound }

-- the local x is in scope, in its cell
abbrev pub bind : ℕ → ℕ → Env → Env
bind x cell env = record env { bound = (x, cell) ∷ env.bound }
