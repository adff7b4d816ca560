-- Small modules of which laws speak.
use Rattle.std.specs.Prelude.{◌≡◌, ℕ, false, List, [], ◌∷◌, None, Result, Ok, Err, codes}
use Rattle.std.specs.Str.{bytes_eq}
use Rattle.tl_base.specs.declared.place.Pos.{Pos}
use Rattle.tl_base.specs.declared.place.ModuleKind.TheVariants as kind
use Rattle.tl_base.specs.declared.refusal.Refusal.{Refusal}
use Rattle.tl_base.specs.declared.refusal.RefusalCode.TheVariants as code
use Rattle.lua_tree.specs.declared.annotation.Typed.{Typed}
use Rattle.lua_tree.specs.declared.syntax.Expr.TheVariants as e
use Rattle.lua_tree.specs.declared.syntax.Stat.{Stat}
use Rattle.lua_tree.specs.declared.syntax.Stat.TheVariants as st
use Rattle.lua_tree.specs.declared.syntax.Block.{Block}
use Rattle.lua_tree.specs.declared.syntax.Entry.TheViews.{roll-Block}
use Rattle.lua_tree.specs.declared.syntax.Chunk.{Chunk}
use Rattle.lua_tree.specs.declared.scoped.Scoped.{Scoped}
use Rattle.lua_tree.specs.declared.scoped.Use.TheVariants as means
use Rattle.lua_tree.specs.Scopes.Library.{named, is_library_table}

abbrev pub typed : Pos → List ℕ → Typed
typed p x = record { name = record { pos = p; text = x }; ty = None }

abbrev pub block_with : List Stat → Block
block_with ss = roll-Block (record { stats = ss; result = None })

abbrev pub module_with : List Stat → Chunk
module_with ss = record { «module» = 0; kind = kind.Untyped; body = block_with ss }

-- `local x = x`
abbrev pub own_initialiser : Pos → Pos → Pos → List ℕ → Chunk
own_initialiser p q r x = module_with (st.Local p (typed q x ∷ []) (e.Name r 0 x ∷ []) ∷ [])

-- `repeat local x until x`
abbrev pub until_sees : Pos → Pos → Pos → List ℕ → Chunk
until_sees p q r x = module_with (st.Repeat p (block_with (st.Local p (typed q x ∷ []) [] ∷ [])) (e.Name r 0 x) ∷ [])

-- the library has no name for which this stands
pub record IsNoName (x : List ℕ) : Type 0 where
  pub alone : named [] x ≡ None
  pub table : is_library_table x ≡ false
  pub require : bytes_eq x (codes "require") ≡ false

abbrev pub S1_at : Pos → Result Scoped Refusal → Type 0
S1_at p r = r ≡ Err (record { code = code.S1; pos = p })

abbrev pub one_local_used : Result Scoped Refusal → Type 0
one_local_used (Ok s) = s.uses ≡ means.Local 0 ∷ []
one_local_used (Err r) = ⊥
