-- The meaning of a program: of its modules, each a chunk (Lua 5.3 manual, 3.3.2), their file words, the input and a number of turns.
use Rattle.std.specs.Prelude.{ℕ, ◌-◌, List, [], ◌∷◌, map, Option, None}
use Rattle.tl_base.specs.declared.place.ModuleKind.{ModuleKind}
use Rattle.tl_base.specs.declared.crossing.Crossing.{Crossing}
use Rattle.lua_tree.specs.declared.scoped.Scoped.{Scoped}
use Rattle.lua_tree.specs.Tree.{Block}
use Rattle.lua_tree.specs.View.{block_of}
use Rattle.lua_values.specs.declared.value.Value.{Value}
use Rattle.lua_meaning.specs.World.{World, KindError}
use Rattle.lua_meaning.specs.Environment.{Env, Names}
use Rattle.lua_meaning.specs.Outcomes.{Act, Outcome, gives, raises, cut, give, ◌>>=◌, ◌>>◌, turn, results_of}
use Rattle.lua_meaning.specs.Trees.{exec_all}
use Rattle.lua_meaning.specs.Calls.{limit, below_of, apply}

pub record Module : Type 0 where
  pub kind : ModuleKind
  pub names : Names
  pub body : Block

abbrev pub module_of : Scoped → Module
module_of s = record { kind = s.chunk.kind; names = record { uses = s.uses; required = s.required }; body = block_of s.chunk.body }

-- how a run ends: normally, with an error value that nothing caught, or with its turns spent
pub data Ending : Type 0 where
  finished : Ending
  failed : Value → Ending
  spent : Ending

pub record Result : Type 0 where
  pub output : List ℕ
  pub ending : Ending
  -- the turns used
  pub turns : ℕ
  -- the first mark passed, and the first operand-kind error at a typed module's place
  pub mark : Option Crossing
  pub error : Option KindError

abbrev pub ended : ℕ → Ending → World → Result
ended n e w = record { output = w.output; ending = e; turns = n - w.turns; mark = w.mark; error = w.error }

abbrev pub result_of : {A : Type 0} → ℕ → Outcome A → Result
result_of n (gives a w cs) = ended n finished w
result_of n (raises v w cs) = ended n (failed v) w
result_of n (cut w) = ended n spent w

-- where a run begins: nothing is stored, kept, written or recorded
abbrev pub start : List ModuleKind → List (List ℕ) → List ℕ → ℕ → World
start kinds words input n =
    record { cells = []; tables = []; words = words; kinds = kinds; kept = map (λ _. None) kinds; output = []; input = input; turns = n; mark = None; error = None }

-- outside all functions no local is in scope
abbrev pub outermost : Names → Env
outermost names = record { names = names; bound = []; next = 0; rest = [] }

-- the block of a module takes a turn, and c more calls may begin in it; n is as many turns as there are left, or more
abbrev pub run_with : ℕ → ℕ → Module → Act (List Value)
run_with c n m = do
  turn
  flow ← exec_all (apply (below_of n) c) ((below_of n).loop c) m.body (outermost m.names)
  give (results_of flow)

-- the main module is the first, and its block is one of the calls that run at once
abbrev pub run_main : ℕ → List Module → Act (List Value)
run_main n [] = give []
run_main n (m ∷ ms) = run_with (limit - 1) n m

abbrev pub meaning : List Module → List (List ℕ) → List ℕ → ℕ → Result
meaning ms words input n = result_of n (run_main n ms (start (map (λ m. m.kind) ms) words input n) [])
