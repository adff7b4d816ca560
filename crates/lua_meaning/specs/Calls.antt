-- Calls (Lua 5.3 manual, 3.4.10): the two outer recursions, on the calls that may still begin and on turns.
use Rattle.std.specs.Prelude.{ℕ, zero, suc, List, [], ◌∷◌, ◌++◌, length, drop, Option, Some, None, codes}
use Rattle.tl_base.specs.declared.place.Pos.{Pos}
use Rattle.lua_tree.specs.declared.names.LibName.{LibName}
use Rattle.lua_tree.specs.declared.names.LibName.TheVariants as lib
use Rattle.lua_tree.specs.declared.syntax.Rest.{Rest}
use Rattle.lua_tree.specs.Tree as tree
use Rattle.lua_tree.specs.Tree.{Function}
use Rattle.lua_values.specs.Shown.{shown_text}
use Rattle.lua_values.specs.declared.value.Value.{Value}
use Rattle.lua_values.specs.declared.value.Value.TheVariants as value
use Rattle.lua_meaning.specs.World.{write}
use Rattle.lua_meaning.specs.Environment.{Env, behind}
use Rattle.lua_meaning.specs.Outcomes.{Act, Closure, cut, give, ◌>>=◌, ◌>>◌, change, turn, fail_at, kind_error_at, closure_at, results_of}
use Rattle.lua_meaning.specs.Operators.{kind_name}
use Rattle.lua_meaning.specs.Trees.{Caller, Looper, adjust, declare_all, exec_all, go_round}

-- so many calls may run at once, the main module's block and calls of library functions among them
abbrev pub limit : ℕ
limit = 100000

-- what is done with one turn fewer: the body of a function, and the rest of a loop, each with the calls that may still begin
pub record Below : Type 0 where
  pub enter : ℕ → Closure → List Value → Act (List Value)
  pub loop : ℕ → Looper

-- ---- library functions

-- the line that `print` writes (6.1): the texts of its arguments with tabs between, and a line feed
abbrev pub printed : List Value → List ℕ
printed [] = 10 ∷ []
printed (v ∷ []) = shown_text v ++ 10 ∷ []
printed (v ∷ w ∷ vs) = shown_text v ++ 9 ∷ printed (w ∷ vs)

-- the other functions of the library are still to come, and give nothing until then
abbrev pub library_call : LibName → List Value → Act (List Value)
library_call lib.Print vs = do
  change (write (printed vs))
  give []
library_call n vs = give []

-- ---- calls

-- one call more begins, and its body may still begin one call fewer; none can begin where no call is left
abbrev pub counted : {A : Type 0} → Pos → ℕ → (ℕ → Act A) → Act A
counted p zero body = fail_at p (codes "stack overflow")
counted p (suc c) body = body c

-- a closure that isn't there gives nothing
abbrev pub entered : Option Closure → (Closure → Act (List Value)) → Act (List Value)
entered None body = give []
entered (Some k) body = body k

-- a call with c calls that may still begin, at a place. A function's turn is taken when the call has been counted.
abbrev pub apply : Below → ℕ → Caller
apply below c p (value.Closure number) vs = counted p c (λ left. do
  turn
  k ← closure_at number
  entered k (λ k. below.enter left k vs))
apply below c p (value.Builtin n) vs = counted p c (λ left. library_call n vs)
apply below c p v vs = kind_error_at p (codes "call of a " ++ kind_name v)

-- the further arguments, where the function takes them
abbrev pub further : Option Rest → ℕ → List Value → List Value
further None n vs = []
further (Some r) n vs = drop n vs

-- the body of a function: its parameters begin with the arguments (3.4.11)
abbrev pub body_of : Below → ℕ → Function → Env → List Value → Act (List Value)
body_of below c (tree.function_of ps rest rs b) env vs = do
  env1 ← declare_all env.next (adjust (length ps) vs) env
  flow ← exec_all (apply below c) (below.loop c) b (behind (length ps) (record env1 { rest = further rest (length ps) vs }))
  give (results_of flow)

-- what is done with at most n turns left
abbrev pub below_of : ℕ → Below
below_of zero = record { enter = λ c k vs w cs. cut w; loop = λ c l env w cs. cut w }
below_of (suc n) = record {
  enter = λ c k vs. body_of (below_of n) c k.function k.env vs;
  loop = λ c l env. go_round (apply (below_of n) c) ((below_of n).loop c) l env;
}
