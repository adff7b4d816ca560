-- How a part of a run ends, and how parts follow one another (Lua 5.3 manual, 2.3 on errors).
use Rattle.std.specs.Prelude.{ℕ, ◌+◌, ◌-◌, zero, suc, Bool, true, false, List, [], ◌∷◌, ◌++◌, length, Option, slice_get}
use Rattle.tl_base.specs.declared.place.Pos.{Pos}
use Rattle.lua_values.specs.declared.value.Value.{Value}
use Rattle.lua_values.specs.declared.value.Value.TheVariants as value
use Rattle.lua_tree.specs.Tree.{Function}
use Rattle.lua_meaning.specs.World as world
use Rattle.lua_meaning.specs.World.{World}
use Rattle.lua_meaning.specs.Environment.{Env, Bound}

-- a function as a program has it: its tree, and the environment in which it was made
pub record Closure : Type 0 where
  pub function : Function
  pub env : Env

-- a result, an error value, or cut where a turn was wanted and none was left
pub data Outcome (A : Type 0) : Type 0 where
  gives : A → World → List Closure → Outcome A
  raises : Value → World → List Closure → Outcome A
  cut : World → Outcome A

-- how a statement ends that neither raises nor is cut: normally, with the locals in scope behind it; by `return`, with its values; by `break`
pub data Flow : Type 0 where
  normal : Bound → Flow
  returned : List Value → Flow
  broken : Flow

-- a part of a run: from the world and the closures where it begins to its outcome
abbrev pub Act : Type 0 → Type 0
Act A = World → List Closure → Outcome A

abbrev pub give : {A : Type 0} → A → Act A
give a w cs = gives a w cs

-- what follows is done where there is a result; nothing here catches an error or the cut
abbrev pub go_on : {A B : Type 0} → Outcome A → (A → Act B) → Outcome B
go_on (gives a w cs) next = next a w cs
go_on (raises v w cs) next = raises v w cs
go_on (cut w) next = cut w

infixl 20 ◌>>=◌
infixl 20 ◌>>◌
abbrev pub ◌>>=◌ : {A B : Type 0} → Act A → (A → Act B) → Act B
◌>>=◌ act next = λ w cs. go_on (act w cs) next

abbrev pub ◌>>◌ : {A B : Type 0} → Act A → Act B → Act B
◌>>◌ act next = λ w cs. go_on (act w cs) (λ _. next)

-- ---- what a part of a run does to the world

abbrev pub look : {A : Type 0} → (World → A) → Act A
look see w cs = gives (see w) w cs

abbrev pub change : (World → World) → Act (Unit {0})
change how w cs = gives tt (how w) cs

abbrev pub turned : ℕ → Act (Unit {0})
turned zero w cs = cut w
turned (suc n) w cs = gives tt (record w { turns = n }) cs

-- takes a turn, or is cut where none is left
abbrev pub turn : Act (Unit {0})
turn w cs = turned w.turns w cs

abbrev pub raise : {A : Type 0} → Value → Act A
raise v w cs = raises v w cs

-- an error that speaks of no operand's kind
abbrev pub fail_at : {A : Type 0} → Pos → List ℕ → Act A
fail_at p what w cs = raises (value.Str (world.error_text p what w)) w cs

-- an operand-kind error, which is recorded where it stands in a typed module
abbrev pub kind_error_at : {A : Type 0} → Pos → List ℕ → Act A
kind_error_at p what w cs = raises (value.Str (world.error_text p what w)) (world.recorded (world.kind_at w p) p w) cs

-- a new variable, with its value in a cell of its own
abbrev pub new_cell : Value → Act ℕ
new_cell v w cs = gives (length w.cells) (world.with_cell v w) cs

-- closures are numbered from 1 in the order of making
abbrev pub new_closure : Closure → Act Value
new_closure k w cs = gives (value.Closure (length cs + 1)) w (cs ++ k ∷ [])

abbrev pub closure_at : ℕ → Act (Option Closure)
closure_at number w cs = gives (slice_get cs (number - 1)) w cs

-- ---- choices

abbrev pub either : {A : Type 0} → Bool → Act A → Act A → Act A
either true here there = here
either false here there = there

-- what follows a statement is done where it ended normally
abbrev pub then_do : Flow → (Bound → Act Flow) → Act Flow
then_do (normal bound) next = next bound
then_do (returned vs) next = give (returned vs)
then_do broken next = give broken

-- behind a block the locals around it are in scope
abbrev pub leave_block : Bound → Flow → Flow
leave_block around (normal bound) = normal around
leave_block around (returned vs) = returned vs
leave_block around broken = broken

-- after a run of a loop's body: `break` ends the loop normally
abbrev pub next_turn : Bound → Flow → (Bound → Act Flow) → Act Flow
next_turn around (normal bound) more = more bound
next_turn around (returned vs) more = give (returned vs)
next_turn around broken more = give (normal around)

-- what a function gives whose body ended so
abbrev pub results_of : Flow → List Value
results_of (normal bound) = []
results_of (returned vs) = vs
results_of broken = []
