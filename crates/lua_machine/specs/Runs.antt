-- Runs of the code by repeated steps, and what is seen of them.
use Rattle.std.specs.Prelude.{◌≡◌, ℕ, zero, suc, ◌+◌, ◌-◌, ◌<◌, Bool, true, false, cond, nat_lt, List, [], ◌∷◌, ◌++◌, length, map, take, Option, Some, None}
use Rattle.tl_base.specs.declared.crossing.Crossing.{Crossing}
use Rattle.lua_meaning.specs.World.{World, KindError, write}
use Rattle.lua_meaning.specs.Programs.{finished, failed, spent}
use Rattle.lua_code.specs.declared.code.Code.{Code}
use Rattle.lua_code.specs.declared.code.Proto.{Proto}
use Rattle.lua_code.specs.Configurations.{Config, running, calling, giving, raising, Next, go, stop, stuck}
use Rattle.lua_code.specs.Steps.{step, trace, traced_on}
use Rattle.lua_machine.specs.declared.state.State.{State}
use Rattle.lua_machine.specs.declared.tracing.TraceStep.{TraceStep}
use Rattle.lua_machine.specs.declared.pacing.Pace.{Pace}
use Rattle.lua_machine.specs.declared.pacing.Pace.TheVariants as pace

-- ---- steps

-- where a run is after so many steps; where it has ended, it stays
abbrev pub after : List Proto → ℕ → Next → Next
after code zero n = n
after code (suc k) (go c) = after code k (step code c)
after code (suc k) n = n

-- the instructions begun in so many steps
abbrev pub begun_from : List Proto → ℕ → Next → List (ℕ × ℕ)
begun_from code k n = traced_on (trace code k) n

-- so many steps lead from here to there, and begin these instructions
pub record Walk (code : List Proto) (steps : ℕ) (here there : Next) (seen : List (ℕ × ℕ)) : Type 0 where
  pub comes : after code steps here ≡ there
  pub begun : begun_from code steps here ≡ seen

-- ---- the world of a run

abbrev pub world_in : Config → World
world_in (running f levels w ks) = w
world_in (calling p v vs levels w ks) = w
world_in (giving vs levels w ks) = w
world_in (raising v levels w ks) = w

abbrev pub in_world : (World → World) → Config → Config
in_world change (running f levels w ks) = running f levels (change w) ks
in_world change (calling p v vs levels w ks) = calling p v vs levels (change w) ks
in_world change (giving vs levels w ks) = giving vs levels (change w) ks
in_world change (raising v levels w ks) = raising v levels (change w) ks

-- what was written; nothing where the code isn't well formed
abbrev pub output_in : Next → List ℕ
output_in (go c) = (world_in c).output
output_in (stop e w) = w.output
output_in stuck = []

-- the same, with a text written behind what was written
abbrev pub writing : List ℕ → Next → Next
writing text (go c) = go (in_world (write text) c)
writing text (stop e w) = stop e (write text w)
writing text stuck = stuck

-- ---- one instruction, with the begin of the call or the end of the function that it leads to

-- the function that runs goes on
abbrev pub at_work : State → Next
at_work s = go (running s.frames.frame s.frames.levels s.store s.closures)

abbrev pub next_of_pace : Pace → State → Next
next_of_pace pace.On s = at_work s
next_of_pace (pace.Output text) s = writing text (at_work s)
next_of_pace pace.Done s = stop finished s.store
next_of_pace (pace.Raised v) s = stop (failed v) s.store
next_of_pace pace.Spent s = stop spent s.store
next_of_pace pace.Stuck s = stuck

abbrev pub IsOutput : Pace → Type 0
IsOutput (pace.Output text) = Unit {0}
IsOutput p = ⊥

-- a text that is told is no empty one
abbrev pub WritesSome : Pace → Type 0
WritesSome (pace.Output text) = 0 < length text
WritesSome p = Unit {0}

-- a text is told, but for the empty one
abbrev pub IsTold : List ℕ → Pace → Type 0
IsTold text pace.On = text ≡ []
IsTold text (pace.Output told) = (told ≡ text) × (0 < length text)
IsTold text p = ⊥

-- Some steps lead from here to what a pace comes to. A text is written by the last step but one, and nothing was written before.
pub record Paces (code : List Proto) (here : Next) (p : Pace) (new : State) (seen : List (ℕ × ℕ)) : Type 0 where
  pub steps : ℕ
  pub walk : Walk code steps here (next_of_pace p new) seen
  pub quiet : IsOutput p → (k : ℕ) × (steps ≡ k + 2) × (output_in (after code k here) ≡ [])
  pub some : WritesSome p

-- ---- the trace

abbrev pub step_of : ℕ × ℕ → TraceStep
step_of s = record { function = s.0; at = s.1 }

-- one step more, where there is room
abbrev pub noted : ℕ → List TraceStep → TraceStep → List TraceStep
noted limit steps s = cond (nat_lt (length steps) limit) (steps ++ s ∷ []) steps

abbrev pub noted_all : ℕ → List TraceStep → List (ℕ × ℕ) → List TraceStep
noted_all limit steps [] = steps
noted_all limit steps (s ∷ ss) = noted_all limit (noted limit steps (step_of s)) ss

-- Some steps lead from here to what a pace comes to, and the instructions begun are noted behind others.
pub record RunsTo (code : List Proto) (here : Next) (p : Pace) (new : State) (limit : ℕ) (before noted_now : List TraceStep) : Type 0 where
  pub steps : ℕ
  pub comes : after code steps here ≡ next_of_pace p new
  pub noted : noted_now ≡ noted_all limit before (begun_from code steps here)
  pub quiet : IsOutput p → (k : ℕ) × (steps ≡ k + 2) × (output_in (after code k here) ≡ [])
  pub some : WritesSome p

-- the same while the function that runs goes on
pub record RunsOn (code : List Proto) (here there : Next) (limit : ℕ) (before noted_now : List TraceStep) : Type 0 where
  pub steps : ℕ
  pub comes : after code steps here ≡ there
  pub noted : noted_now ≡ noted_all limit before (begun_from code steps here)
