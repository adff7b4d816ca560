-- A machine as its users see it, and what each event tells of the run of its code.
use Rattle.std.specs.Prelude.{◌≡◌, ℕ, ◌+◌, ◌-◌, ◌<◌, Bool, true, false, List, [], ◌++◌, length, map, take, Option, Some, None}
use Rattle.tl_base.specs.declared.crossing.Crossing.{Crossing}
use Rattle.lua_meaning.specs.World.{World, KindError}
use Rattle.lua_meaning.specs.Programs.{finished, failed, spent}
use Rattle.lua_code.specs.declared.code.Code.{Code}
use Rattle.lua_code.specs.declared.code.Proto.{Proto}
use Rattle.lua_code.specs.Configurations.{Next, go, stop, stuck}
use Rattle.lua_code.specs.Steps.{begin_turn}
use Rattle.lua_machine.specs.declared.state.State.{State}
use Rattle.lua_machine.specs.declared.tracing.TraceStep.{TraceStep}
use Rattle.lua_machine.specs.declared.events.Event.{Event}
use Rattle.lua_machine.specs.declared.events.Event.TheVariants as event
use Rattle.lua_machine.specs.declared.events.Status.{Status}
use Rattle.lua_machine.specs.declared.events.Status.TheVariants as status
use Rattle.lua_machine.specs.Runs.{after, begun_from, world_in, output_in, writing, at_work, step_of, noted_all}

-- ---- where the run is

abbrev pub next_at : List Proto → Status → State → Next
next_at code status.Fresh s = begin_turn code s.store.turns s.store
next_at code status.Running s = at_work s
next_at code status.Done s = stop finished s.store
next_at code (status.Raised v) s = stop (failed v) s.store
next_at code status.Spent s = stop spent s.store
next_at code status.Stuck s = stuck

abbrev pub turns_in : Next → ℕ
turns_in (go c) = (world_in c).turns
turns_in (stop e w) = w.turns
turns_in stuck = 0

abbrev pub mark_in : Next → Option Crossing
mark_in (go c) = (world_in c).mark
mark_in (stop e w) = w.mark
mark_in stuck = None

abbrev pub error_in : Next → Option KindError
error_in (go c) = (world_in c).error
error_in (stop e w) = w.error
error_in stuck = None

-- ---- events

abbrev pub IsText : Event → Type 0
IsText (event.Output text) = Unit {0}
IsText e = ⊥

-- a text that is told is no empty one
abbrev pub TellsSome : Event → Type 0
TellsSome (event.Output text) = 0 < length text
TellsSome e = Unit {0}

-- where the run is when an event is told: its text was written, which the machine doesn't keep
abbrev pub showing : Event → Next → Next
showing (event.Output text) n = writing text n
showing e n = n

-- whether the run goes on after an event, and how it has ended if not
abbrev pub IsAfter : Event → Next → Type 0
IsAfter (event.Output text) n = (s : State) × (n ≡ at_work s)
IsAfter event.Done n = (w : World) × (n ≡ stop finished w)
IsAfter (event.Raised v) n = (w : World) × (n ≡ stop (failed v) w)
IsAfter event.Spent n = (w : World) × (n ≡ stop spent w)

-- Some steps lead from here to what an event tells. A text is written by the last step but one, and nothing was written before.
pub record Tells (code : List Proto) (here : Next) (e : Event) (there : Next) (limit : ℕ) (traced : List TraceStep) : Type 0 where
  pub steps : ℕ
  pub comes : after code steps here ≡ showing e there
  pub ends : IsAfter e there
  pub quiet : IsText e → (k : ℕ) × (steps ≡ k + 2) × (output_in (after code k here) ≡ [])
  pub some : TellsSome e
  pub noted : traced ≡ noted_all limit [] (begun_from code steps here)

-- ---- machines

-- A machine: its code, where the run of the code is, without its output and its input, and what its calls answer. Where it lost its memory it is
-- nowhere, and its calls answer what they answered before.
pub record Sight : Type 0 where
  pub code : Code
  pub lost : Bool
  pub next : Next
  pub turns : ℕ
  pub mark : Option Crossing
  pub error : Option KindError
  pub trace : List TraceStep
  -- so many steps are traced
  pub limit : ℕ

-- how many steps there is room for
abbrev pub room : Sight → ℕ
room m = m.limit - length m.trace

-- An event tells that the run has come so far: some steps of the code's run lead from where the machine was to where it is.
pub record Advances (old new : Sight) (e : Event) : Type 0 where
  pub alive : old.lost ≡ false
  pub still : new.lost ≡ false
  pub code : new.code ≡ old.code
  pub limit : new.limit ≡ old.limit
  pub steps : ℕ
  pub comes : after old.code.functions steps old.next ≡ showing e new.next
  pub ends : IsAfter e new.next
  pub quiet : IsText e → (k : ℕ) × (steps ≡ k + 2) × (output_in (after old.code.functions k old.next) ≡ [])
  pub some : TellsSome e
  pub bare : output_in new.next ≡ []
  -- what the other calls answer is that of the run where it is
  pub turns : new.turns ≡ turns_in new.next
  pub mark : new.mark ≡ mark_in new.next
  pub error : new.error ≡ error_in new.next
  pub trace : new.trace ≡ old.trace ++ take (room old) (map step_of (begun_from old.code.functions steps old.next))

-- Want of memory: from then on nothing else is told, and the other calls answer what they answered before.
pub record Loses (old new : Sight) : Type 0 where
  pub lost : new.lost ≡ true
  pub code : new.code ≡ old.code
  pub turns : new.turns ≡ old.turns
  pub mark : new.mark ≡ old.mark
  pub error : new.error ≡ old.error
  pub trace : new.trace ≡ old.trace

-- A machine that nothing was told of yet.
pub record Begins (code : Code) (start : World) (limit : ℕ) (m : Sight) : Type 0 where
  pub code_is : m.code ≡ code
  pub alive : m.lost ≡ false
  pub next : m.next ≡ begin_turn code.functions start.turns start
  pub turns : m.turns ≡ start.turns
  pub mark : m.mark ≡ None
  pub error : m.error ≡ None
  pub trace : m.trace ≡ []
  pub limit_is : m.limit ≡ limit

-- ended: the run has ended, and the machine has told it or has lost its memory
abbrev pub Settled : Status → Type 0
Settled status.Fresh = ⊥
Settled status.Stuck = ⊥
Settled s = Unit {0}

-- what stays where an event could not be told
pub record Keeps (old new : Sight) : Type 0 where
  pub code : new.code ≡ old.code
  pub trace : new.trace ≡ old.trace
