-- How a call begins in the machine, as a step of the code's run.
use Rattle.std.specs.Prelude.{◌≡◌, ℕ, List, [], ◌∷◌, ◌++◌, codes, Option, None, Some}
use Rattle.lua_meaning.specs.World.{World, write, error_text, recorded, kind_at}
use Rattle.lua_meaning.specs.Operators.{kind_name}
use Rattle.lua_meaning.specs.Programs.{spent}
use Rattle.lua_values.specs.Shown.{shown_text}
use Rattle.tl_base.specs.declared.place.Pos.{Pos}
use Rattle.lua_values.specs.declared.value.Value.{Value}
use Rattle.lua_values.specs.declared.value.Value.TheVariants as value
use Rattle.lua_code.specs.Configurations.{Level, CodeClosure, caller, running, giving, raising, Next, go, stop, stuck}
use Rattle.lua_machine.specs.declared.state.State.{State}
use Rattle.lua_machine.specs.declared.calls.Called.{Called}
use Rattle.lua_machine.specs.declared.calls.Called.TheVariants as come

-- the function that runs waits, above those that wait already
abbrev pub levels_with_caller : State → List Level
levels_with_caller s = caller s.frames.frame ∷ s.frames.levels

abbrev pub written : Option (List ℕ) → World → World
written None w = w
written (Some text) w = write text w

abbrev pub next_of_call : Called → State → Next
next_of_call come.Entered s = go (running s.frames.frame s.frames.levels s.store s.closures)
next_of_call (come.Gives text) s = go (giving [] (levels_with_caller s) (written text s.store) s.closures)
next_of_call (come.Raise v) s = go (raising v (levels_with_caller s) s.store s.closures)
next_of_call come.Spent s = stop spent s.store
next_of_call come.Stuck s = stuck

-- what `print` writes behind its first text
abbrev pub printed_on : List Value → List ℕ
printed_on [] = 10 ∷ []
printed_on (v ∷ vs) = 9 ∷ (shown_text v ++ printed_on vs)

-- a value that is no function can't be called
abbrev pub not_called : Pos → Value → List Level → World → List CodeClosure → Next
not_called p v levels w ks =
    go (raising (value.Str (error_text p (codes "call of a " ++ kind_name v) w)) levels (recorded (kind_at w p) p w) ks)
