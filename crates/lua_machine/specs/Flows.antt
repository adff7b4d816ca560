-- What an instruction of the machine comes to, as a step of the code's run.
use Rattle.std.specs.Prelude.{◌≡◌, ◌∷◌, List, Option, Some, None}
use Rattle.tl_base.specs.declared.place.Pos.{Pos}
use Rattle.lua_values.specs.declared.value.Value.{Value}
use Rattle.lua_code.specs.Configurations.{caller, running, calling, giving, raising, Next, go, stop, stuck}
use Rattle.lua_code.specs.Instructions.{Row}
use Rattle.lua_meaning.specs.Programs.{spent}
use Rattle.lua_machine.specs.declared.state.State.{State}
use Rattle.lua_machine.specs.declared.state.Flow.{Flow}
use Rattle.lua_machine.specs.declared.state.Flow.TheVariants as flow

-- where the run is then
abbrev pub next_of : Flow → State → Next
next_of flow.On s = go (running s.frames.frame s.frames.levels s.store s.closures)
next_of flow.Raise s = go (raising s.raised s.frames.levels s.store s.closures)
next_of flow.Spent s = stop spent s.store
next_of flow.Stuck s = stuck

-- what is done at a place leads from a state to this flow and another state
abbrev pub Obeys : Row → Pos → State → State → Flow → Type 0
Obeys row p old new flow = row p old.frames.frame old.frames.levels old.store old.closures ≡ next_of flow new

-- a value is called with arguments at a place, and the function that runs waits; or there is nothing to call
abbrev pub next_of_callee : Option (Value × List Value) → Pos → State → Next
next_of_callee None p s = stuck
next_of_callee (Some c) p s = go (calling p c.0 c.1 (caller s.frames.frame ∷ s.frames.levels) s.store s.closures)

-- the function that runs is left with results; or there are none
abbrev pub next_of_results : Option (List Value) → State → Next
next_of_results None s = stuck
next_of_results (Some vs) s = go (giving vs s.frames.levels s.store s.closures)
