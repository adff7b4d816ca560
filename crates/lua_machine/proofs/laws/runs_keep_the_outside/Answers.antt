use Rattle.lua_machine.proofs.Ends.{begins_alike, stops_end}
use Rattle.lua_machine.proofs.Outside.{keep_outside}
use Rattle.lua_machine.proofs.laws.runs_keep_the_outside.Goals as goal

pub returns : goal.returns
returns c = record { begins = begins_alike; steps = λ code out input k n. keep_outside out input code k n; ends = stops_end }
