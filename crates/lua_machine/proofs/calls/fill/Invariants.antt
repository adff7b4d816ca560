use Rattle.std.proofs.Common.{◌≡◌, ◌-◌, drop}
use Rattle.lua_meaning.specs.Trees.{adjust}
use Rattle.lua_machine.specs.Frames.{with_values}
use Rattle.lua_machine.proofs.calls.fill.Given as goal

abbrev pub invariant-loop-at : goal.invariant-loop-at
invariant-loop-at l = with_values (adjust (l.count - l.at) (drop l.at l.values)) l.frames ≡ with_values (adjust l.count l.values) l.initial.frames
