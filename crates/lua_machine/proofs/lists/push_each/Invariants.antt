use Rattle.std.proofs.Common.{◌≡◌, ◌-◌, drop}
use Rattle.lua_meaning.specs.Trees.{adjust}
use Rattle.lua_code.specs.Instructions.{spread}
use Rattle.lua_machine.specs.Frames.{with_stack}
use Rattle.lua_machine.proofs.lists.push_each.Given as goal

abbrev pub invariant-loop-at : goal.invariant-loop-at
invariant-loop-at l =
    with_stack (spread (adjust (l.count - l.at) (drop l.at l.values)) l.frames.frame.stack) l.frames ≡ with_stack (spread (adjust l.count l.values) l.initial.frames.frame.stack) l.initial.frames
