use Rattle.std.proofs.Common.{◌≡◌, ◌++◌, drop}
use Rattle.std.specs.Option.{option_map}
use Rattle.lua_machine.specs.Lists.{cells_here}
use Rattle.lua_machine.proofs.lists.cells_of.Given as goal

abbrev pub invariant-loop-capture : goal.invariant-loop-capture
invariant-loop-capture l = option_map (λ cs. l.cells.items ++ cs) (cells_here l.frames.frame (drop l.capture-index l.captures)) ≡ cells_here l.frames.frame l.captures
