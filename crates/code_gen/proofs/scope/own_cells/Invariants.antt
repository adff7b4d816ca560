use Rattle.std.proofs.Common.{◌≡◌, map, take}
use Rattle.lua_code.specs.declared.code.Capture.TheVariants as capture
use Rattle.code_gen.proofs.scope.own_cells.Given as goal

abbrev pub invariant-loop-slot : goal.invariant-loop-slot
invariant-loop-slot l = l.captures ≡ map (λ s. capture.Cell s) (take l.slot-index l.slot-items)
