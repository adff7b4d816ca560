use Rattle.std.proofs.Common.{length}
use Rattle.lua_parser.specs.Machine.Plan.{Item, read}
use Rattle.lua_parser.specs.TypeReadings.{Leads}
use Rattle.lua_parser.proofs.TypeSteps.{fields_with}
use Rattle.lua_parser.proofs.annotations.fields_of_interface.Given as goal

abbrev pub invariant-loop-alloc : goal.invariant-loop-alloc
invariant-loop-alloc l = Leads 0 (read Item.fields_of_interface) l.fn.cursor (λ k. read Item.fields_of_interface (fields_with l.fields k)) l.cursor

abbrev pub decreases-loop-alloc : goal.decreases-loop-alloc
decreases-loop-alloc l = length l.cursor
