use Rattle.std.proofs.Common.{length}
use Rattle.lua_parser.specs.Machine.Plan.{Item, read}
use Rattle.lua_parser.specs.Machine.Steps.{tuple_then}
use Rattle.lua_parser.specs.TypeReadings.{Leads}
use Rattle.lua_parser.proofs.TypeSteps.{more_bodies}
use Rattle.lua_parser.proofs.annotations.body_results.Given as goal

abbrev pub invariant-loop-tuples : goal.invariant-loop-tuples
invariant-loop-tuples l = Leads 1 (read Item.body_results) l.fn.cursor (λ k. tuple_then (more_bodies l.pos l.tuples k)) l.cursor

abbrev pub decreases-loop-tuples : goal.decreases-loop-tuples
decreases-loop-tuples l = length l.cursor
