use Rattle.std.proofs.Common.{◌++◌, length}
use Rattle.lua_tree.specs.declared.annotation.TypeExpr.TheVariants as t
use Rattle.lua_parser.specs.Machine.Plan.{Item, read}
use Rattle.lua_parser.specs.TypeReadings.{Leads, rest_of_name}
use Rattle.lua_parser.proofs.type_parts.dotted.Given as goal

abbrev pub invariant-loop-last : goal.invariant-loop-last
invariant-loop-last l = Leads 0 (rest_of_name l.fn.first) l.fn.cursor (λ k. read (Item.more_of_name l.last) λ d. k (t.Named l.fn.first.pos (l.parts ++ d.0) d.1)) l.cursor

abbrev pub decreases-loop-last : goal.decreases-loop-last
decreases-loop-last l = length l.cursor
