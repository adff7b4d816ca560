use Rattle.std.proofs.Common.{ap, sym}
use Rattle.lua_parser.specs.Grammar.TooDeep.{limits}
use Rattle.lua_parser.proofs.Counting.Limits.{none_more}
use Rattle.lua_parser.proofs.labels.Marks.first_over.Goals as goal

pub loop-number-preserved : goal.loop-number-preserved
loop-number-preserved c =
    none_more limits c.self.inside.labels c.as_slice-label-items.result.now _ c.loop-number.number _ c.is_over.result c.as_slice-label-items.ensures (ap (λ r. r.labels) (sym c.self.view_is)) c.loop-number.invariant c.loop-number-test.true c.if-is_over.false c.is_over.ensures.1
