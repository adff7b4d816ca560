use Rattle.std.proofs.Common.{◌∙◌, sym}
use Rattle.type_reader.proofs.Straight.{fall_next}
use Rattle.type_reader.proofs.ranks.uses_fall.Goals as goal

pub loop-used-preserved : goal.loop-used-preserved
loop-used-preserved c =
    fall_next c.args.own.now c.args.ranks.now c.args.limit c.as_slice-used-items.result.now c.loop-used.used-index _ c.loop-used-test.true c.used-item.is (sym c.use_falls.ensures ∙ c.if-not-use_falls.false)
    ∙ c.loop-used.invariant
