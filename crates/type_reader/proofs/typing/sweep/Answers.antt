use Rattle.std.proofs.Common.{◌∙◌}
use Rattle.type_reader.specs.Lent.{declared_in}
use Rattle.type_reader.proofs.Sweeping.{swept_then, swept_else, settled_length}
use Rattle.type_reader.proofs.typing.sweep.Goals as goal
use Rattle.type_reader.proofs.typing.sweep.Goals.{then-branch, else-branch}

pub loop-at-preserved : goal.loop-at-preserved
loop-at-preserved c = record {
  swept = elim c.if-branch.branch [
    | then-branch w ↦ swept_then c.args.«module».known.now (declared_in c.args.«module».declared.now) c.args.types.now.items c.loop-at.types.items c.settle.new.types.items c.loop-at.at c.loop-at.changed c.in_ok-settle.field-0 c.if-branch.changed c.loop-at.invariant.swept c.in_ok-settle.ensures w.if-branch.true w.changed-is
    | else-branch w ↦ swept_else c.args.«module».known.now (declared_in c.args.«module».declared.now) c.args.types.now.items c.loop-at.types.items c.settle.new.types.items c.loop-at.at c.loop-at.changed c.in_ok-settle.field-0 c.if-branch.changed c.loop-at.invariant.swept c.in_ok-settle.ensures w.if-branch.false w.changed-is
  ];
  length = settled_length c.args.«module».known.now (declared_in c.args.«module».declared.now) c.loop-at.types.items c.settle.new.types.items c.loop-at.at c.in_ok-settle.field-0 c.in_ok-settle.ensures ∙ c.loop-at.invariant.length;
}
