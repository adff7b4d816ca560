use Rattle.std.proofs.Common.{◌∙◌}
use Rattle.type_reader.specs.Lent.{declared_in}
use Rattle.type_reader.proofs.Flags.{passed_then, passed_else, turn_length}
use Rattle.type_reader.proofs.circles.pass.Goals as goal
use Rattle.type_reader.proofs.circles.pass.Goals.{then-branch, else-branch}

pub loop-at-preserved : goal.loop-at-preserved
loop-at-preserved c = record {
  passed = elim c.if-branch.branch [
    | then-branch w ↦ passed_then (declared_in c.args.«module».declared.now) c.args.to.now c.args.flags.now.items c.loop-at.flags.items c.turn.new.flags.items c.loop-at.at c.loop-at.changed c.in_ok-turn.field-0 c.if-branch.changed c.loop-at.invariant.passed c.in_ok-turn.ensures w.if-branch.true w.changed-is
    | else-branch w ↦ passed_else (declared_in c.args.«module».declared.now) c.args.to.now c.args.flags.now.items c.loop-at.flags.items c.turn.new.flags.items c.loop-at.at c.loop-at.changed c.in_ok-turn.field-0 c.if-branch.changed c.loop-at.invariant.passed c.in_ok-turn.ensures w.if-branch.false w.changed-is
  ];
  length = turn_length (declared_in c.args.«module».declared.now) c.args.to.now c.loop-at.flags.items c.turn.new.flags.items c.loop-at.at c.in_ok-turn.field-0 c.in_ok-turn.ensures ∙ c.loop-at.invariant.length;
}
