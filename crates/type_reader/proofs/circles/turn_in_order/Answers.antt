use Rattle.std.proofs.Common.{zero, ◌∙◌}
use Rattle.type_reader.specs.Lent.{declared_in}
use Rattle.type_reader.specs.Rising.{stays}
use Rattle.type_reader.proofs.Flags.{rises_one, turn_length}
use Rattle.type_reader.proofs.circles.turn_in_order.Goals as goal

pub loop-at-init : goal.loop-at-init
loop-at-init c = record { rises = (zero, stays c.args.flags.now.items); length = c.requires.length }

pub loop-at-preserved : goal.loop-at-preserved
loop-at-preserved c = record {
  rises = rises_one (declared_in c.args.«module».declared.now) c.args.to.now c.args.flags.now.items c.loop-at.flags.items c.turn.new.flags.items _ c.in_ok-turn.field-0 c.loop-at.invariant.rises c.in_ok-turn.ensures;
  length = turn_length (declared_in c.args.«module».declared.now) c.args.to.now c.loop-at.flags.items c.turn.new.flags.items _ c.in_ok-turn.field-0 c.in_ok-turn.ensures ∙ c.loop-at.invariant.length;
}
