use Rattle.std.proofs.Common.{zero, ◌∙◌}
use Rattle.type_reader.specs.Lent.{declared_in}
use Rattle.type_reader.specs.Growing.{stays}
use Rattle.type_reader.proofs.Sweeping.{grows_one, settled_length}
use Rattle.type_reader.proofs.typing.settle_in_order.Goals as goal

pub loop-at-init : goal.loop-at-init
loop-at-init c = record { grows = (zero, stays c.args.types.now.items); length = c.requires.length }

pub loop-at-preserved : goal.loop-at-preserved
loop-at-preserved c = record {
  grows = grows_one c.args.«module».known.now (declared_in c.args.«module».declared.now) c.args.types.now.items c.loop-at.types.items c.settle.new.types.items _ c.in_ok-settle.field-0 c.loop-at.invariant.grows c.in_ok-settle.ensures;
  length = settled_length c.args.«module».known.now (declared_in c.args.«module».declared.now) c.loop-at.types.items c.settle.new.types.items _ c.in_ok-settle.field-0 c.in_ok-settle.ensures ∙ c.loop-at.invariant.length;
}
