use Rattle.std.proofs.Common.{ℕ, sym, subst, ◌∙◌, length}
use Rattle.type_reader.specs.Lent.{declared_in}
use Rattle.type_reader.specs.Declarations.{types_to}
use Rattle.type_reader.specs.Growing.{IsClosedBelow}
use Rattle.type_reader.proofs.Closing.{grown_is, grown_length}
use Rattle.type_reader.proofs.Entries.{declared_length, first_length}
use Rattle.type_reader.proofs.Sweeping.{grows_from, swept_grows, swept_length, swept_closed, swept_fewer_if}
use Rattle.type_reader.proofs.typing.find_types.Goals as goal

pub loop-types-init : goal.loop-types-init
loop-types-init c =
    let grows = c.in_ok-settle_in_order.ensures in
    record {
      grows = grows_from c.args.«module».known.now (declared_in c.args.«module».declared.now) c.in_ok-types.types.items (types_to c.args.«module».known.now (declared_in c.args.«module».declared.now) 0) c.settle_in_order.new.types.items c.in_ok-types.ensures grows;
      length = grown_length c.args.«module».known.now (declared_in c.args.«module».declared.now) grows.0 c.in_ok-types.types.items c.settle_in_order.new.types.items grows.1 ∙ first_length c.args.«module».declared.now c.in_ok-types.types.items c.in_ok-types.ensures;
    }

pub loop-types-smaller : goal.loop-types-smaller
loop-types-smaller c = swept_fewer_if c.args.«module».known.now (declared_in c.args.«module».declared.now) c.loop-types.types.items c.sweep.new.types.items (length c.args.«module».declared.now) c.in_ok-sweep.field-0 c.if-branch.true c.in_ok-sweep.ensures

pub loop-types-preserved : goal.loop-types-preserved
loop-types-preserved c = record {
  grows = swept_grows c.args.«module».known.now (declared_in c.args.«module».declared.now) (types_to c.args.«module».known.now (declared_in c.args.«module».declared.now) 0) c.loop-types.types.items c.sweep.new.types.items (length c.args.«module».declared.now) c.in_ok-sweep.field-0 c.loop-types.invariant.grows c.in_ok-sweep.ensures;
  length = swept_length c.args.«module».known.now (declared_in c.args.«module».declared.now) c.loop-types.types.items c.sweep.new.types.items (length c.args.«module».declared.now) c.in_ok-sweep.field-0 c.in_ok-sweep.ensures ∙ c.loop-types.invariant.length;
}

pub returns : goal.returns
returns c =
    let grows = swept_grows c.args.«module».known.now (declared_in c.args.«module».declared.now) (types_to c.args.«module».known.now (declared_in c.args.«module».declared.now) 0) c.loop-types.types.items c.sweep.new.types.items (length c.args.«module».declared.now) c.in_ok-sweep.field-0 c.loop-types.invariant.grows c.in_ok-sweep.ensures in
    let closed = swept_closed c.args.«module».known.now (declared_in c.args.«module».declared.now) c.loop-types.types.items c.sweep.new.types.items (length c.args.«module».declared.now) c.in_ok-sweep.field-0 c.if-branch.false c.in_ok-sweep.ensures in
    let P : ℕ → Type 0 = λ n. IsClosedBelow c.args.«module».known.now (declared_in c.args.«module».declared.now) c.sweep.new.types.items n in
    grown_is c.args.«module».known.now (declared_in c.args.«module».declared.now) grows.0 c.sweep.new.types.items grows.1 (subst P (sym (declared_length c.args.«module».declared.now)) closed.1)
