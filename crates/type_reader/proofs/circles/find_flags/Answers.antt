use Rattle.std.proofs.Common.{ℕ, sym, subst, ◌∙◌, length}
use Rattle.type_reader.specs.Lent.{declared_in}
use Rattle.type_reader.specs.Declarations.{leads_to}
use Rattle.type_reader.specs.Rising.{IsDoneBelow}
use Rattle.type_reader.proofs.Entries.{declared_length, none_length}
use Rattle.type_reader.proofs.Flags.{risen_is, risen_length, rises_from, passed_rises, passed_length, passed_done, passed_fewer}
use Rattle.type_reader.proofs.circles.find_flags.Goals as goal

pub loop-flags-init : goal.loop-flags-init
loop-flags-init c =
    let rises = c.in_ok-turn_in_order.ensures in
    record {
      rises = rises_from (declared_in c.args.«module».declared.now) c.args.to.now c.in_ok-flags.flags.items (leads_to (declared_in c.args.«module».declared.now) c.args.to.now 0) c.turn_in_order.new.flags.items c.in_ok-flags.ensures rises;
      length = risen_length (declared_in c.args.«module».declared.now) c.args.to.now rises.0 c.in_ok-flags.flags.items c.turn_in_order.new.flags.items rises.1 ∙ none_length c.args.«module».declared.now c.in_ok-flags.flags.items c.in_ok-flags.ensures;
    }

pub loop-flags-smaller : goal.loop-flags-smaller
loop-flags-smaller c = passed_fewer (declared_in c.args.«module».declared.now) c.args.to.now c.loop-flags.flags.items c.pass.new.flags.items (length c.args.«module».declared.now) c.in_ok-pass.field-0 c.if-branch.true c.in_ok-pass.ensures

pub loop-flags-preserved : goal.loop-flags-preserved
loop-flags-preserved c = record {
  rises = passed_rises (declared_in c.args.«module».declared.now) c.args.to.now (leads_to (declared_in c.args.«module».declared.now) c.args.to.now 0) c.loop-flags.flags.items c.pass.new.flags.items (length c.args.«module».declared.now) c.in_ok-pass.field-0 c.loop-flags.invariant.rises c.in_ok-pass.ensures;
  length = passed_length (declared_in c.args.«module».declared.now) c.args.to.now c.loop-flags.flags.items c.pass.new.flags.items (length c.args.«module».declared.now) c.in_ok-pass.field-0 c.in_ok-pass.ensures ∙ c.loop-flags.invariant.length;
}

pub returns : goal.returns
returns c =
    let rises = passed_rises (declared_in c.args.«module».declared.now) c.args.to.now (leads_to (declared_in c.args.«module».declared.now) c.args.to.now 0) c.loop-flags.flags.items c.pass.new.flags.items (length c.args.«module».declared.now) c.in_ok-pass.field-0 c.loop-flags.invariant.rises c.in_ok-pass.ensures in
    let done = passed_done (declared_in c.args.«module».declared.now) c.args.to.now c.loop-flags.flags.items c.pass.new.flags.items (length c.args.«module».declared.now) c.in_ok-pass.field-0 c.if-branch.false c.in_ok-pass.ensures in
    let P : ℕ → Type 0 = λ n. IsDoneBelow (declared_in c.args.«module».declared.now) c.args.to.now c.pass.new.flags.items n in
    risen_is (declared_in c.args.«module».declared.now) c.args.to.now rises.0 c.pass.new.flags.items rises.1 (subst P (sym (declared_length c.args.«module».declared.now)) done.1)
