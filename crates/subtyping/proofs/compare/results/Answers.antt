use Rattle.std.proofs.Common.{true, false, ◌+◌}
use Rattle.std.specs.Prelude.{Ok}
use Rattle.std.specs.List.{list_any}
use Rattle.tl_types.specs.declared.types.Ty.{Ty}
use Rattle.tl_types.specs.declared.types.TupleOf.{TupleOf}
use Rattle.tl_types.specs.Below.{Test, tuple_below}
use Rattle.subtyping.proofs.Steps.{failed_after, at_ok, all_step, all_stop, all_done}
use Rattle.subtyping.proofs.compare.results.Goals as goal

pub returns-in_err-one_of : goal.returns-in_err-one_of
returns-in_err-one_of c = failed_after c.args.rules.loose c.args.rules.bodies.now _ _ _ _ _ _ _ _ _ c.loop-p.invariant c.one_of.ensures c.from_residual.ensures.0

pub returns-then-not-branch : goal.returns-then-not-branch
returns-then-not-branch c =
    let loose = c.args.rules.loose in
    let bodies = c.args.rules.bodies.now in
    let claims = λ (R : Test) (p : TupleOf Ty). list_any (tuple_below R p) c.args.qs.now in
    all_stop loose bodies claims c.args.ps.now (c.loop-p.p-index + 1) _ _ (all_step loose bodies claims c.args.ps.now c.loop-p.p-index c.p-item.result (Ok false) _ _ _ c.loop-p-test.true c.p-item.is c.loop-p.invariant (at_ok loose bodies _ _ _ _ _ _ c.one_of.ensures c.in_ok-one_of.was c.if-not-branch.true))

pub loop-p-preserved : goal.loop-p-preserved
loop-p-preserved c =
    let loose = c.args.rules.loose in
    let bodies = c.args.rules.bodies.now in
    let claims = λ (R : Test) (p : TupleOf Ty). list_any (tuple_below R p) c.args.qs.now in
    all_step loose bodies claims c.args.ps.now c.loop-p.p-index c.p-item.result (Ok true) _ _ _ c.loop-p-test.true c.p-item.is c.loop-p.invariant (at_ok loose bodies _ _ _ _ _ _ c.one_of.ensures c.in_ok-one_of.was c.if-not-branch.false)

pub returns : goal.returns
returns c = all_done c.args.rules.loose c.args.rules.bodies.now (λ (R : Test) (p : TupleOf Ty). list_any (tuple_below R p) c.args.qs.now) c.args.ps.now c.loop-p.p-index (Ok true) _ _ c.loop-p-test.false c.loop-p.invariant
