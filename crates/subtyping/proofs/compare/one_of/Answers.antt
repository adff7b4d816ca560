use Rattle.std.proofs.Common.{true, false, ◌+◌}
use Rattle.std.specs.Prelude.{Ok}
use Rattle.tl_types.specs.declared.types.Ty.{Ty}
use Rattle.tl_types.specs.declared.types.TupleOf.{TupleOf}
use Rattle.tl_types.specs.Below.{Test, tuple_below}
use Rattle.subtyping.proofs.Monotone.{tuple_mono}
use Rattle.subtyping.proofs.Steps.{failed_after, at_ok, any_step, any_hit, any_done}
use Rattle.subtyping.proofs.compare.one_of.Goals as goal

pub returns-in_err-tuple : goal.returns-in_err-tuple
returns-in_err-tuple c = failed_after c.args.rules.loose c.args.rules.bodies.now _ _ _ _ _ _ _ _ _ c.loop-q.invariant c.tuple.ensures c.from_residual.ensures.0

pub returns-then-branch : goal.returns-then-branch
returns-then-branch c =
    let loose = c.args.rules.loose in
    let bodies = c.args.rules.bodies.now in
    let p = c.args.p.now in
    let claims = λ (R : Test) (q : TupleOf Ty). tuple_below R p q in
    any_hit loose bodies claims c.args.qs.now (c.loop-q.q-index + 1) _ _ (any_step loose bodies claims c.args.qs.now (λ q A B to. tuple_mono A B to p q) c.loop-q.q-index c.q-item.result (Ok true) _ _ _ c.loop-q-test.true c.q-item.is c.loop-q.invariant (at_ok loose bodies _ _ _ _ _ _ c.tuple.ensures c.in_ok-tuple.was c.if-branch.true))

pub loop-q-preserved : goal.loop-q-preserved
loop-q-preserved c =
    let loose = c.args.rules.loose in
    let bodies = c.args.rules.bodies.now in
    let p = c.args.p.now in
    let claims = λ (R : Test) (q : TupleOf Ty). tuple_below R p q in
    any_step loose bodies claims c.args.qs.now (λ q A B to. tuple_mono A B to p q) c.loop-q.q-index c.q-item.result (Ok false) _ _ _ c.loop-q-test.true c.q-item.is c.loop-q.invariant (at_ok loose bodies _ _ _ _ _ _ c.tuple.ensures c.in_ok-tuple.was c.if-branch.false)

pub returns : goal.returns
returns c = any_done c.args.rules.loose c.args.rules.bodies.now (λ (R : Test) (q : TupleOf Ty). tuple_below R c.args.p.now q) c.args.qs.now c.loop-q.q-index (Ok false) _ _ c.loop-q-test.false c.loop-q.invariant
