use Rattle.std.proofs.Common.{◌≡◌, ◌+◌, ◌≤◌, true, false, ap, length, max, arith}
use Rattle.std.specs.Prelude.{Ok}
use Rattle.tl_types.specs.Unions.{or_nil}
use Rattle.subtyping.specs.Pairs.{side_ty}
use Rattle.subtyping.proofs.Steps.{failed_after, at_ok}
use Rattle.subtyping.proofs.TupleSteps.{place_step, place_stop, place_done}
use Rattle.subtyping.proofs.compare.tuple.Goals as goal

pub returns-in_err-assume : goal.returns-in_err-assume
returns-in_err-assume c = failed_after c.args.rules.loose c.args.rules.bodies.now _ _ _ _ _ _ _ _ _ c.loop-i.invariant (c.assume.ensures c.args.rules.loose c.args.rules.bodies.now) c.from_residual.ensures.0

pub returns-then-not-branch : goal.returns-then-not-branch
returns-then-not-branch c =
    let loose = c.args.rules.loose in
    let bodies = c.args.rules.bodies.now in
    let p = c.args.p.now in
    let q = c.args.q.now in
    let within : c.loop-i.i + 1 ≤ max (length p.items) (length q.items) = omega (arith, c.loop-i-test.true, c.max-most.ensures, c.len.ensures, c.len-2.ensures) in
    place_stop p q loose bodies (c.loop-i.i + 1) _ _ within
    (place_step p q loose bodies c.loop-i.i (side_ty c.place.result) (side_ty c.place-in-loop-i.result) (Ok false) _ _ _ c.place.ensures c.place-in-loop-i.ensures c.loop-i.invariant
    (at_ok loose bodies _ _ _ _ _ _ (c.assume.ensures loose bodies) c.in_ok-assume.was c.if-not-branch.true))

pub loop-i-preserved : goal.loop-i-preserved
loop-i-preserved c =
    let loose = c.args.rules.loose in
    let bodies = c.args.rules.bodies.now in
    let p = c.args.p.now in
    let q = c.args.q.now in
    place_step p q loose bodies c.loop-i.i (side_ty c.place.result) (side_ty c.place-in-loop-i.result) (Ok true) _ _ _ c.place.ensures c.place-in-loop-i.ensures c.loop-i.invariant
    (at_ok loose bodies _ _ _ _ _ _ (c.assume.ensures loose bodies) c.in_ok-assume.was c.if-not-branch.false)

pub returns : goal.returns
returns c =
    let loose = c.args.rules.loose in
    let bodies = c.args.rules.bodies.now in
    let p = c.args.p.now in
    let q = c.args.q.now in
    let most : c.loop-i.i ≡ max (length p.items) (length q.items) = omega (arith, c.loop-i-test.false, c.loop-i.auto.i-end, c.max-most.ensures, c.len.ensures, c.len-2.ensures) in
    place_done p q loose bodies c.loop-i.i (or_nil c.get.result.now) (or_nil c.get-2.result.now) c.assume-2.result _ _ _ most (ap or_nil c.get.ensures) (ap or_nil c.get-2.ensures) c.loop-i.invariant (c.assume-2.ensures loose bodies)
