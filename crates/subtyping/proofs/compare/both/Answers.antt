use Rattle.subtyping.proofs.Steps.{failed, and_stop, and_then, at_ok}
use Rattle.subtyping.proofs.compare.both.Goals as goal

pub returns-in_err-assume : goal.returns-in_err-assume
returns-in_err-assume c = failed c.args.rules.loose c.args.rules.bodies.now _ _ _ _ _ _ (c.assume.ensures c.args.rules.loose c.args.rules.bodies.now) c.from_residual.ensures.0

pub returns-then-not-branch : goal.returns-then-not-branch
returns-then-not-branch c =
    let loose = c.args.rules.loose in
    let bodies = c.args.rules.bodies.now in
    and_stop loose bodies (λ R. R c.args.a.now c.args.b.now) (λ R. R c.args.b.now c.args.a.now) _ _ (at_ok loose bodies _ _ _ _ _ _ (c.assume.ensures loose bodies) c.in_ok-assume.was c.if-not-branch.true)

pub returns : goal.returns
returns c =
    let loose = c.args.rules.loose in
    let bodies = c.args.rules.bodies.now in
    and_then loose bodies (λ R. R c.args.a.now c.args.b.now) (λ R. R c.args.b.now c.args.a.now) _ _ _ _ (at_ok loose bodies _ _ _ _ _ _ (c.assume.ensures loose bodies) c.in_ok-assume.was c.if-not-branch.false) (c.assume-2.ensures loose bodies)
