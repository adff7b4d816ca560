use Rattle.std.proofs.Common.{◌&&◌}
use Rattle.subtyping.proofs.Steps.{failed, and_stop, and_then, at_ok}
use Rattle.subtyping.proofs.compare.map.Goals as goal

pub returns-in_err-both : goal.returns-in_err-both
returns-in_err-both c = failed c.args.rules.loose c.args.rules.bodies.now _ _ _ _ _ _ c.both.ensures c.from_residual.ensures.0

pub returns-then-not-branch : goal.returns-then-not-branch
returns-then-not-branch c =
    let loose = c.args.rules.loose in
    let bodies = c.args.rules.bodies.now in
    let k = c.args.k.now in
    let l = c.args.l.now in
    let v = c.args.v.now in
    let w = c.args.w.now in
    and_stop loose bodies (λ R. R k l && R l k) (λ R. R v w && R w v) _ _ (at_ok loose bodies _ _ _ _ _ _ c.both.ensures c.in_ok-both.was c.if-not-branch.true)

pub returns : goal.returns
returns c =
    let loose = c.args.rules.loose in
    let bodies = c.args.rules.bodies.now in
    let k = c.args.k.now in
    let l = c.args.l.now in
    let v = c.args.v.now in
    let w = c.args.w.now in
    and_then loose bodies (λ R. R k l && R l k) (λ R. R v w && R w v) _ _ _ _ (at_ok loose bodies _ _ _ _ _ _ c.both.ensures c.in_ok-both.was c.if-not-branch.false) c.both-2.ensures
