use Rattle.std.proofs.Common.{true, false, ◌+◌, subst}
use Rattle.std.specs.Prelude.{Ok}
use Rattle.tl_types.specs.Types.{Field}
use Rattle.tl_types.specs.Below.{Test, named, has_below}
use Rattle.subtyping.specs.Pairs.{Compared}
use Rattle.subtyping.proofs.Steps.{failed_after, at_ok, all_step, all_stop, all_done}
use Rattle.subtyping.proofs.compare.record.Goals as goal

pub returns-in_err-has_named : goal.returns-in_err-has_named
returns-in_err-has_named c = failed_after c.args.rules.loose c.args.rules.bodies.now _ _ _ _ _ _ _ _ _ c.loop-g.invariant c.has_named.ensures c.from_residual.ensures.0

pub returns-then-not-branch : goal.returns-then-not-branch
returns-then-not-branch c =
    let loose = c.args.rules.loose in
    let bodies = c.args.rules.bodies.now in
    let fs = c.args.fs.now in
    let gs = c.args.gs.now in
    let claims = λ (R : Test) (g : Field). has_below R (named g.name fs) (named g.name gs) in
    let here = subst (λ n. Compared loose bodies c.loop-g.assumed.pairs.items c.has_named.new.assumed.pairs.items (λ R. has_below R (named n fs) (named n gs)) c.has_named.result) c.as_slice.ensures c.has_named.ensures in
    all_stop loose bodies claims gs (c.loop-g.g-index + 1) _ _ (all_step loose bodies claims gs c.loop-g.g-index c.g-item.result (Ok false) _ _ _ c.loop-g-test.true c.g-item.is c.loop-g.invariant (at_ok loose bodies _ _ _ _ _ _ here c.in_ok-has_named.was c.if-not-branch.true))

pub loop-g-preserved : goal.loop-g-preserved
loop-g-preserved c =
    let loose = c.args.rules.loose in
    let bodies = c.args.rules.bodies.now in
    let fs = c.args.fs.now in
    let gs = c.args.gs.now in
    let claims = λ (R : Test) (g : Field). has_below R (named g.name fs) (named g.name gs) in
    let here = subst (λ n. Compared loose bodies c.loop-g.assumed.pairs.items c.has_named.new.assumed.pairs.items (λ R. has_below R (named n fs) (named n gs)) c.has_named.result) c.as_slice.ensures c.has_named.ensures in
    all_step loose bodies claims gs c.loop-g.g-index c.g-item.result (Ok true) _ _ _ c.loop-g-test.true c.g-item.is c.loop-g.invariant (at_ok loose bodies _ _ _ _ _ _ here c.in_ok-has_named.was c.if-not-branch.false)

pub returns : goal.returns
returns c =
    let gs = c.args.gs.now in
    all_done c.args.rules.loose c.args.rules.bodies.now (λ (R : Test) (g : Field). has_below R (named g.name c.args.fs.now) (named g.name gs)) gs c.loop-g.g-index (Ok true) _ _ c.loop-g-test.false c.loop-g.invariant
