use Rattle.std.proofs.Common.{subst}
use Rattle.subtyping.specs.Pairs.{Compared}
use Rattle.tl_types.specs.Below.{tuple_below, results_below}
use Rattle.subtyping.proofs.Steps.{failed, and_stop, and_then, at_ok}
use Rattle.subtyping.proofs.compare.function.Goals as goal

pub returns-in_err-tuple : goal.returns-in_err-tuple
returns-in_err-tuple c = failed c.args.rules.loose c.args.rules.bodies.now _ _ _ _ _ _ c.tuple.ensures c.from_residual.ensures.0

pub returns-then-not-branch : goal.returns-then-not-branch
returns-then-not-branch c =
    let loose = c.args.rules.loose in
    let bodies = c.args.rules.bodies.now in
    let f = c.args.f.now in
    let g = c.args.g.now in
    and_stop loose bodies (λ R. tuple_below R g.params f.params) (λ R. results_below R f.results.tuples g.results.tuples) _ _ (at_ok loose bodies _ _ _ _ _ _ c.tuple.ensures c.in_ok-tuple.was c.if-not-branch.true)

pub returns : goal.returns
returns c =
    let loose = c.args.rules.loose in
    let bodies = c.args.rules.bodies.now in
    let f = c.args.f.now in
    let g = c.args.g.now in
    let lefts = subst (λ ps. Compared loose bodies c.tuple.new.assumed.pairs.items c.results.new.assumed.pairs.items (λ R. results_below R ps c.as_slice-2.result.now) c.results.result) c.as_slice.ensures c.results.ensures in
    let here = subst (λ qs. Compared loose bodies c.tuple.new.assumed.pairs.items c.results.new.assumed.pairs.items (λ R. results_below R f.results.tuples qs) c.results.result) c.as_slice-2.ensures lefts in
    and_then loose bodies (λ R. tuple_below R g.params f.params) (λ R. results_below R f.results.tuples g.results.tuples) _ _ _ _ (at_ok loose bodies _ _ _ _ _ _ c.tuple.ensures c.in_ok-tuple.was c.if-not-branch.false) here
