use Rattle.std.proofs.Common.{refl, ap, ◌∙◌}
use Rattle.std.specs.Prelude.{Ok}
use Rattle.std.proofs.lemmas.Bool.{false≢true}
use Rattle.subtyping.proofs.Steps.{at_ok}
use Rattle.subtyping.proofs.Sweeps.{below_all, not_below}
use Rattle.subtyping.proofs.sweep.decide.Goals as goal

pub returns-then-not-branch : goal.returns-then-not-branch
returns-then-not-branch c =
    let loose = c.args.rules.loose in
    let bodies = c.args.rules.bodies.now in
    let answered = at_ok loose bodies _ _ _ _ _ _ c.each_of.ensures c.in_ok-each_of.was c.if-not-branch.true in
    (λ e. absurd (false≢true e), λ e. absurd (not_below loose bodies c.args.a.now c.args.b.now c.each_of.new.assumed.pairs.items (answered.verdict c.loop.invariant) e))

pub returns-then-not-branch-2 : goal.returns-then-not-branch-2
returns-then-not-branch-2 c =
    let loose = c.args.rules.loose in
    let bodies = c.args.rules.bodies.now in
    let answered = at_ok loose bodies _ _ _ _ _ _ c.each_of.ensures c.in_ok-each_of.was c.if-not-branch.false in
    let kept = c.sweep.ensures.closed (c.in_ok-sweep.was ∙ ap Ok c.if-not-branch-2.true) in
    (λ e. below_all loose bodies c.args.a.now c.args.b.now c.sweep.new.assumed.pairs.items c.each_of.new.assumed.pairs.items kept (answered.verdict c.loop.invariant), λ e. refl)
