use Rattle.std.proofs.Common.{◌+◌, ◌<◌, length, sym, ap, ◌∙◌, subst, arith}
use Rattle.std.specs.Prelude.{Ok}
use Rattle.std.proofs.lemmas.Bool.{true≢false}
use Rattle.subtyping.specs.Pairs.{Settled, Kept}
use Rattle.subtyping.proofs.Sweeps.{kept_next}
use Rattle.subtyping.proofs.sweep.sweep.Goals.{then-branch, else-branch}
use Rattle.subtyping.proofs.sweep.sweep.Goals as goal

pub loop-k-preserved : goal.loop-k-preserved
loop-k-preserved c =
    let loose = c.args.rules.loose in
    let bodies = c.args.rules.bodies.now in
    let start = c.args.assumed.now.pairs.items in
    let old = c.loop-k.assumed.pairs.items in
    let new = c.settle.new.assumed.pairs.items in
    let within : c.loop-k.k < length old = omega (arith, c.loop-k-test.true, c.len.ensures) in
    record {
      sound = c.settle.ensures.sound;
      kept = λ unchanged. elim c.if-branch.branch as (λ b. Kept loose bodies start new (c.loop-k.k + 1)) [
        | then-branch w ↦ absurd (true≢false (sym w.changed-is ∙ unchanged))
        | else-branch w ↦ kept_next loose bodies start old new c.loop-k.k within (c.loop-k.invariant.kept (sym w.changed-is ∙ unchanged)) (subst (Settled loose bodies old new c.loop-k.k) (c.in_ok-settle.was ∙ ap Ok w.if-branch.false) c.settle.ensures)
      ];
    }
