use Rattle.std.proofs.Common.{◌≡◌, true, false, ◌||◌, get_or, sym, ap, ◌∙◌}
use Rattle.std.proofs.lemmas.List.Folds.{list_any_at, list_any_more}
use Rattle.tl_types.specs.Same.{same_type}
use Rattle.tl_types.proofs.Alike.{same_answer}
use Rattle.type_reader.proofs.members.contains.Goals as goal

pub returns-then-same : goal.returns-then-same
returns-then-same c =
    let found : same_type c.args.ty.now c.other-item.result ≡ true = sym (same_answer c.args.ty.now c.other-item.result c.same.result c.same.ensures) ∙ c.if-same.true in
    sym (list_any_at (same_type c.args.ty.now) c.args.kept.now c.loop-other.other-index c.other-item.result c.loop-other-test.true (ap (same_type c.args.ty.now) (sym c.other-item.is) ∙ found))

pub loop-other-preserved : goal.loop-other-preserved
loop-other-preserved c =
    let test = same_type c.args.ty.now in
    let differs : test c.other-item.result ≡ false = sym (same_answer c.args.ty.now c.other-item.result c.same.result c.same.ensures) ∙ c.if-same.false in
    list_any_more test c.args.kept.now c.loop-other.other-index c.other-item.result c.loop-other-test.true
    ∙ (ap (λ b. b || test (get_or c.args.kept.now c.loop-other.other-index c.other-item.result)) c.loop-other.invariant ∙ (ap test (sym c.other-item.is) ∙ differs))
