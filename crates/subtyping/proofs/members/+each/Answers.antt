use Rattle.std.proofs.Common.{◌≡◌, true, false, ◌+◌, sym, ap, ◌∙◌}
use Rattle.std.specs.Prelude.{Ok}
use Rattle.std.specs.List.{list_any, list_all}
use Rattle.tl_types.specs.declared.types.Ty.{Ty}
use Rattle.tl_types.specs.declared.types.Ty.TheVariants as ty
use Rattle.tl_types.specs.Types.{members}
use Rattle.tl_types.specs.Below.{Test, member_below, step}
use Rattle.subtyping.specs.Pairs.{side_ty}
use Rattle.subtyping.proofs.Sides.{union_left, single_left, single_any}
use Rattle.subtyping.proofs.Steps.{failed_after, at_ok, same_claim, start, all_step, all_stop, all_done}
use Rattle.subtyping.proofs.members.+each.Goals as goal

pub returns-in_err-each : goal.returns-in_err-each
returns-in_err-each t c = failed_after c.args.rules.loose c.args.rules.bodies.now _ _ _ _ _ _ _ _ _ c.loop-member.invariant c.each.ensures c.from_residual.ensures.0

pub returns-then-not-branch : goal.returns-then-not-branch
returns-then-not-branch t c =
    let loose = c.args.rules.loose in
    let bodies = c.args.rules.bodies.now in
    let right = side_ty c.args.right in
    let items = c.as_slice-member-items.result.now in
    let is : c.args.a.now ≡ ty.Union items = c.in-Union.is ∙ ap ty.Union (sym c.as_slice-member-items.ensures) in
    let claims = λ (R : Test) (m : Ty). step loose bodies R m right in
    let claim = λ (R : Test). step loose bodies R c.args.a.now right in
    same_claim loose bodies (λ R. list_all (claims R) items) claim _ _ _ (λ R. union_left loose bodies R c.args.a.now right items is)
    (all_stop loose bodies claims items (c.loop-member.member-index + 1) _ _ (all_step loose bodies claims items c.loop-member.member-index c.member-item.result (Ok false) _ _ _ c.loop-member-test.true c.member-item.is c.loop-member.invariant (at_ok loose bodies _ _ _ _ _ _ c.each.ensures c.in_ok-each.was c.if-not-branch.true)))

pub loop-member-preserved : goal.loop-member-preserved
loop-member-preserved t c =
    let loose = c.args.rules.loose in
    let bodies = c.args.rules.bodies.now in
    let right = side_ty c.args.right in
    let items = c.as_slice-member-items.result.now in
    let claims = λ (R : Test) (m : Ty). step loose bodies R m right in
    all_step loose bodies claims items c.loop-member.member-index c.member-item.result (Ok true) _ _ _ c.loop-member-test.true c.member-item.is c.loop-member.invariant (at_ok loose bodies _ _ _ _ _ _ c.each.ensures c.in_ok-each.was c.if-not-branch.false)

pub returns-in-Union : goal.returns-in-Union
returns-in-Union t c =
    let loose = c.args.rules.loose in
    let bodies = c.args.rules.bodies.now in
    let right = side_ty c.args.right in
    let items = c.as_slice-member-items.result.now in
    let is : c.args.a.now ≡ ty.Union items = c.in-Union.is ∙ ap ty.Union (sym c.as_slice-member-items.ensures) in
    let claims = λ (R : Test) (m : Ty). step loose bodies R m right in
    let claim = λ (R : Test). step loose bodies R c.args.a.now right in
    same_claim loose bodies (λ R. list_all (claims R) items) claim _ _ _ (λ R. union_left loose bodies R c.args.a.now right items is)
    (all_done loose bodies claims items c.loop-member.member-index (Ok true) _ _ c.loop-member-test.false c.loop-member.invariant)

pub returns-then-lets_all : goal.returns-then-lets_all
returns-then-lets_all t c =
    let loose = c.args.rules.loose in
    let bodies = c.args.rules.bodies.now in
    let right = side_ty c.args.right in
    start loose bodies (λ R. step loose bodies R c.args.a.now right) true _ (λ R. single_any loose bodies R c.args.a.now right c.in_default.not-Union (sym c.lets_all.ensures ∙ c.if-lets_all.true))

pub returns : goal.returns
returns t c =
    let loose = c.args.rules.loose in
    let bodies = c.args.rules.bodies.now in
    let right = side_ty c.args.right in
    same_claim loose bodies (λ R. list_any (member_below bodies R c.args.a.now) (members right)) (λ R. step loose bodies R c.args.a.now right) _ _ _ (λ R. single_left loose bodies R c.args.a.now right c.in_default.not-Union (sym c.lets_all.ensures ∙ c.if-lets_all.false)) c.some_of.ensures
