use Rattle.std.proofs.Common.{◌≡◌, true, false, ◌+◌, sym, ap, ◌∙◌}
use Rattle.std.specs.Prelude.{Ok}
use Rattle.std.specs.List.{list_any}
use Rattle.tl_types.specs.declared.types.Ty.{Ty}
use Rattle.tl_types.specs.declared.types.Ty.TheVariants as ty
use Rattle.tl_types.specs.Types.{members}
use Rattle.tl_types.specs.Below.{Test, member_below}
use Rattle.subtyping.proofs.Monotone.{some_mono}
use Rattle.subtyping.proofs.Sides.{union_right, single_right}
use Rattle.subtyping.proofs.Steps.{failed_after, at_ok, same_claim, any_step, any_hit, any_done}
use Rattle.subtyping.proofs.members.+some.Goals as goal

pub returns-in_err-some : goal.returns-in_err-some
returns-in_err-some t c = failed_after c.args.rules.loose c.args.rules.bodies.now _ _ _ _ _ _ _ _ _ c.loop-member.invariant c.some.ensures c.from_residual.ensures.0

pub returns-then-branch : goal.returns-then-branch
returns-then-branch t c =
    let loose = c.args.rules.loose in
    let bodies = c.args.rules.bodies.now in
    let s = c.args.s.now in
    let items = c.as_slice-member-items.result.now in
    let is : c.args.t.now ≡ ty.Union items = c.in-Union.is ∙ ap ty.Union (sym c.as_slice-member-items.ensures) in
    let claims = λ (R : Test) (m : Ty). list_any (member_below bodies R s) (members m) in
    let claim = λ (R : Test). list_any (member_below bodies R s) (members c.args.t.now) in
    same_claim loose bodies (λ R. list_any (claims R) items) claim _ _ _ (λ R. union_right loose bodies R s c.args.t.now items is)
    (any_hit loose bodies claims items (c.loop-member.member-index + 1) _ _ (any_step loose bodies claims items (some_mono bodies s) c.loop-member.member-index c.member-item.result (Ok true) _ _ _ c.loop-member-test.true c.member-item.is c.loop-member.invariant (at_ok loose bodies _ _ _ _ _ _ c.some.ensures c.in_ok-some.was c.if-branch.true)))

pub loop-member-preserved : goal.loop-member-preserved
loop-member-preserved t c =
    let loose = c.args.rules.loose in
    let bodies = c.args.rules.bodies.now in
    let s = c.args.s.now in
    let items = c.as_slice-member-items.result.now in
    let claims = λ (R : Test) (m : Ty). list_any (member_below bodies R s) (members m) in
    any_step loose bodies claims items (some_mono bodies s) c.loop-member.member-index c.member-item.result (Ok false) _ _ _ c.loop-member-test.true c.member-item.is c.loop-member.invariant (at_ok loose bodies _ _ _ _ _ _ c.some.ensures c.in_ok-some.was c.if-branch.false)

pub returns-in-Union : goal.returns-in-Union
returns-in-Union t c =
    let loose = c.args.rules.loose in
    let bodies = c.args.rules.bodies.now in
    let s = c.args.s.now in
    let items = c.as_slice-member-items.result.now in
    let is : c.args.t.now ≡ ty.Union items = c.in-Union.is ∙ ap ty.Union (sym c.as_slice-member-items.ensures) in
    let claims = λ (R : Test) (m : Ty). list_any (member_below bodies R s) (members m) in
    let claim = λ (R : Test). list_any (member_below bodies R s) (members c.args.t.now) in
    same_claim loose bodies (λ R. list_any (claims R) items) claim _ _ _ (λ R. union_right loose bodies R s c.args.t.now items is)
    (any_done loose bodies claims items c.loop-member.member-index (Ok false) _ _ c.loop-member-test.false c.loop-member.invariant)

pub returns : goal.returns
returns t c =
    let loose = c.args.rules.loose in
    let bodies = c.args.rules.bodies.now in
    same_claim loose bodies (λ R. member_below bodies R c.args.s.now c.args.t.now) (λ R. list_any (member_below bodies R c.args.s.now) (members c.args.t.now)) _ _ _ (λ R. single_right loose bodies R c.args.s.now c.args.t.now c.in_default.not-Union) c.leaf.ensures
