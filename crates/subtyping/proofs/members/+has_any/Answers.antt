use Rattle.std.proofs.Common.{◌≡◌, true, sym, ap, ◌∙◌}
use Rattle.std.specs.List.{list_any}
use Rattle.std.proofs.lemmas.List.{take_all}
use Rattle.std.proofs.lemmas.List.Folds.{list_any_at}
use Rattle.tl_types.specs.declared.types.Ty.{Ty}
use Rattle.tl_types.specs.declared.types.Ty.TheVariants as ty
use Rattle.tl_types.specs.Types.{members}
use Rattle.tl_types.specs.Unions.{is_any}
use Rattle.subtyping.proofs.Sides.{any_members}
use Rattle.subtyping.proofs.members.+has_any.Goals as goal

pub returns-then-has_any : goal.returns-then-has_any
returns-then-has_any t c =
    let test = λ (m : Ty). list_any is_any (members m) in
    let items = c.as_slice-member-items.result.now in
    let found : test c.member-item.result ≡ true = sym c.has_any.ensures ∙ c.if-has_any.true in
    sym (any_members c.args.ty.now items (c.in-Union.is ∙ ap ty.Union (sym c.as_slice-member-items.ensures))
    ∙ list_any_at test items c.loop-member.member-index c.member-item.result c.loop-member-test.true (ap test (sym c.member-item.is) ∙ found))

pub returns-after-loop-member : goal.returns-after-loop-member
returns-after-loop-member t c =
    let test = λ (m : Ty). list_any is_any (members m) in
    let items = c.as_slice-member-items.result.now in
    sym (any_members c.args.ty.now items (c.in-Union.is ∙ ap ty.Union (sym c.as_slice-member-items.ensures))
    ∙ (sym (ap (list_any test) (take_all c.loop-member.member-index items c.loop-member-test.false)) ∙ c.loop-member.invariant))
