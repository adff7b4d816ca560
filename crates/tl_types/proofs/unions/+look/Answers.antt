use Rattle.std.proofs.Common.{sym, ap, ◌∙◌, ◌||◌}
use Rattle.std.specs.List.{list_any}
use Rattle.tl_types.specs.declared.types.Ty.TheVariants as ty
use Rattle.tl_types.specs.Unions.{is_any, is_value, is_int, is_str}
use Rattle.tl_types.proofs.Gathered.{flat_all}
use Rattle.tl_types.proofs.unions.+look.Goals as goal

pub returns-after-loop-member-clause-any : goal.returns-after-loop-member-clause-any
returns-after-loop-member-clause-any t c = c.loop-member.invariant.any ∙ ap (λ r. c.args.seen.any || list_any is_any r) (flat_all c.args.ty.now c.as_slice-member-items.result.now c.loop-member.member-index (c.in-Union.is ∙ ap ty.Union (sym c.as_slice-member-items.ensures)) c.loop-member-test.false)

pub returns-after-loop-member-clause-value : goal.returns-after-loop-member-clause-value
returns-after-loop-member-clause-value t c = c.loop-member.invariant.value ∙ ap (λ r. c.args.seen.value || list_any is_value r) (flat_all c.args.ty.now c.as_slice-member-items.result.now c.loop-member.member-index (c.in-Union.is ∙ ap ty.Union (sym c.as_slice-member-items.ensures)) c.loop-member-test.false)

pub returns-after-loop-member-clause-int : goal.returns-after-loop-member-clause-int
returns-after-loop-member-clause-int t c = c.loop-member.invariant.int ∙ ap (λ r. c.args.seen.int || list_any is_int r) (flat_all c.args.ty.now c.as_slice-member-items.result.now c.loop-member.member-index (c.in-Union.is ∙ ap ty.Union (sym c.as_slice-member-items.ensures)) c.loop-member-test.false)

pub returns-after-loop-member-clause-str : goal.returns-after-loop-member-clause-str
returns-after-loop-member-clause-str t c = c.loop-member.invariant.str ∙ ap (λ r. c.args.seen.str || list_any is_str r) (flat_all c.args.ty.now c.as_slice-member-items.result.now c.loop-member.member-index (c.in-Union.is ∙ ap ty.Union (sym c.as_slice-member-items.ensures)) c.loop-member-test.false)
