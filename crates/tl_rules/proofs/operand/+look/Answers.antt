use Rattle.std.proofs.Common.{sym, ap, ◌∙◌, ◌&&◌, ◌||◌}
use Rattle.std.specs.List.{list_all, list_any}
use Rattle.tl_types.specs.declared.types.Ty.TheVariants as ty
use Rattle.tl_types.proofs.Gathered.{flat_all}
use Rattle.tl_rules.specs.Operands.{is_integer}
use Rattle.tl_rules.proofs.operand.+look.Goals as goal

pub returns-after-loop-member-clause-all : goal.returns-after-loop-member-clause-all
returns-after-loop-member-clause-all t c = c.loop-member.invariant.all ∙ ap (λ r. c.args.seen.all && list_all is_integer r) (flat_all c.args.ty.now c.as_slice-member-items.result.now c.loop-member.member-index (c.in-Union.is ∙ ap ty.Union (sym c.as_slice-member-items.ensures)) c.loop-member-test.false)

pub returns-after-loop-member-clause-some : goal.returns-after-loop-member-clause-some
returns-after-loop-member-clause-some t c = c.loop-member.invariant.some ∙ ap (λ r. c.args.seen.some || list_any is_integer r) (flat_all c.args.ty.now c.as_slice-member-items.result.now c.loop-member.member-index (c.in-Union.is ∙ ap ty.Union (sym c.as_slice-member-items.ensures)) c.loop-member-test.false)
