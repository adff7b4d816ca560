use Rattle.std.proofs.Common.{sym, ap, ◌∙◌, ◌++◌, map}
use Rattle.tl_types.specs.declared.types.Ty.TheVariants as ty
use Rattle.tl_types.specs.Unions.{general_member}
use Rattle.tl_types.proofs.Gathered.{flat_all}
use Rattle.tl_types.proofs.unions.+push_general.Goals as goal

pub returns-in-Union : goal.returns-in-Union
returns-in-Union t c = c.loop-member.invariant ∙ ap (λ r. c.args.forms.now.items ++ map general_member r) (flat_all c.args.ty.now c.as_slice-member-items.result.now c.loop-member.member-index (c.in-Union.is ∙ ap ty.Union (sym c.as_slice-member-items.ensures)) c.loop-member-test.false)
