use Rattle.std.proofs.Common.{sym, subst}
use Rattle.std.specs.List.{list_any}
use Rattle.tl_types.specs.Types.{members}
use Rattle.tl_types.specs.Below.{member_below}
use Rattle.subtyping.specs.Pairs.{side_ty, Compared}
use Rattle.subtyping.proofs.members.some_of.Goals as goal

pub returns-in-WithNil : goal.returns-in-WithNil
returns-in-WithNil c = subst (λ side. Compared c.args.rules.loose c.args.rules.bodies.now c.args.assumed.now.pairs.items c.some_or_nil.new.assumed.pairs.items (λ R. list_any (member_below c.args.rules.bodies.now R c.args.s.now) (members (side_ty side))) c.some_or_nil.result) (sym c.in-WithNil.is) c.some_or_nil.ensures
