use Rattle.std.proofs.Common.{sym, subst}
use Rattle.tl_types.specs.Below.{step}
use Rattle.subtyping.specs.Pairs.{side_ty, Compared}
use Rattle.subtyping.proofs.members.each_of.Goals as goal

pub returns-in-WithNil : goal.returns-in-WithNil
returns-in-WithNil c = subst (λ side. Compared c.args.rules.loose c.args.rules.bodies.now c.args.assumed.now.pairs.items c.with_nil.new.assumed.pairs.items (λ R. step c.args.rules.loose c.args.rules.bodies.now R (side_ty side) (side_ty c.args.right)) c.with_nil.result) (sym c.in-WithNil.is) c.with_nil.ensures
