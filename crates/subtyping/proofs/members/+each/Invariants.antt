use Rattle.std.proofs.Common.{true, take}
use Rattle.std.specs.Prelude.{Ok}
use Rattle.std.specs.List.{list_all}
use Rattle.tl_types.specs.Below.{step}
use Rattle.subtyping.specs.Pairs.{side_ty, Compared}
use Rattle.subtyping.proofs.members.+each.Given as goal

abbrev pub invariant-loop-member : goal.invariant-loop-member
invariant-loop-member l = Compared l.rules.loose l.rules.bodies.now l.initial.assumed.pairs.items l.assumed.pairs.items (λ R. list_all (λ m. step l.rules.loose l.rules.bodies.now R m (side_ty l.right)) (take l.member-index l.member-items)) (Ok true)
