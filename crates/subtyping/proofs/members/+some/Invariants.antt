use Rattle.std.proofs.Common.{false, take}
use Rattle.std.specs.Prelude.{Ok}
use Rattle.std.specs.List.{list_any}
use Rattle.tl_types.specs.Types.{members}
use Rattle.tl_types.specs.Below.{member_below}
use Rattle.subtyping.specs.Pairs.{Compared}
use Rattle.subtyping.proofs.members.+some.Given as goal

abbrev pub invariant-loop-member : goal.invariant-loop-member
invariant-loop-member l = Compared l.rules.loose l.rules.bodies.now l.initial.assumed.pairs.items l.assumed.pairs.items (λ R. list_any (λ m. list_any (member_below l.rules.bodies.now R l.s) (members m)) (take l.member-index l.member-items)) (Ok false)
