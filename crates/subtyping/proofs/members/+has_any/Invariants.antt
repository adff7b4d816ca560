use Rattle.std.proofs.Common.{◌≡◌, false, take}
use Rattle.std.specs.List.{list_any}
use Rattle.tl_types.specs.Types.{members}
use Rattle.tl_types.specs.Unions.{is_any}
use Rattle.subtyping.proofs.members.+has_any.Given as goal

abbrev pub invariant-loop-member : goal.invariant-loop-member
invariant-loop-member l = list_any (λ m. list_any is_any (members m)) (take l.member-index l.member-items) ≡ false
