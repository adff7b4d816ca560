use Rattle.std.proofs.Common.{◌≡◌, ◌++◌, take, map}
use Rattle.std.specs.Prelude.{flat_map}
use Rattle.tl_types.specs.Types.{members}
use Rattle.tl_types.specs.Unions.{general_member}
use Rattle.tl_types.proofs.unions.+push_general.Given as goal

abbrev pub invariant-loop-member : goal.invariant-loop-member
invariant-loop-member l = l.forms.items ≡ l.initial.forms.items ++ map general_member (flat_map members (take l.member-index l.member-items))
