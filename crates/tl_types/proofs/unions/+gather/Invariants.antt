use Rattle.std.proofs.Common.{◌≡◌, take}
use Rattle.std.specs.Prelude.{flat_map}
use Rattle.tl_types.specs.Types.{members}
use Rattle.tl_types.specs.Adding.{add_all}
use Rattle.tl_types.proofs.unions.+gather.Given as goal

abbrev pub invariant-loop-member : goal.invariant-loop-member
invariant-loop-member l = l.kept.items ≡ add_all l.seen.int l.seen.str l.initial.kept.items (flat_map members (take l.member-index l.member-items))
