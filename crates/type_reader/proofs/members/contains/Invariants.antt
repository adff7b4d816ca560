use Rattle.std.proofs.Common.{◌≡◌, false, take}
use Rattle.std.specs.List.{list_any}
use Rattle.tl_types.specs.Same.{same_type}
use Rattle.type_reader.proofs.members.contains.Given as goal

abbrev pub invariant-loop-other : goal.invariant-loop-other
invariant-loop-other l = list_any (same_type l.ty) (take l.other-index l.kept) ≡ false
