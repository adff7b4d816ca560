use Rattle.std.proofs.Common.{◌≡◌, drop}
use Rattle.std.specs.List.{list_all}
use Rattle.type_reader.specs.Faults.{is_key}
use Rattle.type_reader.proofs.checking.+is_key_type.Given as goal

abbrev pub invariant-loop-member : goal.invariant-loop-member
invariant-loop-member l = list_all is_key (drop l.member-index l.member-items) ≡ list_all is_key l.member-items
