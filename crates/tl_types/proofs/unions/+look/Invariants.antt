use Rattle.std.proofs.Common.{◌≡◌, ◌||◌, take}
use Rattle.std.specs.Prelude.{flat_map}
use Rattle.std.specs.List.{list_any}
use Rattle.tl_types.specs.Types.{members}
use Rattle.tl_types.specs.Unions.{is_any, is_value, is_int, is_str}
use Rattle.tl_types.proofs.unions.+look.Given as goal

abbrev pub invariant-loop-member : goal.invariant-loop-member
invariant-loop-member l = record {
  any : l.seen.any ≡ (l.initial.seen.any || list_any is_any (flat_map members (take l.member-index l.member-items)));
  value : l.seen.value ≡ (l.initial.seen.value || list_any is_value (flat_map members (take l.member-index l.member-items)));
  int : l.seen.int ≡ (l.initial.seen.int || list_any is_int (flat_map members (take l.member-index l.member-items)));
  str : l.seen.str ≡ (l.initial.seen.str || list_any is_str (flat_map members (take l.member-index l.member-items)));
}
