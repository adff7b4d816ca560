use Rattle.std.proofs.Common.{◌≡◌, take}
use Rattle.std.specs.Prelude.{flat_map}
use Rattle.std.specs.List.{list_any}
use Rattle.tl_types.specs.Types.{members}
use Rattle.tl_types.specs.Unions.{is_any, is_value, is_int, is_str}
use Rattle.tl_types.proofs.unions.seen_in_all.Given as goal

abbrev pub invariant-loop-ty : goal.invariant-loop-ty
invariant-loop-ty l = record {
  any : l.seen.any ≡ list_any is_any (flat_map members (take l.ty-index l.types));
  value : l.seen.value ≡ list_any is_value (flat_map members (take l.ty-index l.types));
  int : l.seen.int ≡ list_any is_int (flat_map members (take l.ty-index l.types));
  str : l.seen.str ≡ list_any is_str (flat_map members (take l.ty-index l.types));
}
