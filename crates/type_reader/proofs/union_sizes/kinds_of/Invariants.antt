use Rattle.std.proofs.Common.{◌≡◌, take}
use Rattle.std.specs.List.{list_any}
use Rattle.tl_types.specs.Unions.{is_any, is_value, is_int, is_str}
use Rattle.type_reader.proofs.union_sizes.kinds_of.Given as goal

abbrev pub invariant-loop-ty : goal.invariant-loop-ty
invariant-loop-ty l = record {
  any : l.kinds.any ≡ list_any is_any (take l.ty-index l.kept);
  value : l.kinds.value ≡ list_any is_value (take l.ty-index l.kept);
  int : l.kinds.int ≡ list_any is_int (take l.ty-index l.kept);
  str : l.kinds.str ≡ list_any is_str (take l.ty-index l.kept);
}
