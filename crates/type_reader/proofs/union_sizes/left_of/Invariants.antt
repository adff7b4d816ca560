use Rattle.std.proofs.Common.{◌≡◌, ◌-◌, ◌^◌, length, take}
use Rattle.std.specs.Prelude.{min, sum_by}
use Rattle.tl_types.specs.Sizes.{type_size}
use Rattle.type_reader.specs.Gathered.{uncovered}
use Rattle.type_reader.proofs.union_sizes.left_of.Given as goal

abbrev pub invariant-loop-ty : goal.invariant-loop-ty
invariant-loop-ty l = record {
  count : l.left.count ≡ min (length (uncovered l.kinds.int l.kinds.str (take l.ty-index l.kept))) (2 ^ 64 - 1);
  nodes : l.left.nodes ≡ min (sum_by type_size (uncovered l.kinds.int l.kinds.str (take l.ty-index l.kept))) (2 ^ 64 - 1);
}
