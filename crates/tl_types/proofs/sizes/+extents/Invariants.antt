use Rattle.std.proofs.Common.{◌≡◌, ◌+◌, ◌*◌, ◌-◌, ◌^◌, take}
use Rattle.std.specs.Prelude.{sum_by, min}
use Rattle.tl_types.specs.Sizes.{type_size, type_depth}
use Rattle.tl_types.specs.Parts.{size_tuple, size_func, depth_tuple, deepest}
use Rattle.tl_types.proofs.sizes.+extents.Given as goal

abbrev pub decreases-of_type : goal.decreases-of_type
decreases-of_type l = 8 * type_size l.ty.now

abbrev pub decreases-of_types : goal.decreases-of_types
decreases-of_types l = 8 * sum_by type_size l.types.now + 1

abbrev pub decreases-of_fields : goal.decreases-of_fields
decreases-of_fields l = 8 * sum_by (λ f. type_size f.ty) l.fields.now + 1

abbrev pub decreases-of_tuple : goal.decreases-of_tuple
decreases-of_tuple l = 8 * size_tuple l.tuple.now + 2

abbrev pub decreases-of_tuples : goal.decreases-of_tuples
decreases-of_tuples l = 8 * sum_by size_tuple l.tuples.now + 3

abbrev pub decreases-of_func : goal.decreases-of_func
decreases-of_func l = 8 * size_func l.func.now + 4

abbrev pub invariant-of_types-loop-ty : goal.invariant-of_types-loop-ty
invariant-of_types-loop-ty l = record {
  nodes : l.all.nodes ≡ min (sum_by type_size (take l.ty-index l.types)) (2 ^ 64 - 1);
  depth : l.all.depth ≡ min (deepest type_depth (take l.ty-index l.types)) (2 ^ 64 - 1);
}

abbrev pub invariant-of_fields-loop-field : goal.invariant-of_fields-loop-field
invariant-of_fields-loop-field l = record {
  nodes : l.all.nodes ≡ min (sum_by (λ f. type_size f.ty) (take l.field-index l.fields)) (2 ^ 64 - 1);
  depth : l.all.depth ≡ min (deepest (λ f. type_depth f.ty) (take l.field-index l.fields)) (2 ^ 64 - 1);
}

abbrev pub invariant-of_tuples-loop-tuple : goal.invariant-of_tuples-loop-tuple
invariant-of_tuples-loop-tuple l = record {
  nodes : l.all.nodes ≡ min (sum_by size_tuple (take l.tuple-index l.tuples)) (2 ^ 64 - 1);
  depth : l.all.depth ≡ min (deepest depth_tuple (take l.tuple-index l.tuples)) (2 ^ 64 - 1);
}
