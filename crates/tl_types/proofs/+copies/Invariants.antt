use Rattle.std.proofs.Common.{◌≡◌, ◌+◌, ◌*◌, take}
use Rattle.std.specs.Prelude.{sum_by}
use Rattle.tl_types.specs.Sizes.{type_size}
use Rattle.tl_types.specs.Parts.{size_tuple, size_func}
use Rattle.tl_types.proofs.+copies.Given as goal

abbrev pub decreases-types::Ty::copy : goal.decreases-types::Ty::copy
decreases-types::Ty::copy l = 8 * type_size l.self.now

abbrev pub decreases-copies::copy_types : goal.decreases-copies::copy_types
decreases-copies::copy_types l = 8 * sum_by type_size l.types.now + 1

abbrev pub decreases-copies::copy_fields : goal.decreases-copies::copy_fields
decreases-copies::copy_fields l = 8 * sum_by (λ f. type_size f.ty) l.fields.now + 1

abbrev pub decreases-copies::copy_tuple : goal.decreases-copies::copy_tuple
decreases-copies::copy_tuple l = 8 * size_tuple l.tuple.now + 2

abbrev pub decreases-copies::copy_tuples : goal.decreases-copies::copy_tuples
decreases-copies::copy_tuples l = 8 * sum_by size_tuple l.tuples.now + 3

abbrev pub decreases-copies::copy_func : goal.decreases-copies::copy_func
decreases-copies::copy_func l = 8 * size_func l.func.now + 4

abbrev pub invariant-copies::copy_fields-loop-field : goal.invariant-copies::copy_fields-loop-field
invariant-copies::copy_fields-loop-field l = l.copies ≡ take l.field-index l.fields

abbrev pub invariant-copies::copy_tuples-loop-tuple : goal.invariant-copies::copy_tuples-loop-tuple
invariant-copies::copy_tuples-loop-tuple l = l.copies ≡ take l.tuple-index l.tuples

abbrev pub invariant-copies::copy_types-loop-ty : goal.invariant-copies::copy_types-loop-ty
invariant-copies::copy_types-loop-ty l = l.copies ≡ take l.ty-index l.types
