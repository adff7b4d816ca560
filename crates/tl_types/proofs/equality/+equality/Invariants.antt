use Rattle.std.proofs.Common.{◌≡◌, ◌+◌, ◌*◌, take, length}
use Rattle.std.specs.Prelude.{sum_by}
use Rattle.tl_types.specs.Sizes.{type_size}
use Rattle.tl_types.specs.Parts.{size_tuple, size_func}
use Rattle.tl_types.proofs.equality.+equality.Given as goal

abbrev pub decreases-same : goal.decreases-same
decreases-same l = 8 * type_size l.a.now

abbrev pub decreases-same_types : goal.decreases-same_types
decreases-same_types l = 8 * sum_by type_size l.xs.now + 1

abbrev pub decreases-same_fields : goal.decreases-same_fields
decreases-same_fields l = 8 * sum_by (λ f. type_size f.ty) l.fs.now + 1

abbrev pub decreases-same_tuple : goal.decreases-same_tuple
decreases-same_tuple l = 8 * size_tuple l.p.now + 2

abbrev pub decreases-same_tuples : goal.decreases-same_tuples
decreases-same_tuples l = 8 * sum_by size_tuple l.ps.now + 3

abbrev pub decreases-same_funcs : goal.decreases-same_funcs
decreases-same_funcs l = 8 * size_func l.f.now + 4

abbrev pub invariant-same_types-loop-x : goal.invariant-same_types-loop-x
invariant-same_types-loop-x l = take (length l.yielded) l.xs ≡ take (length l.yielded) l.ys

abbrev pub invariant-same_fields-loop-f : goal.invariant-same_fields-loop-f
invariant-same_fields-loop-f l = take (length l.yielded) l.fs ≡ take (length l.yielded) l.gs

abbrev pub invariant-same_tuples-loop-p : goal.invariant-same_tuples-loop-p
invariant-same_tuples-loop-p l = take (length l.yielded) l.ps ≡ take (length l.yielded) l.qs
