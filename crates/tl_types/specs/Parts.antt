-- The sizes and depths of the parts of a function: those of a tuple, and of parameters with results.
use Rattle.std.specs.Prelude.{ℕ, ◌+◌, max, List, fold, sum_by}
use Rattle.tl_types.specs.declared.types.Ty.{Ty}
use Rattle.tl_types.specs.declared.types.TupleOf.{TupleOf}
use Rattle.tl_types.specs.declared.types.FuncOf.{FuncOf}
use Rattle.tl_types.specs.Sizes.{type_size, type_depth}

abbrev pub deepest : {X : Type 0} → (X → ℕ) → List X → ℕ
deepest f xs = fold (λ a x. max a (f x)) 0 xs

abbrev pub size_tuple : TupleOf Ty → ℕ
size_tuple p = sum_by type_size p.items + type_size p.tail

abbrev pub size_func : FuncOf Ty → ℕ
size_func f = size_tuple f.params + sum_by size_tuple f.results.tuples

abbrev pub depth_tuple : TupleOf Ty → ℕ
depth_tuple p = max (deepest type_depth p.items) (type_depth p.tail)

abbrev pub depth_func : FuncOf Ty → ℕ
depth_func f = max (depth_tuple f.params) (deepest depth_tuple f.results.tuples)
