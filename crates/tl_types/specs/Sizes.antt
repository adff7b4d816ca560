-- The size and the depth of a type, and the limits of both.
use Rattle.std.specs.Prelude.{ℕ, ◌+◌, max, Bool, ◌&&◌, nat_le, List, [], ◌∷◌, map, sum, fold, flat_map, ◌++◌}
use Rattle.tl_types.specs.declared.types.Ty.{Ty, fold-Ty}
use Rattle.tl_types.specs.declared.types.Ty.TheOpen.{Ty-F, Union, Func, Rec, Map}
use Rattle.tl_types.specs.declared.types.TupleOf.{TupleOf}

-- the components of one level, in order of place: the members of a union, the types and tails of a function's tuples, a record's field types,
-- a map's key and value
abbrev pub in_tuple : {A : Type 0} → TupleOf A → List A
in_tuple p = p.items ++ p.tail ∷ []

abbrev pub components : {A : Type 0} → Ty-F A → List A
components (Union ts) = ts
components (Func f) = in_tuple f.params ++ flat_map in_tuple f.results.tuples
components (Rec fs) = map (λ f. f.ty) fs
components (Map k v) = k ∷ v ∷ []
components x = []

abbrev pub greatest : List ℕ → ℕ
greatest ns = fold max 0 ns

-- how many nodes a type has: itself and those of its components
abbrev pub type_size : Ty → ℕ
type_size = fold-Ty ℕ (λ x. 1 + sum (components x))

-- 1 without components, else one more than the deepest
abbrev pub type_depth : Ty → ℕ
type_depth = fold-Ty ℕ (λ x. 1 + greatest (components x))

-- at most 65536 nodes, and depth at most 100
abbrev pub is_within : Ty → Bool
is_within t = nat_le (type_size t) 65536 && nat_le (type_depth t) 100
