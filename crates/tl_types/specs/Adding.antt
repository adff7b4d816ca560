-- A list of types to which types are added one after the other, each where it isn't there yet.
use Rattle.std.specs.Prelude.{Bool, cond, not, List, [], ◌∷◌, ◌++◌, fold, filter}
use Rattle.std.specs.List.{list_any}
use Rattle.tl_types.specs.declared.types.Ty.{Ty, out-Ty}
use Rattle.tl_types.specs.Same.{same_type}
use Rattle.tl_types.specs.Unions.{is_covered_form}

abbrev pub add : List Ty → Ty → List Ty
add kept t = cond (list_any (same_type t) kept) kept (kept ++ t ∷ [])

-- those that aren't covered are added
abbrev pub add_all : Bool → Bool → List Ty → List Ty → List Ty
add_all with_int with_str kept ts = fold add kept (filter (λ t. not (is_covered_form with_int with_str (out-Ty t))) ts)
