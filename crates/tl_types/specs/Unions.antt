-- The union of types, the general form of a type, and the places of tuples.
use Rattle.std.specs.Prelude.{ℕ, Bool, true, false, cond, not, List, [], ◌∷◌, map, filter, flat_map, slice_index_or}
use Rattle.std.specs.List.{list_any}
use Rattle.tl_types.specs.declared.types.Ty.{Ty, out-Ty}
use Rattle.tl_types.specs.declared.types.Ty.TheVariants as ty
use Rattle.tl_types.specs.declared.types.Ty.TheOpen.{Ty-F, True, False, Int, IntLit, Str, StrLit, Value, Any}
use Rattle.tl_types.specs.declared.types.TupleOf.{TupleOf}
use Rattle.tl_types.specs.declared.types.ResultsOf.{ResultsOf}
use Rattle.tl_types.specs.Types.{members}
use Rattle.tl_types.specs.Same.{same_type}

-- the forms that matter in a union
abbrev pub is_any_form : Ty-F Ty → Bool
is_any_form Any = true
is_any_form x = false

abbrev pub is_value_form : Ty-F Ty → Bool
is_value_form Value = true
is_value_form x = false

abbrev pub is_int_form : Ty-F Ty → Bool
is_int_form Int = true
is_int_form x = false

abbrev pub is_str_form : Ty-F Ty → Bool
is_str_form Str = true
is_str_form x = false

abbrev pub is_any : Ty → Bool
is_any t = is_any_form (out-Ty t)

abbrev pub is_value : Ty → Bool
is_value t = is_value_form (out-Ty t)

abbrev pub is_int : Ty → Bool
is_int t = is_int_form (out-Ty t)

abbrev pub is_str : Ty → Bool
is_str t = is_str_form (out-Ty t)

-- a literal is left out where its base type stands among the types
abbrev pub is_covered_form : Bool → Bool → Ty-F Ty → Bool
is_covered_form with_int with_str (IntLit n) = with_int
is_covered_form with_int with_str (StrLit s) = with_str
is_covered_form with_int with_str x = false

abbrev pub is_covered : List Ty → Ty → Bool
is_covered ts t = is_covered_form (list_any is_int ts) (list_any is_str ts) (out-Ty t)

-- each type once, at the first one's place
abbrev pub distinct : List Ty → List Ty
distinct [] = []
distinct (t ∷ ts) = t ∷ filter (λ u. not (same_type t u)) (distinct ts)

-- one member alone is that type
abbrev pub union_from : List Ty → Ty
union_from (t ∷ []) = t
union_from ts = ty.Union ts

-- the union of types that are no unions
abbrev pub union_flat : List Ty → Ty
union_flat ts = cond (list_any is_any ts) ty.Any (cond (list_any is_value ts) ty.Value (union_from (distinct (filter (λ t. not (is_covered ts t)) ts))))

abbrev pub union_form : List Ty → Ty
union_form ts = union_flat (flat_map members ts)

abbrev pub boolean : Ty
boolean = ty.Union (ty.True ∷ ty.False ∷ [])

-- the general form of a member: a literal becomes its base type, `true` and `false` become `boolean`, and nothing inside a component changes
abbrev pub general_form_of : Ty → Ty-F Ty → Ty
general_form_of t True = boolean
general_form_of t False = boolean
general_form_of t (IntLit n) = ty.Int
general_form_of t (StrLit s) = ty.Str
general_form_of t x = t

abbrev pub general_member : Ty → Ty
general_member t = general_form_of t (out-Ty t)

abbrev pub general_form : Ty → Ty
general_form t = union_form (map general_member (members t))

-- the union with `nil`
abbrev pub or_nil : Ty → Ty
or_nil t = union_form (t ∷ ty.Nil ∷ [])

-- a place past the list has the union of the tail and `nil`
abbrev pub tuple_place : TupleOf Ty → ℕ → Ty
tuple_place p i = slice_index_or p.items i (or_nil p.tail)

-- a place of results is the union over the tuples, without one `never`
abbrev pub results_place : ResultsOf Ty → ℕ → Ty
results_place r i = union_form (map (λ p. tuple_place p i) r.tuples)
