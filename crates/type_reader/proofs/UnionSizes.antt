-- How many nodes a union has, by its members: those that no base type covers, and one more unless they are exactly one.
use Rattle.std.proofs.Common.{◌≡◌, ℕ, ◌+◌, ◌<◌, Bool, true, false, ◌||◌, not, List, [], ◌∷◌, ◌++◌, length, get_or, take, refl, ap, ◌∙◌, sym, arith, ◌⊎◌, inl, inr, length-append}
use Rattle.std.specs.Prelude.{filter, flat_map, sum, sum_by}
use Rattle.std.specs.List.{list_any}
use Rattle.std.proofs.lemmas.List.{take_more}
use Rattle.std.proofs.lemmas.List.Elements.{filter-append}
use Rattle.std.proofs.lemmas.List.Sums.{sum_by-append, sum_by-cons}
use Rattle.tl_types.specs.declared.types.Ty.{Ty, out-Ty, fold-roll-Ty}
use Rattle.tl_types.specs.declared.types.Ty.TheVariants as ty
use Rattle.tl_types.specs.declared.types.Ty.TheOpen.{Any, Value}
use Rattle.tl_types.specs.Types.{members}
use Rattle.tl_types.specs.Sizes.{type_size, components}
use Rattle.tl_types.specs.Unions.{is_any, is_value, is_int, is_str, is_covered_form, distinct, union_from, union_form}
use Rattle.tl_types.proofs.Measures.{size_union}
use Rattle.tl_types.proofs.UnionLaws.{cases, bare, left_of, union_any, union_value, union_plain}
use Rattle.type_reader.specs.Gathered.{uncovered}
use Rattle.type_reader.proofs.Standing.{filter_once}

-- one member more

module _ (with_int with_str : Bool) where
  uncovered_more : (ts : List Ty) (i : ℕ) (d : Ty) → i < length ts → uncovered with_int with_str (take (i + 1) ts) ≡ uncovered with_int with_str (take i ts) ++ uncovered with_int with_str (get_or ts i d ∷ [])
  uncovered_more ts i d within =
      ap (uncovered with_int with_str) (take_more ts i d within)
      ∙ filter-append (λ (t : Ty). not (is_covered_form with_int with_str (out-Ty t))) (take i ts) (get_or ts i d ∷ [])

  pub count_more : (ts : List Ty) (i : ℕ) (d : Ty) → i < length ts → length (uncovered with_int with_str (take (i + 1) ts)) ≡ length (uncovered with_int with_str (take i ts)) + length (uncovered with_int with_str (get_or ts i d ∷ []))
  count_more ts i d within = ap length (uncovered_more ts i d within) ∙ length-append (uncovered with_int with_str (take i ts)) (uncovered with_int with_str (get_or ts i d ∷ []))

  pub nodes_more : (ts : List Ty) (i : ℕ) (d : Ty) → i < length ts → sum_by type_size (uncovered with_int with_str (take (i + 1) ts)) ≡ sum_by type_size (uncovered with_int with_str (take i ts)) + sum_by type_size (uncovered with_int with_str (get_or ts i d ∷ []))
  nodes_more ts i d within = ap (sum_by type_size) (uncovered_more ts i d within) ∙ sum_by-append type_size (uncovered with_int with_str (take i ts)) (uncovered with_int with_str (get_or ts i d ∷ []))

-- the form of the union

pub form_any : (ts : List Ty) → flat_map members ts ≡ ts → list_any is_any ts ≡ true → union_form ts ≡ ty.Any
form_any ts flat any = union_any ts (ap (list_any is_any) flat ∙ any)

pub form_value : (ts : List Ty) → flat_map members ts ≡ ts → list_any is_any ts ≡ false → list_any is_value ts ≡ true → union_form ts ≡ ty.Value
form_value ts flat no_any value = union_value ts (ap (list_any is_any) flat ∙ no_any) (ap (list_any is_value) flat ∙ value)

-- without `any` and `value` it is made of those that are left
pub form_left : (ts : List Ty) (with_int with_str : Bool) → flat_map members ts ≡ ts → distinct ts ≡ ts → list_any is_any ts ≡ false → list_any is_value ts ≡ false
    → with_int ≡ list_any is_int ts → with_str ≡ list_any is_str ts → union_form ts ≡ union_from (uncovered with_int with_str ts)
form_left ts with_int with_str flat once no_any no_value ints strs =
    union_plain ts (ap (list_any is_any) flat ∙ no_any) (ap (list_any is_value) flat ∙ no_value)
    ∙ ap (λ r. union_from (left_of r)) flat
    ∙ ap union_from (sym (filter_once (bare ts) ts) ∙ ap (filter (bare ts)) once)
    ∙ (λ i. union_from (uncovered (sym ints i) (sym strs i) ts))

-- its size

size_any : type_size ty.Any ≡ 1
size_any = ap type_size (sym ty.rolls-Any) ∙ fold-roll-Ty ℕ (λ x. 1 + sum (components x)) Any

size_value : type_size ty.Value ≡ 1
size_value = ap type_size (sym ty.rolls-Value) ∙ fold-roll-Ty ℕ (λ x. 1 + sum (components x)) Value

size_top_by : (ts : List Ty) → flat_map members ts ≡ ts → (list_any is_any ts || list_any is_value ts) ≡ true → (list_any is_any ts ≡ true) ⊎ (list_any is_any ts ≡ false) → type_size (union_form ts) ≡ 1
size_top_by ts flat top (inl any) = ap type_size (form_any ts flat any) ∙ size_any
size_top_by ts flat top (inr no_any) = ap type_size (form_value ts flat no_any (sym (ap (λ b. b || list_any is_value ts) no_any) ∙ top)) ∙ size_value

pub size_top : (ts : List Ty) → flat_map members ts ≡ ts → (list_any is_any ts || list_any is_value ts) ≡ true → type_size (union_form ts) ≡ 1
size_top ts flat top = size_top_by ts flat top (cases (list_any is_any ts))

pub size_one : (ts : List Ty) → length ts ≡ 1 → type_size (union_from ts) ≡ sum_by type_size ts
size_one [] one = absurd (omega (arith, one))
size_one (t ∷ []) one = omega (arith, sum_by-cons type_size t [])
size_one (t ∷ u ∷ us) one = absurd (omega (arith, one))

pub size_more : (ts : List Ty) → (length ts ≡ 1 → ⊥) → type_size (union_from ts) ≡ 1 + sum_by type_size ts
size_more [] more = size_union (ty.Union []) [] refl
size_more (t ∷ []) more = absurd (more (omega arith))
size_more (t ∷ u ∷ us) more = size_union (ty.Union (t ∷ u ∷ us)) (t ∷ u ∷ us) refl
