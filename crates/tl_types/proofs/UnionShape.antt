-- The shape of a union: flat, each member once, no literal beside its base type, and nothing lost.
use Rattle.std.proofs.Common.{◌≡◌, ℕ, Bool, true, false, not, cond, List, [], ◌∷◌, refl, sym, ap, ◌∙◌, subst, inl, inr}
use Rattle.std.specs.Prelude.{flat_map, filter, Contains}
use Rattle.std.specs.List.{list_any, list_all, IsDistinct, AllByRecursion}
use Rattle.std.proofs.lemmas.Bool.{and_parts, and_from, false≢true}
use Rattle.tl_types.specs.declared.types.Ty.{Ty, out-Ty}
use Rattle.tl_types.specs.declared.types.Ty.TheVariants as ty
use Rattle.tl_types.specs.declared.types.Ty.TheOpen.{Int, IntLit, Str, StrLit, Value, Any, Union}
use Rattle.tl_types.specs.Types.{members}
use Rattle.tl_types.specs.Same.{same_type}
use Rattle.tl_types.specs.Unions.{is_any, is_value, is_int, is_int_form, is_str, is_str_form, is_covered, is_covered_form, distinct, union_from, union_form}
use Rattle.tl_types.specs.Cases.{IsNoUnion}
use Rattle.tl_types.proofs.Alike.{same_right, same_self}
use Rattle.tl_types.proofs.Lists.{all_contains, any_contains, any_from_contains}
use Rattle.tl_types.proofs.Members.{is_single, is_single_form, out_of}
use Rattle.tl_types.proofs.UnionLaws.{cases, other, bare, not_true, any_kept, kept_contains, any_distinct, single_no_union, left_of, left_single, union_plain, all_members, union_any, union_value}

union_same : (xs us : List Ty) → ty.Union xs ≡ ty.Union us → xs ≡ us
union_same xs us e =
    let forms : Union xs ≡ Union us = sym (out_of (ty.Union xs) (Union xs) (ty.rolls-Union xs)) ∙ (ap out-Ty e ∙ out_of (ty.Union us) (Union us) (ty.rolls-Union us)) in
    cc

from_back : (xs us : List Ty) → list_all is_single xs ≡ true → union_from xs ≡ ty.Union us → xs ≡ us
from_back [] us single e = union_same [] us e
from_back (t ∷ []) us single e = absurd (single_no_union t (and_parts (is_single t) true single).0 us e)
from_back (t ∷ u ∷ rest) us single e = union_same (t ∷ u ∷ rest) us e

any_alone : IsNoUnion ty.Any
any_alone = single_no_union ty.Any (ap is_single_form (out_of ty.Any Any ty.rolls-Any))

value_alone : IsNoUnion ty.Value
value_alone = single_no_union ty.Value (ap is_single_form (out_of ty.Value Value ty.rolls-Value))

-- the members that a union has are those that are left
pub shape : (ts us : List Ty) → union_form ts ≡ ty.Union us → us ≡ left_of (flat_map members ts)
shape ts us is =
    let flat = flat_map members ts in
    elim (cases (list_any is_any flat)) as (λ c. us ≡ left_of flat) [
      | inl any ↦ absurd (any_alone us (sym (union_any ts any) ∙ is))
      | inr no_any ↦ elim (cases (list_any is_value flat)) as (λ c. us ≡ left_of flat) [
        | inl value ↦ absurd (value_alone us (sym (union_value ts no_any value) ∙ is))
        | inr no_value ↦ sym (from_back (left_of flat) us (left_single flat (all_members ts)) (sym (union_plain ts no_any no_value) ∙ is))
      ]
    ]

pub flat_union : (ts us : List Ty) → union_form ts ≡ ty.Union us → (u : Ty) → Contains us u → IsNoUnion u
flat_union ts us is u here =
    let flat = flat_map members ts in
    single_no_union u (all_contains is_single us u (subst (λ xs. list_all is_single xs ≡ true) (sym (shape ts us is)) (left_single flat (all_members ts))) here)

-- each once

differ_one : (t x : Ty) (zs : List Ty) (b : Bool) → other t x ≡ b → AllByRecursion (λ u. same_type t u ≡ false) zs → AllByRecursion (λ u. same_type t u ≡ false) (cond b (x ∷ zs) zs)
differ_one t x zs true is rest = (not_true (same_type t x) is, rest)
differ_one t x zs false is rest = rest

differ : (t : Ty) (xs : List Ty) → AllByRecursion (λ u. same_type t u ≡ false) (filter (other t) xs)
differ t [] = tt
differ t (x ∷ xs) = differ_one t x (filter (other t) xs) (other t x) refl (differ t xs)

all_filtered_one : (P : Ty → Type 0) (b : Bool) (x : Ty) (zs : List Ty) → P x → AllByRecursion P zs → AllByRecursion P (cond b (x ∷ zs) zs)
all_filtered_one P true x zs here rest = (here, rest)
all_filtered_one P false x zs here rest = rest

all_filtered : (P : Ty → Type 0) (q : Ty → Bool) (xs : List Ty) → AllByRecursion P xs → AllByRecursion P (filter q xs)
all_filtered P q [] all = tt
all_filtered P q (x ∷ xs) all = all_filtered_one P (q x) x (filter q xs) all.0 (all_filtered P q xs all.1)

distinct_filtered_one : (b : Bool) (x : Ty) (zs : List Ty) → AllByRecursion (λ u. same_type x u ≡ false) zs → IsDistinct same_type zs → IsDistinct same_type (cond b (x ∷ zs) zs)
unfolding IsDistinct
distinct_filtered_one true x zs here rest = (here, rest)
distinct_filtered_one false x zs here rest = rest

distinct_filtered : (q : Ty → Bool) (xs : List Ty) → IsDistinct same_type xs → IsDistinct same_type (filter q xs)
unfolding IsDistinct
distinct_filtered q [] d = tt
distinct_filtered q (x ∷ xs) d = distinct_filtered_one (q x) x (filter q xs) (all_filtered (λ u. same_type x u ≡ false) q xs d.0) (distinct_filtered q xs d.1)

distinct_is : (ts : List Ty) → IsDistinct same_type (distinct ts)
unfolding IsDistinct
distinct_is [] = tt
distinct_is (t ∷ ts) = (differ t (distinct ts), distinct_filtered (other t) (distinct ts) (distinct_is ts))

pub distinct_union : (ts us : List Ty) → union_form ts ≡ ty.Union us → IsDistinct same_type us
distinct_union ts us is = subst (IsDistinct same_type) (sym (shape ts us is)) (distinct_is (filter (bare (flat_map members ts)) (flat_map members ts)))

-- what is left stands among the members and isn't covered

found_back : (t : Ty) (xs : List Ty) → list_any (same_type t) xs ≡ true → Contains xs t
found_back t xs e = let found = any_contains (same_type t) xs e in subst (Contains xs) (sym (same_right t found.0 found.2)) found.1

all_pass_one : (q : Ty → Bool) (x : Ty) (zs : List Ty) (b : Bool) → q x ≡ b → list_all q zs ≡ true → list_all q (cond b (x ∷ zs) zs) ≡ true
all_pass_one q x zs true is rest = and_from (q x) (list_all q zs) is rest
all_pass_one q x zs false is rest = rest

all_pass : (q : Ty → Bool) (xs : List Ty) → list_all q (filter q xs) ≡ true
all_pass q [] = refl
all_pass q (x ∷ xs) = all_pass_one q x (filter q xs) (q x) refl (all_pass q xs)

in_filter : (q : Ty → Bool) (xs : List Ty) (t : Ty) → Contains (filter q xs) t → Contains xs t × (q t ≡ true)
in_filter q xs t here =
    let kept : list_any (same_type t) (filter q xs) ≡ true = any_from_contains (same_type t) (filter q xs) t here (same_self t) in
    (found_back t xs (any_kept (same_type t) q xs kept), all_contains q (filter q xs) t (all_pass q xs) here)

in_distinct : (xs : List Ty) (t : Ty) → Contains (distinct xs) t → Contains xs t
in_distinct xs t here = found_back t xs (sym (any_distinct (same_type t) xs) ∙ any_from_contains (same_type t) (distinct xs) t here (same_self t))

into_distinct : (xs : List Ty) (t : Ty) → Contains xs t → Contains (distinct xs) t
into_distinct xs t here = found_back t (distinct xs) (any_distinct (same_type t) xs ∙ any_from_contains (same_type t) xs t here (same_self t))

pub union_has : (ts us : List Ty) → union_form ts ≡ ty.Union us → (t : Ty) → Contains us t → Contains (flat_map members ts) t × (is_covered (flat_map members ts) t ≡ false)
union_has ts us is t here =
    let flat = flat_map members ts in
    let both = in_filter (bare flat) flat t (in_distinct (filter (bare flat) flat) t (subst (λ xs. Contains xs t) (shape ts us is) here)) in
    (both.0, not_true (is_covered flat t) both.1)

pub union_keeps : (ts us : List Ty) → union_form ts ≡ ty.Union us → (t : Ty) → Contains (flat_map members ts) t → is_covered (flat_map members ts) t ≡ false → Contains us t
union_keeps ts us is t here uncovered =
    let flat = flat_map members ts in
    subst (λ xs. Contains xs t) (sym (shape ts us is)) (into_distinct (filter (bare flat) flat) t (kept_contains (bare flat) flat t (ap not uncovered) here))

pub no_int_literal : (ts us : List Ty) → union_form ts ≡ ty.Union us → Contains us ty.Int → (n : _) → Contains us (ty.IntLit n) → ⊥
no_int_literal ts us is base n lit =
    let flat = flat_map members ts in
    let form = out_of (ty.IntLit n) (IntLit n) (ty.rolls-IntLit n) in
    let stands : list_any is_int flat ≡ true = any_from_contains is_int flat ty.Int (union_has ts us is ty.Int base).0 (ap is_int_form (out_of ty.Int Int ty.rolls-Int)) in
    false≢true (sym (union_has ts us is (ty.IntLit n) lit).1 ∙ (ap (is_covered_form (list_any is_int flat) (list_any is_str flat)) form ∙ stands))

pub no_str_literal : (ts us : List Ty) → union_form ts ≡ ty.Union us → Contains us ty.Str → (s : List ℕ) → Contains us (ty.StrLit s) → ⊥
no_str_literal ts us is base s lit =
    let flat = flat_map members ts in
    let form = out_of (ty.StrLit s) (StrLit s) (ty.rolls-StrLit s) in
    let stands : list_any is_str flat ≡ true = any_from_contains is_str flat ty.Str (union_has ts us is ty.Str base).0 (ap is_str_form (out_of ty.Str Str ty.rolls-Str)) in
    false≢true (sym (union_has ts us is (ty.StrLit s) lit).1 ∙ (ap (is_covered_form (list_any is_int flat) (list_any is_str flat)) form ∙ stands))
