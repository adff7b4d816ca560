-- Which members of a union may be left out, whatever members follow: one that stands there already, and, where there are too many nodes, one that isn't `any` or `value`.
use Rattle.std.proofs.Common.{◌≡◌, ℕ, ◌+◌, ◌-◌, ◌^◌, ◌<◌, ◌≤◌, Bool, true, false, ◌||◌, not, cond, List, [], ◌∷◌, ◌++◌, refl, ap, ◌∙◌, sym, subst, arith, append_assoc, ◌⊎◌, inl, inr}
use Rattle.std.specs.Prelude.{None, filter, flat_map, min, sum_by}
use Rattle.std.specs.List.{list_any}
use Rattle.std.proofs.lemmas.Bool.{false≢true}
use Rattle.std.proofs.lemmas.List.Elements.{filter-append}
use Rattle.std.proofs.lemmas.List.Folds.{list_any-append}
use Rattle.std.proofs.lemmas.List.Sums.{sum_by-append, sum_by-cons, sum_by_push}
use Rattle.tl_types.specs.declared.types.Ty.{Ty, out-Ty}
use Rattle.tl_types.specs.declared.types.Ty.TheVariants as ty
use Rattle.tl_types.specs.declared.types.Ty.TheOpen.{Ty-F, IntLit, StrLit}
use Rattle.tl_types.specs.Types.{members}
use Rattle.tl_types.specs.Same.{same_type}
use Rattle.tl_types.specs.Sizes.{type_size}
use Rattle.tl_types.specs.Unions.{is_any, is_value, is_int, is_str, is_covered_form, distinct, union_from, union_flat, union_form}
use Rattle.tl_types.proofs.Alike.{same_right, same_self}
use Rattle.tl_types.proofs.Distinct.{same_turned}
use Rattle.tl_types.proofs.Gathered.{flat_append, append_nil}
use Rattle.tl_types.proofs.Measures.{size_union}
use Rattle.tl_types.proofs.Members.{members_union}
use Rattle.tl_types.proofs.UnionLaws.{bare, other, left_of, cases, any_kept}
use Rattle.type_reader.specs.Types.{limited}
use Rattle.type_reader.specs.Gathered.{StandFor, IsCounted, lasts, nodes_that_last}
use Rattle.type_reader.proofs.Limits.{too_large}

-- ---- to filter

module _ {X : Type 0} (p : X → Bool) where
  first_in : (x : X) (xs : List X) → p x ≡ true → filter p (x ∷ xs) ≡ x ∷ filter p xs
  first_in x xs e = ap (λ c. cond c (x ∷ filter p xs) (filter p xs)) e

  first_out : (x : X) (xs : List X) → p x ≡ false → filter p (x ∷ xs) ≡ filter p xs
  first_out x xs e = ap (λ c. cond c (x ∷ filter p xs) (filter p xs)) e

module _ {X : Type 0} (p q : X → Bool) where
  swap_one : (x : X) (xs : List X) → filter p (filter q xs) ≡ filter q (filter p xs) → (p x ≡ true) ⊎ (p x ≡ false) → (q x ≡ true) ⊎ (q x ≡ false) → filter p (filter q (x ∷ xs)) ≡ filter q (filter p (x ∷ xs))
  swap_one x xs e (inl i) (inl j) =
      ap (filter p) (first_in q x xs j) ∙ first_in p x (filter q xs) i ∙ ap (λ r. x ∷ r) e
      ∙ sym (ap (filter q) (first_in p x xs i) ∙ first_in q x (filter p xs) j)
  swap_one x xs e (inl i) (inr j) = ap (filter p) (first_out q x xs j) ∙ e ∙ sym (ap (filter q) (first_in p x xs i) ∙ first_out q x (filter p xs) j)
  swap_one x xs e (inr i) (inl j) = ap (filter p) (first_in q x xs j) ∙ first_out p x (filter q xs) i ∙ e ∙ sym (ap (filter q) (first_out p x xs i))
  swap_one x xs e (inr i) (inr j) = ap (filter p) (first_out q x xs j) ∙ e ∙ sym (ap (filter q) (first_out p x xs i))

  filter_swap : (xs : List X) → filter p (filter q xs) ≡ filter q (filter p xs)
  filter_swap [] = refl
  filter_swap (x ∷ xs) = swap_one x xs (filter_swap xs) (cases (p x)) (cases (q x))

  -- the weaker of two tests leaves out nothing more
  weaker_one : ((x : X) → q x ≡ false → p x ≡ false) → (x : X) (xs : List X) → filter p (filter q xs) ≡ filter p xs → (q x ≡ true) ⊎ (q x ≡ false) → filter p (filter q (x ∷ xs)) ≡ filter p (x ∷ xs)
  weaker_one k x xs e (inl j) = ap (filter p) (first_in q x xs j) ∙ ap (λ r. cond (p x) (x ∷ r) r) e
  weaker_one k x xs e (inr j) = ap (filter p) (first_out q x xs j) ∙ e ∙ sym (first_out p x xs (k x j))

  filter_weaker : ((x : X) → q x ≡ false → p x ≡ false) → (xs : List X) → filter p (filter q xs) ≡ filter p xs
  filter_weaker k [] = refl
  filter_weaker k (x ∷ xs) = weaker_one k x xs (filter_weaker k xs) (cases (q x))

-- ---- each type once

not_false : (b : Bool) → not b ≡ false → b ≡ true
not_false true e = refl
not_false false e = sym e

-- what the test of one leaves out is that one
left_out : (t u : Ty) → other t u ≡ false → t ≡ u
left_out t u e = same_right t u (not_false (same_type t u) e)

no_other : (t : Ty) → other t t ≡ false
no_other t = ap not (same_self t)

module _ (p : Ty → Bool) where
  once_one : (t : Ty) (ts : List Ty) → filter p (distinct ts) ≡ distinct (filter p ts) → (p t ≡ true) ⊎ (p t ≡ false) → filter p (distinct (t ∷ ts)) ≡ distinct (filter p (t ∷ ts))
  once_one t ts e (inl i) =
      first_in p t (filter (other t) (distinct ts)) i ∙ ap (λ r. t ∷ r) (filter_swap p (other t) (distinct ts)) ∙ ap (λ r. t ∷ filter (other t) r) e
      ∙ sym (ap distinct (first_in p t ts i))
  once_one t ts e (inr i) =
      first_out p t (filter (other t) (distinct ts)) i ∙ filter_weaker p (other t) (λ u j. ap p (sym (left_out t u j)) ∙ i) (distinct ts) ∙ e
      ∙ sym (ap distinct (first_out p t ts i))

  pub filter_once : (ts : List Ty) → filter p (distinct ts) ≡ distinct (filter p ts)
  filter_once [] = refl
  filter_once (t ∷ ts) = once_one t ts (filter_once ts) (cases (p t))

-- those of a list's first part stand first
once_first : (ts us : List Ty) → (vs : List Ty) × (distinct (ts ++ us) ≡ distinct ts ++ vs)
once_first [] us = (distinct us, refl)
once_first (t ∷ ts) us =
    let rest = once_first ts us in
    (filter (other t) rest.0, ap (λ r. t ∷ filter (other t) r) rest.1 ∙ ap (λ r. t ∷ r) (filter-append (other t) (distinct ts) rest.0))

pub or_false : (a b : Bool) → (a || b) ≡ false → (a ≡ false) × (b ≡ false)
or_false false b e = (refl, e)
or_false true b e = absurd (false≢true (sym e))

or_true : (a b : Bool) → (a || b) ≡ true → (a ≡ true) ⊎ (b ≡ true)
or_true true b e = inl refl
or_true false b e = inr e

-- a new one stands at the end
once_new : (ts : List Ty) (t : Ty) → list_any (same_type t) ts ≡ false → distinct (ts ++ t ∷ []) ≡ distinct ts ++ t ∷ []
once_new [] t e = refl
once_new (u ∷ ts) t e =
    let apart = or_false (same_type t u) (list_any (same_type t) ts) e in
    ap (λ r. u ∷ filter (other u) r) (once_new ts t apart.1)
    ∙ ap (λ r. u ∷ r) (filter-append (other u) (distinct ts) (t ∷ []))
    ∙ ap (λ r. u ∷ (filter (other u) (distinct ts) ++ r)) (first_in (other u) t [] (ap not (same_turned u t ∙ apart.0)))

-- one that is left out may stand anywhere
without : (t : Ty) (ts us : List Ty) → filter (other t) (distinct ((ts ++ t ∷ []) ++ us)) ≡ filter (other t) (distinct (ts ++ us))
without t [] us = first_out (other t) t (filter (other t) (distinct us)) (no_other t) ∙ filter_weaker (other t) (other t) (λ u e. e) (distinct us)
without t (u ∷ ts) us =
    let rest : filter (other t) (filter (other u) (distinct ((ts ++ t ∷ []) ++ us))) ≡ filter (other t) (filter (other u) (distinct (ts ++ us))) =
    filter_swap (other t) (other u) (distinct ((ts ++ t ∷ []) ++ us)) ∙ ap (filter (other u)) (without t ts us) ∙ sym (filter_swap (other t) (other u) (distinct (ts ++ us))) in
    ap (λ r. cond (other t u) (u ∷ r) r) rest

-- one that stands there already
once_old : (ts : List Ty) (t : Ty) (us : List Ty) → list_any (same_type t) ts ≡ true → distinct ((ts ++ t ∷ []) ++ us) ≡ distinct (ts ++ us)
once_old [] t us e = absurd (false≢true e)
once_old (u ∷ ts) t us e = elim (or_true (same_type t u) (list_any (same_type t) ts) e) as (λ s. distinct (((u ∷ ts) ++ t ∷ []) ++ us) ≡ distinct ((u ∷ ts) ++ us)) [
  | inl same ↦
      let P : Ty → Type 0 = λ v. (v ∷ filter (other v) (distinct ((ts ++ t ∷ []) ++ us))) ≡ (v ∷ filter (other v) (distinct (ts ++ us))) in
      subst P (same_right t u same) (ap (λ r. t ∷ r) (without t ts us))
  | inr later ↦ ap (λ r. u ∷ filter (other u) r) (once_old ts t us later)
]

-- ---- how many nodes a union has at least

kept_sum_one : (p : Ty → Bool) (t : Ty) (ts : List Ty) → sum_by type_size (filter p ts) ≤ sum_by type_size ts → (p t ≡ true) ⊎ (p t ≡ false) → sum_by type_size (filter p (t ∷ ts)) ≤ sum_by type_size (t ∷ ts)
kept_sum_one p t ts e (inl i) = omega (arith, e, ap (sum_by type_size) (first_in p t ts i), sum_by-cons type_size t (filter p ts), sum_by-cons type_size t ts)
kept_sum_one p t ts e (inr i) = omega (arith, e, ap (sum_by type_size) (first_out p t ts i), sum_by-cons type_size t ts)

kept_sum : (p : Ty → Bool) (ts : List Ty) → sum_by type_size (filter p ts) ≤ sum_by type_size ts
kept_sum p [] = omega arith
kept_sum p (t ∷ ts) = kept_sum_one p t ts (kept_sum p ts) (cases (p t))

union_sum : (ts : List Ty) → sum_by type_size ts ≤ type_size (union_from ts)
union_sum [] = omega arith
union_sum (t ∷ []) = omega (arith, sum_by-cons type_size t [])
union_sum (t ∷ u ∷ us) = omega (arith, size_union (ty.Union (t ∷ u ∷ us)) (t ∷ u ∷ us) refl)

-- what lasts is covered in no union
covered_more : (i s : Bool) (x : Ty-F Ty) → not (is_covered_form i s x) ≡ false → not (is_covered_form true true x) ≡ false
covered_more i s (IntLit n) e = refl
covered_more i s (StrLit n) e = refl
covered_more i s _ e = e

lasting : (ts : List Ty) → filter lasts (left_of ts) ≡ distinct (filter lasts ts)
lasting ts =
    filter_once lasts (filter (bare ts) ts)
    ∙ ap distinct (filter_weaker lasts (bare ts) (λ t e. covered_more (list_any is_int ts) (list_any is_str ts) (out-Ty t) e) ts)

lasting_sum : (ts us : List Ty) → nodes_that_last ts ≤ sum_by type_size (left_of (ts ++ us))
lasting_sum ts us =
    let parts = once_first (filter lasts ts) (filter lasts us) in
    let same : filter lasts (left_of (ts ++ us)) ≡ distinct (filter lasts ts) ++ parts.0 = lasting (ts ++ us) ∙ ap distinct (filter-append lasts ts us) ∙ parts.1 in
    omega (arith, kept_sum lasts (left_of (ts ++ us)), ap (sum_by type_size) same, sum_by-append type_size (distinct (filter lasts ts)) parts.0)

overfull : (ts us : List Ty) → 65536 < nodes_that_last ts → limited (union_from (left_of (ts ++ us))) ≡ None
overfull ts us large = too_large (union_from (left_of (ts ++ us))) (omega (arith, large, lasting_sum ts us, union_sum (left_of (ts ++ us))))

-- ---- what a member more changes

or_last : (b : Bool) → (b || true) ≡ true
or_last true = refl
or_last false = refl

any_old : (p : Ty → Bool) (ts : List Ty) (t : Ty) → list_any (same_type t) ts ≡ true → p t ≡ true → list_any p ts ≡ true
any_old p [] t old e = absurd (false≢true old)
any_old p (u ∷ ts) t old e = elim (or_true (same_type t u) (list_any (same_type t) ts) old) as (λ s. (p u || list_any p ts) ≡ true) [
  | inl same ↦ ap (λ b. b || list_any p ts) (ap p (sym (same_right t u same)) ∙ e)
  | inr later ↦ ap (λ b. p u || b) (any_old p ts t later e) ∙ or_last (p u)
]

or_same : (a b : Bool) → (b ≡ true → a ≡ true) → (a || b) ≡ a
or_same true b k = refl
or_same false true k = sym (k refl)
or_same false false k = refl

-- a test that holds of the member only where it held before
no_more : (b : Bool) → (b || false) ≡ true → b ≡ true
no_more true e = refl
no_more false e = e

flag_stays : (p : Ty → Bool) (ts : List Ty) (t : Ty) (us : List Ty) → (p t ≡ true → list_any p ts ≡ true) → list_any p ((ts ++ t ∷ []) ++ us) ≡ list_any p (ts ++ us)
flag_stays p ts t us k =
    list_any-append p (ts ++ t ∷ []) us
    ∙ ap (λ b. b || list_any p us) (list_any-append p ts (t ∷ []) ∙ or_same (list_any p ts) (p t || false) (λ e. k (no_more (p t) e)))
    ∙ sym (list_any-append p ts us)

any_more : (p : Ty → Bool) (b : Bool) (u : Ty) (ts : List Ty) → list_any p ts ≡ true → list_any p (cond b (u ∷ ts) ts) ≡ true
any_more p true u ts e = ap (λ b. p u || b) e ∙ or_last (p u)
any_more p false u ts e = e

still_old : (q : Ty → Bool) (ts : List Ty) (t : Ty) → q t ≡ true → list_any (same_type t) ts ≡ true → list_any (same_type t) (filter q ts) ≡ true
still_old q [] t keep old = old
still_old q (u ∷ ts) t keep old = elim (or_true (same_type t u) (list_any (same_type t) ts) old) as (λ s. list_any (same_type t) (filter q (u ∷ ts)) ≡ true) [
  | inl same ↦ ap (list_any (same_type t)) (first_in q u ts (ap q (sym (same_right t u same)) ∙ keep)) ∙ ap (λ b. b || list_any (same_type t) (filter q ts)) same
  | inr later ↦ any_more (same_type t) (q u) u (filter q ts) (still_old q ts t keep later)
]

same_left_one : (q : Ty → Bool) (ts : List Ty) (t : Ty) (us : List Ty) → list_any (same_type t) ts ≡ true → (q t ≡ true) ⊎ (q t ≡ false) → distinct (filter q ((ts ++ t ∷ []) ++ us)) ≡ distinct (filter q (ts ++ us))
same_left_one q ts t us old (inl keep) =
    ap distinct (filter-append q (ts ++ t ∷ []) us ∙ ap (λ r. r ++ filter q us) (filter-append q ts (t ∷ []) ∙ ap (λ r. filter q ts ++ r) (first_in q t [] keep)))
    ∙ once_old (filter q ts) t (filter q us) (still_old q ts t keep old)
    ∙ sym (ap distinct (filter-append q ts us))
same_left_one q ts t us old (inr drop) =
    ap distinct (filter-append q (ts ++ t ∷ []) us ∙ ap (λ r. r ++ filter q us) (filter-append q ts (t ∷ []) ∙ ap (λ r. filter q ts ++ r) (first_out q t [] drop) ∙ append_nil (filter q ts)) ∙ sym (filter-append q ts us))

same_left : (ts : List Ty) (t : Ty) (us : List Ty) → list_any (same_type t) ts ≡ true → left_of ((ts ++ t ∷ []) ++ us) ≡ left_of (ts ++ us)
same_left ts t us old =
    let ints = flag_stays is_int ts t us (any_old is_int ts t old) in
    let strs = flag_stays is_str ts t us (any_old is_str ts t old) in
    (λ i. distinct (filter (λ (u : Ty). not (is_covered_form (ints i) (strs i) (out-Ty u))) ((ts ++ t ∷ []) ++ us)))
    ∙ same_left_one (bare (ts ++ us)) ts t us old (cases (bare (ts ++ us) t))

flat_old : (ts : List Ty) (t : Ty) (us : List Ty) → list_any (same_type t) ts ≡ true → union_flat ((ts ++ t ∷ []) ++ us) ≡ union_flat (ts ++ us)
flat_old ts t us old =
    let anys = flag_stays is_any ts t us (any_old is_any ts t old) in
    let values = flag_stays is_value ts t us (any_old is_value ts t old) in
    let left = same_left ts t us old in
    λ i. cond (anys i) ty.Any (cond (values i) ty.Value (union_from (left i)))

limited_cond : (a v : Bool) (x y z : Ty) → limited (cond a x (cond v y z)) ≡ cond a (limited x) (cond v (limited y) (limited z))
limited_cond true v x y z = refl
limited_cond false true x y z = refl
limited_cond false false x y z = refl

flat_full : (ts : List Ty) (t : Ty) (us : List Ty) → is_any t ≡ false → is_value t ≡ false → 65536 < nodes_that_last ts → limited (union_flat ((ts ++ t ∷ []) ++ us)) ≡ limited (union_flat (ts ++ us))
flat_full ts t us no_any no_value large =
    let more = (ts ++ t ∷ []) ++ us in
    let anys = flag_stays is_any ts t us (λ e. absurd (false≢true (sym no_any ∙ e))) in
    let values = flag_stays is_value ts t us (λ e. absurd (false≢true (sym no_value ∙ e))) in
    let none : limited (union_from (left_of more)) ≡ limited (union_from (left_of (ts ++ us))) =
    ap (λ r. limited (union_from (left_of r))) (append_assoc ts (t ∷ []) us) ∙ overfull ts (t ∷ us) large ∙ sym (overfull ts us large) in
    limited_cond (list_any is_any more) (list_any is_value more) ty.Any ty.Value (union_from (left_of more))
    ∙ (λ i. cond (anys i) (limited ty.Any) (cond (values i) (limited ty.Value) (none i)))
    ∙ sym (limited_cond (list_any is_any (ts ++ us)) (list_any is_value (ts ++ us)) ty.Any ty.Value (union_from (left_of (ts ++ us))))

-- ---- members that stand for others

flat_kept : (kept more : List Ty) → flat_map members kept ≡ kept → flat_map members (kept ++ more) ≡ kept ++ flat_map members more
flat_kept kept more flat = flat_append members kept more ∙ ap (λ r. r ++ flat_map members more) flat

pub flat_push : (kept : List Ty) (t : Ty) → flat_map members kept ≡ kept → members t ≡ t ∷ [] → flat_map members (kept ++ t ∷ []) ≡ kept ++ t ∷ []
flat_push kept t flat single = flat_kept kept (t ∷ []) flat ∙ ap (λ r. kept ++ r) (append_nil (members t) ∙ single)

pub stand_old : (kept : List Ty) (t : Ty) → flat_map members kept ≡ kept → members t ≡ t ∷ [] → list_any (same_type t) kept ≡ true → StandFor kept (kept ++ t ∷ [])
stand_old kept t flat single old more =
    ap limited (ap union_flat (flat_kept kept more flat) ∙ sym (flat_old kept t (flat_map members more) old) ∙ sym (ap union_flat (flat_kept (kept ++ t ∷ []) more (flat_push kept t flat single))))

pub stand_full : (kept : List Ty) (t : Ty) → flat_map members kept ≡ kept → members t ≡ t ∷ [] → is_any t ≡ false → is_value t ≡ false → 65536 < nodes_that_last kept → StandFor kept (kept ++ t ∷ [])
stand_full kept t flat single no_any no_value large more =
    ap (λ r. limited (union_flat r)) (flat_kept kept more flat) ∙ sym (flat_full kept t (flat_map members more) no_any no_value large)
    ∙ sym (ap (λ r. limited (union_flat r)) (flat_kept (kept ++ t ∷ []) more (flat_push kept t flat single)))

pub stand_same : (kept all : List Ty) → kept ≡ all → StandFor kept all
stand_same kept all e more = ap (λ r. limited (union_form (r ++ more))) e

pub stand_next : (kept all new : List Ty) (t : Ty) → StandFor kept all → StandFor new (kept ++ t ∷ []) → StandFor new (all ++ t ∷ [])
stand_next kept all new t before here more =
    here more ∙ ap (λ r. limited (union_form r)) (append_assoc kept (t ∷ []) more) ∙ before (t ∷ more) ∙ sym (ap (λ r. limited (union_form r)) (append_assoc all (t ∷ []) more))

-- a union's members stand for it
pub stand_union : (kept all ms : List Ty) (t : Ty) → t ≡ ty.Union ms → StandFor kept (all ++ ms) → StandFor kept (all ++ t ∷ [])
stand_union kept all ms t is before more =
    before more
    ∙ ap (λ r. limited (union_flat r)) (flat_append members (all ++ ms) more ∙ ap (λ r. r ++ flat_map members more) (flat_append members all ms ∙ ap (λ r. flat_map members all ++ r) (sym (append_nil (members t) ∙ members_union t ms is)) ∙ sym (flat_append members all (t ∷ []))) ∙ sym (flat_append members (all ++ t ∷ []) more))

-- ---- what is counted

fresh_kept : (q : Ty → Bool) (ts : List Ty) (t : Ty) → list_any (same_type t) ts ≡ false → (b : Bool) → list_any (same_type t) (filter q ts) ≡ b → b ≡ false
fresh_kept q ts t new true is = sym (any_kept (same_type t) q ts is) ∙ new
fresh_kept q ts t new false is = refl

counted_one : (kept : List Ty) (t : Ty) (nodes more : ℕ) → list_any (same_type t) kept ≡ false → nodes ≤ nodes_that_last kept → (lasts t ≡ true) ⊎ (lasts t ≡ false) → more ≤ nodes + cond (lasts t) (type_size t) 0 → more ≤ nodes_that_last (kept ++ t ∷ [])
counted_one kept t nodes more new before (inl last) here =
    let same : distinct (filter lasts (kept ++ t ∷ [])) ≡ distinct (filter lasts kept) ++ t ∷ [] =
    ap distinct (filter-append lasts kept (t ∷ []) ∙ ap (λ r. filter lasts kept ++ r) (first_in lasts t [] last))
    ∙ once_new (filter lasts kept) t (fresh_kept lasts kept t new (list_any (same_type t) (filter lasts kept)) refl) in
    omega (arith, before, here, ap (λ b. cond b (type_size t) 0) last, ap (sum_by type_size) same, sum_by_push type_size (distinct (filter lasts kept)) t)
counted_one kept t nodes more new before (inr gone) here =
    let same : filter lasts (kept ++ t ∷ []) ≡ filter lasts kept = filter-append lasts kept (t ∷ []) ∙ ap (λ r. filter lasts kept ++ r) (first_out lasts t [] gone) ∙ append_nil (filter lasts kept) in
    omega (arith, before, here, ap (λ b. cond b (type_size t) 0) gone, ap (λ r. sum_by type_size (distinct r)) same)

pub counted_more : (kept : List Ty) (t : Ty) (nodes more : ℕ) → IsCounted kept nodes → members t ≡ t ∷ [] → list_any (same_type t) kept ≡ false → more ≤ nodes + cond (lasts t) (type_size t) 0 → IsCounted (kept ++ t ∷ []) more
counted_more kept t nodes more before single new here = record {
  flat = flat_push kept t before.flat single;
  once = once_new kept t new ∙ ap (λ r. r ++ t ∷ []) before.once;
  counted = counted_one kept t nodes more new before.counted (cases (lasts t)) here;
}

pub counted_by : (b : Bool) (nodes size more : ℕ) → more ≤ nodes + cond b (min size (2 ^ 64 - 1)) 0 → more ≤ nodes + cond b size 0
counted_by true nodes size more e = omega (arith, e)
counted_by false nodes size more e = e
