-- The places of a tuple: past the list each is the union of the tail and `nil`, and tuples are compared place by place.
use Rattle.std.proofs.Common.{◌≡◌, ℕ, zero, suc, ◌<◌, ◌≤◌, true, List, [], ◌∷◌, refl, sym, subst, get_or, length, max, inl, inr, arith}
use Rattle.std.specs.Prelude.{slice_get, None}
use Rattle.std.proofs.lemmas.Bool.{and_parts, and_from, cases_lt}
use Rattle.tl_types.specs.declared.types.Ty.{Ty}
use Rattle.tl_types.specs.declared.types.TupleOf.{TupleOf}
use Rattle.tl_types.specs.Unions.{or_nil, tuple_place}
use Rattle.tl_types.specs.Below.{Test, places_below, tuple_below}

past : {X : Type 0} (xs : List X) (i : ℕ) (d : X) → slice_get xs i ≡ None → get_or xs i d ≡ d
past [] i d e = refl
past (x ∷ xs) zero d e = cc
past (x ∷ xs) (suc i) d e = past xs i d e

pub place_past : (p : TupleOf Ty) (i : ℕ) → slice_get p.items i ≡ None → tuple_place p i ≡ or_nil p.tail
place_past p i e = past p.items i (or_nil p.tail) e

none_past : {X : Type 0} (xs : List X) (i : ℕ) → length xs ≤ i → slice_get xs i ≡ None
none_past [] i e = refl
none_past (x ∷ xs) zero e = absurd (omega (arith, e))
none_past (x ∷ xs) (suc i) e = none_past xs i (omega (arith, e))

pub place_beyond : (p : TupleOf Ty) (i : ℕ) → length p.items ≤ i → tuple_place p i ≡ or_nil p.tail
place_beyond p i e = place_past p i (none_past p.items i e)

module _ (R : Test) (p q : TupleOf Ty) where
  place_from : (n : ℕ) → places_below R p q n ≡ true → (i : ℕ) → i < n → R (tuple_place p i) (tuple_place q i) ≡ true
  place_from zero e i within = absurd (omega (arith, within))
  place_from (suc n) e i within =
      let both = and_parts (places_below R p q n) (R (tuple_place p n) (tuple_place q n)) e in
      elim (cases_lt i n) as (λ c. R (tuple_place p i) (tuple_place q i) ≡ true) [
        | inl before ↦ place_from n both.0 i before
        | inr here ↦ let same : n ≡ i = omega (arith, here, within) in subst (λ m. R (tuple_place p m) (tuple_place q m) ≡ true) same both.1
      ]

  places_from : (n : ℕ) → ((i : ℕ) → R (tuple_place p i) (tuple_place q i) ≡ true) → places_below R p q n ≡ true
  places_from zero each = refl
  places_from (suc n) each = and_from (places_below R p q n) (R (tuple_place p n) (tuple_place q n)) (places_from n each) (each n)

  -- each place of the one is below that of the other
  pub place_of_tuple : tuple_below R p q ≡ true → (i : ℕ) → R (tuple_place p i) (tuple_place q i) ≡ true
  place_of_tuple e i =
      let most = max (length p.items) (length q.items) in
      let both = and_parts (places_below R p q most) (R (or_nil p.tail) (or_nil q.tail)) e in
      elim (cases_lt i most) as (λ c. R (tuple_place p i) (tuple_place q i) ≡ true) [
        | inl within ↦ place_from most both.0 i within
        | inr beyond ↦ subst (λ t. R t (tuple_place q i) ≡ true) (sym (place_beyond p i (omega (arith, beyond)))) (subst (λ u. R (or_nil p.tail) u ≡ true) (sym (place_beyond q i (omega (arith, beyond)))) both.1)
      ]

  pub tuple_of_places : ((i : ℕ) → R (tuple_place p i) (tuple_place q i) ≡ true) → tuple_below R p q ≡ true
  tuple_of_places each =
      let most = max (length p.items) (length q.items) in
      let past_p : tuple_place p most ≡ or_nil p.tail = place_beyond p most (omega arith) in
      let past_q : tuple_place q most ≡ or_nil q.tail = place_beyond q most (omega arith) in
      and_from (places_below R p q most) (R (or_nil p.tail) (or_nil q.tail)) (places_from most each) (subst (λ t. R t (or_nil q.tail) ≡ true) past_p (subst (λ u. R (tuple_place p most) u ≡ true) past_q (each most)))
