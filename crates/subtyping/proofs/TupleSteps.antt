-- Tuples are compared place by place.
use Rattle.std.proofs.Common.{◌≡◌, ℕ, zero, suc, ◌+◌, ◌≤◌, Bool, true, false, ◌&&◌, List, sym, ap, ◌∙◌, length, max, inl, inr, arith}
use Rattle.std.specs.Prelude.{Ok}
use Rattle.std.proofs.lemmas.Bool.{and_left, cases_lt}
use Rattle.tl_types.specs.declared.types.Ty.{Ty}
use Rattle.tl_types.specs.declared.types.TupleOf.{TupleOf}
use Rattle.tl_types.specs.Types.{Bodies}
use Rattle.tl_types.specs.Unions.{or_nil, tuple_place}
use Rattle.tl_types.specs.Below.{Test, places_below, tuple_below}
use Rattle.subtyping.specs.declared.pairs.Pair.{Pair}
use Rattle.subtyping.specs.Pairs.{Compared}
use Rattle.subtyping.proofs.Steps.{Answer, retarget, same_claim, and_then}

module _ (p q : TupleOf Ty) where
  places_more : (R : Test) (i : ℕ) → (places_below R p q i && R (tuple_place p i) (tuple_place q i)) ≡ places_below R p q (i + 1)
  places_more R i = let same : suc i ≡ i + 1 = omega arith in ap (places_below R p q) same

  places_less : (R : Test) (k n : ℕ) → k ≤ n → places_below R p q k ≡ false → places_below R p q n ≡ false
  places_less R k zero within e = let none : k ≡ zero = omega (arith, within) in sym (ap (places_below R p q) none) ∙ e
  places_less R k (suc n) within e = elim (cases_lt n k) as (λ c. places_below R p q (suc n) ≡ false) [
    | inl here ↦ let same : k ≡ suc n = omega (arith, here, within) in sym (ap (places_below R p q) same) ∙ e
    | inr before ↦ and_left (places_below R p q n) (R (tuple_place p n) (tuple_place q n)) (places_less R k n before e)
  ]

  module _ (loose : Bool) (bodies : Bodies) where
    pub place_step : (i : ℕ) (s t : Ty) (y : Answer) (a b d : List Pair) → s ≡ tuple_place p i → t ≡ tuple_place q i → Compared loose bodies a b (λ R. places_below R p q i) (Ok true) → Compared loose bodies b d (λ R. R s t) y → Compared loose bodies a d (λ R. places_below R p q (i + 1)) y
    place_step i s t y a b d left right one two =
        same_claim loose bodies (λ R. places_below R p q i && R s t) (λ R. places_below R p q (i + 1)) y a d
        (λ R. ap (λ u. places_below R p q i && R u t) left ∙ (ap (λ u. places_below R p q i && R (tuple_place p i) u) right ∙ places_more R i))
        (and_then loose bodies (λ R. places_below R p q i) (λ R. R s t) y a b d one two)

    pub place_stop : (k : ℕ) (a b : List Pair) → k ≤ max (length p.items) (length q.items) → Compared loose bodies a b (λ R. places_below R p q k) (Ok false) → Compared loose bodies a b (λ R. tuple_below R p q) (Ok false)
    place_stop k a b within one = retarget loose bodies (λ R. places_below R p q k) (λ R. tuple_below R p q) (Ok false) a b one (λ v is R e.
        let no : v ≡ false = cc in
        and_left (places_below R p q (max (length p.items) (length q.items))) (R (or_nil p.tail) (or_nil q.tail)) (places_less R k (max (length p.items) (length q.items)) within (e ∙ no)) ∙ sym no)

    pub place_done : (n : ℕ) (s t : Ty) (y : Answer) (a b d : List Pair) → n ≡ max (length p.items) (length q.items) → s ≡ or_nil p.tail → t ≡ or_nil q.tail → Compared loose bodies a b (λ R. places_below R p q n) (Ok true) → Compared loose bodies b d (λ R. R s t) y → Compared loose bodies a d (λ R. tuple_below R p q) y
    place_done n s t y a b d most left right one two =
        same_claim loose bodies (λ R. places_below R p q n && R s t) (λ R. tuple_below R p q) y a d
        (λ R. ap (λ m. places_below R p q m && R s t) most ∙ (ap (λ u. places_below R p q (max (length p.items) (length q.items)) && R u t) left ∙ ap (λ u. places_below R p q (max (length p.items) (length q.items)) && R (or_nil p.tail) u) right))
        (and_then loose bodies (λ R. places_below R p q n) (λ R. R s t) y a b d one two)
