-- Tests that follow from one another, also over lists.
use Rattle.std.proofs.Common.{◌≡◌, Bool, true, false, ◌&&◌, ◌||◌, List, [], ◌∷◌, ◌++◌, refl, ap, ◌∙◌, ◌⊎◌, inl, inr}
use Rattle.std.specs.Prelude.{flat_map}
use Rattle.std.specs.List.{list_any, list_all}
use Rattle.std.proofs.lemmas.Bool.{and_parts, and_from, false≢true, or_cases}
use Rattle.std.proofs.lemmas.List.Folds.{list_all-append, list_any-append}

pub and_implies : (a b c d : Bool) → (a ≡ true → c ≡ true) → (b ≡ true → d ≡ true) → (a && b) ≡ true → (c && d) ≡ true
and_implies a b c d first second e = let both = and_parts a b e in and_from c d (first both.0) (second both.1)

pub or_left : (a b : Bool) → a ≡ true → (a || b) ≡ true
or_left true b e = refl
or_left false b e = absurd (false≢true e)

pub or_right : (a b : Bool) → b ≡ true → (a || b) ≡ true
or_right true b e = refl
or_right false b e = e

pub or_implies : (a b c d : Bool) → (a ≡ true → c ≡ true) → (b ≡ true → d ≡ true) → (a || b) ≡ true → (c || d) ≡ true
or_implies true b c d first second e = or_left c d (first refl)
or_implies false b c d first second e = or_right c d (second e)

module _ {X : Type 0} where
  pub all_implies : (p q : X → Bool) → ((x : X) → p x ≡ true → q x ≡ true) → (xs : List X) → list_all p xs ≡ true → list_all q xs ≡ true
  all_implies p q step [] e = refl
  all_implies p q step (x ∷ xs) e = and_implies (p x) (list_all p xs) (q x) (list_all q xs) (step x) (all_implies p q step xs) e

  pub any_implies : (p q : X → Bool) → ((x : X) → p x ≡ true → q x ≡ true) → (xs : List X) → list_any p xs ≡ true → list_any q xs ≡ true
  any_implies p q step [] e = absurd (false≢true e)
  any_implies p q step (x ∷ xs) e = or_implies (p x) (list_any p xs) (q x) (list_any q xs) (step x) (any_implies p q step xs) e

  any_of_all_one : (p q r : X → Bool) → ((x : X) → p x ≡ true → q x ≡ true → r x ≡ true) → (x : X) (xs : List X) → (list_any p xs ≡ true → list_all q xs ≡ true → list_any r xs ≡ true) → (p x ≡ true) ⊎ (list_any p xs ≡ true) → q x ≡ true → list_all q xs ≡ true → list_any r (x ∷ xs) ≡ true
  any_of_all_one p q r step x xs rest (inl here) first others = or_left (r x) (list_any r xs) (step x here first)
  any_of_all_one p q r step x xs rest (inr there) first others = or_right (r x) (list_any r xs) (rest there others)

  -- where one passes the first and each passes the second, one passes what follows from both
  pub any_of_all : (p q r : X → Bool) → ((x : X) → p x ≡ true → q x ≡ true → r x ≡ true) → (xs : List X) → list_any p xs ≡ true → list_all q xs ≡ true → list_any r xs ≡ true
  any_of_all p q r step [] e all = absurd (false≢true e)
  any_of_all p q r step (x ∷ xs) e all = any_of_all_one p q r step x xs (any_of_all p q r step xs) (or_cases (p x) (list_any p xs) e) (and_parts (q x) (list_all q xs) all).0 (and_parts (q x) (list_all q xs) all).1

  pub all_flat : {Y : Type 0} (p : X → Bool) (f : Y → List X) (ys : List Y) → list_all p (flat_map f ys) ≡ list_all (λ y. list_all p (f y)) ys
  all_flat p f [] = refl
  all_flat p f (y ∷ ys) = list_all-append p (f y) (flat_map f ys) ∙ ap (λ b. list_all p (f y) && b) (all_flat p f ys)

  pub any_flat : {Y : Type 0} (p : X → Bool) (f : Y → List X) (ys : List Y) → list_any p (flat_map f ys) ≡ list_any (λ y. list_any p (f y)) ys
  any_flat p f [] = refl
  any_flat p f (y ∷ ys) = list_any-append p (f y) (flat_map f ys) ∙ ap (λ b. list_any p (f y) || b) (any_flat p f ys)

  any_moved : (p : X → Bool) (x : X) (ys xs : List X) → list_any p ((ys ++ x ∷ []) ++ xs) ≡ true → list_any p (ys ++ x ∷ xs) ≡ true
  any_moved p x [] xs e = e
  any_moved p x (y ∷ ys) xs e = or_implies (p y) (list_any p ((ys ++ x ∷ []) ++ xs)) (p y) (list_any p (ys ++ x ∷ xs)) (λ e. e) (any_moved p x ys xs) e

  all_within_from : (good : X → Bool) (test : X → X → Bool) → ((x : X) → good x ≡ true → test x x ≡ true) → (ys xs : List X) → list_all good xs ≡ true → list_all (λ x. list_any (test x) (ys ++ xs)) xs ≡ true
  all_within_from good test self ys [] e = refl
  all_within_from good test self ys (x ∷ xs) e =
      let both = and_parts (good x) (list_all good xs) e in
      and_from (list_any (test x) (ys ++ x ∷ xs)) (list_all (λ z. list_any (test z) (ys ++ x ∷ xs)) xs)
      (list_any-append (test x) ys (x ∷ xs) ∙ or_right (list_any (test x) ys) (test x x || list_any (test x) xs) (or_left (test x x) (list_any (test x) xs) (self x both.0)))
      (all_implies (λ z. list_any (test z) ((ys ++ x ∷ []) ++ xs)) (λ z. list_any (test z) (ys ++ x ∷ xs)) (λ z. any_moved (test z) x ys xs) xs (all_within_from good test self (ys ++ x ∷ []) xs both.1))

  -- each element stands in the list
  pub all_within : (good : X → Bool) (test : X → X → Bool) → ((x : X) → good x ≡ true → test x x ≡ true) → (xs : List X) → list_all good xs ≡ true → list_all (λ x. list_any (test x) xs) xs ≡ true
  all_within good test self xs e = all_within_from good test self [] xs e
