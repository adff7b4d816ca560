-- Tests over a list, by what it contains.
use Rattle.std.proofs.Common.{◌≡◌, ℕ, zero, suc, ◌<◌, Bool, true, ◌||◌, List, [], ◌∷◌, refl, sym, ap, ◌∙◌, length, get_or, inl, inr, arith}
use Rattle.std.specs.Prelude.{Contains}
use Rattle.std.specs.List.{list_any, list_all}
use Rattle.std.proofs.lemmas.Bool.{and_parts, and_from, false≢true, or_cases}
use Rattle.tl_types.proofs.Bools.{or_left, or_right}

module _ {X : Type 0} where
  pub contains_head : (x : X) (xs : List X) → Contains (x ∷ xs) x
  contains_head x xs = (0, omega arith, refl)

  pub contains_tail : (x y : X) (xs : List X) → Contains xs y → Contains (x ∷ xs) y
  contains_tail x y xs c = (suc c.0, omega (arith, c.1), c.2)

  pub contains_cases : (P : Type 0) (x y : X) (xs : List X) → (x ≡ y → P) → (Contains xs y → P) → (k : ℕ) → k < length (x ∷ xs) → get_or (x ∷ xs) k y ≡ y → P
  contains_cases P x y xs here there zero within e = here e
  contains_cases P x y xs here there (suc k) within e = there (k, omega (arith, within), e)

  pub all_contains : (p : X → Bool) (xs : List X) (x : X) → list_all p xs ≡ true → Contains xs x → p x ≡ true
  all_contains p [] x e c = absurd (omega (arith, c.1))
  all_contains p (y ∷ ys) x e c =
      let both = and_parts (p y) (list_all p ys) e in
      contains_cases (p x ≡ true) y x ys (λ same. ap p (sym same) ∙ both.0) (λ rest. all_contains p ys x both.1 rest) c.0 c.1 c.2

  pub all_from_contains : (p : X → Bool) (xs : List X) → ((x : X) → Contains xs x → p x ≡ true) → list_all p xs ≡ true
  all_from_contains p [] each = refl
  all_from_contains p (x ∷ xs) each = and_from (p x) (list_all p xs) (each x (contains_head x xs)) (all_from_contains p xs (λ y c. each y (contains_tail x y xs c)))

  pub any_contains : (p : X → Bool) (xs : List X) → list_any p xs ≡ true → (x : X) × Contains xs x × (p x ≡ true)
  any_contains p [] e = absurd (false≢true e)
  any_contains p (x ∷ xs) e = elim (or_cases (p x) (list_any p xs) e) as (λ c. (z : X) × Contains (x ∷ xs) z × (p z ≡ true)) [
    | inl here ↦ (x, contains_head x xs, here)
    | inr there ↦ let found = any_contains p xs there in (found.0, contains_tail x found.0 xs found.1, found.2)
  ]

  pub any_from_contains : (p : X → Bool) (xs : List X) (x : X) → Contains xs x → p x ≡ true → list_any p xs ≡ true
  any_from_contains p [] x c e = absurd (omega (arith, c.1))
  any_from_contains p (y ∷ ys) x c e = contains_cases (list_any p (y ∷ ys) ≡ true) y x ys (λ same. or_left (p y) (list_any p ys) (ap p same ∙ e)) (λ rest. or_right (p y) (list_any p ys) (any_from_contains p ys x rest e)) c.0 c.1 c.2

  pub any_same : (p q : X → Bool) → ((x : X) → p x ≡ q x) → (xs : List X) → list_any p xs ≡ list_any q xs
  any_same p q same [] = refl
  any_same p q same (x ∷ xs) = ap (λ b. b || list_any p xs) (same x) ∙ ap (λ b. q x || b) (any_same p q same xs)
