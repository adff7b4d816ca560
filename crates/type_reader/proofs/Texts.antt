-- Names that are lent, and the lists of what they are.
use Rattle.std.proofs.Common.{◌≡◌, Bool, List, [], ◌∷◌, map, cond, ◌||◌, not, length, refl, ap, ◌∙◌, sym, ◌+◌}
use Rattle.std.specs.Prelude.{Some, None, nat_lt}
use Rattle.std.specs.List.{list_any, position, position_or_len, prefix_len}
use Rattle.std.proofs.lemmas.List.{length-map}

module _ {A B : Type 0} (f : A → B) (p : B → Bool) where
  pub list_any_seen : (xs : List A) → list_any (λ x. p (f x)) xs ≡ list_any p (map f xs)
  list_any_seen [] = refl
  list_any_seen (x ∷ xs) = ap (λ b. p (f x) || b) (list_any_seen xs)

  prefix_seen : (xs : List A) → prefix_len (λ x. not (p (f x))) xs ≡ prefix_len (λ y. not (p y)) (map f xs)
  prefix_seen [] = refl
  prefix_seen (x ∷ xs) = ap (λ n. cond (not (p (f x))) (1 + n) 0) (prefix_seen xs)

  pub position_seen : (xs : List A) → position (λ x. p (f x)) xs ≡ position p (map f xs)
  position_seen xs =
      ap (λ n. cond (nat_lt n (length xs)) (Some n) None) (prefix_seen xs)
      ∙ ap (λ k. cond (nat_lt (position_or_len p (map f xs)) k) (Some (position_or_len p (map f xs))) None) (sym (length-map xs f))
