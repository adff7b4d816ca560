-- All of a list of what may be absent.
use Rattle.std.proofs.Common.{◌≡◌, ℕ, zero, suc, ◌+◌, ◌<◌, List, [], ◌∷◌, ◌++◌, map, length, get_or, take, refl, ap, ◌∙◌, sym, arith}
use Rattle.std.specs.Prelude.{Option, Some, None}
use Rattle.std.proofs.lemmas.List.{take_more, map-append}
use Rattle.type_reader.specs.Types.{both, every}

abbrev push : {B : Type 0} → B → List B → List B
push y ys = y ∷ ys

abbrev join : {B : Type 0} → List B → List B → List B
join xs ys = xs ++ ys

both_join : {B : Type 0} (x : Option B) (o p : Option (List B)) → both push x (both join o p) ≡ both join (both push x o) p
both_join None o p = refl
both_join (Some y) None p = refl
both_join (Some y) (Some a) None = refl
both_join (Some y) (Some a) (Some b) = refl

none_first : {B : Type 0} (o : Option (List B)) → o ≡ both join (Some []) o
none_first None = refl
none_first (Some a) = refl

pub every-append : {B : Type 0} (xs ys : List (Option B)) → every (xs ++ ys) ≡ both join (every xs) (every ys)
every-append [] ys = none_first (every ys)
every-append (x ∷ xs) ys = ap (both push x) (every-append xs ys) ∙ both_join x (every xs) (every ys)

both_none : {B : Type 0} (x : Option B) → both push x None ≡ None
both_none None = refl
both_none (Some y) = refl

module _ {A B : Type 0} (f : A → Option B) where
  pub every_more : (xs : List A) (i : ℕ) (d : A) (ys : List B) (y : B) → i < length xs → every (map f (take i xs)) ≡ Some ys → f (get_or xs i d) ≡ Some y
      → every (map f (take (i + 1) xs)) ≡ Some (ys ++ y ∷ [])
  every_more xs i d ys y within before here =
      ap (λ zs. every (map f zs)) (take_more xs i d within)
      ∙ ap every (map-append f (take i xs) (get_or xs i d ∷ []))
      ∙ every-append (map f (take i xs)) (f (get_or xs i d) ∷ [])
      ∙ ap (λ o. both join o (every (f (get_or xs i d) ∷ []))) before
      ∙ ap (λ o. both join (Some ys) (every (o ∷ []))) here

  pub every_stop : (xs : List A) (i : ℕ) (d : A) → i < length xs → f (get_or xs i d) ≡ None → every (map f xs) ≡ None
  every_stop [] i d within here = absurd (omega arith)
  every_stop (x ∷ xs) zero d within here = ap (λ o. both push o (every (map f xs))) here
  every_stop (x ∷ xs) (suc i) d within here =
      let lt : i < length xs = omega arith in
      ap (both push (f x)) (every_stop xs i d lt here) ∙ both_none (f x)

pub map_twice : {A B C : Type 0} (h : B → C) (g : A → B) (xs : List A) → map h (map g xs) ≡ map (λ x. h (g x)) xs
map_twice h g [] = refl
map_twice h g (x ∷ xs) = ap (λ r. h (g x) ∷ r) (map_twice h g xs)

-- the same of two functions, one after the other
module _ {A B C : Type 0} (h : C → Option B) (g : A → C) where
  pub every_more_of : (xs : List A) (i : ℕ) (d : A) (ys : List B) (y : B) → i < length xs → every (map h (map g (take i xs))) ≡ Some ys → h (g (get_or xs i d)) ≡ Some y
      → every (map h (map g (take (i + 1) xs))) ≡ Some (ys ++ y ∷ [])
  every_more_of xs i d ys y within before here =
      ap every (map_twice h g (take (i + 1) xs)) ∙ every_more (λ x. h (g x)) xs i d ys y within (sym (ap every (map_twice h g (take i xs))) ∙ before) here

  pub every_stop_of : (xs : List A) (i : ℕ) (d : A) → i < length xs → h (g (get_or xs i d)) ≡ None → every (map h (map g xs)) ≡ None
  every_stop_of xs i d within here = ap every (map_twice h g xs) ∙ every_stop (λ x. h (g x)) xs i d within here
