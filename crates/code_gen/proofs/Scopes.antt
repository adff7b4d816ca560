-- Steps of the loops over the locals in scope.
use Rattle.std.proofs.Common.{◌≡◌, refl, sym, ap, ◌∙◌, ℕ, zero, suc, ◌+◌, ◌-◌, ◌<◌, List, [], ◌∷◌, ◌++◌, length, map, reverse, take, drop, length-drop, append_assoc, arith}
use Rattle.std.proofs.lemmas.List.{length-reverse, take-append-drop, reverse-append}
use Rattle.std.proofs.Math.Seq.{drop-append_seam}
use Rattle.lua_code.specs.declared.code.Capture.{Capture}
use Rattle.lua_code.specs.declared.code.Capture.TheVariants as capture
use Rattle.lua_code.specs.Generated.{outer_from, in_slots}

outer_cons : (k i : ℕ) (xs : List ℕ) → i < length xs → outer_from k (drop i xs) ≡ capture.Outer k ∷ outer_from (k + 1) (drop (i + 1) xs)
outer_cons k i [] h = absurd (omega (arith, h))
outer_cons k zero (x ∷ xs) h = refl
outer_cons k (suc i) (x ∷ xs) h = let e : suc i + 1 ≡ suc (i + 1) = omega arith in rw e (outer_cons k i xs (omega (arith, h)))

pub outer_step : (cs new : List Capture) (i : ℕ) (xs : List ℕ) → i < length xs → new ≡ cs ++ capture.Outer i ∷ [] → new ++ outer_from (i + 1) (drop (i + 1) xs) ≡ cs ++ outer_from i (drop i xs)
outer_step cs new i xs h e =
    ap (λ l. l ++ outer_from (i + 1) (drop (i + 1) xs)) e
    ∙ append_assoc cs (capture.Outer i ∷ []) (outer_from (i + 1) (drop (i + 1) xs))
    ∙ ap (λ l. cs ++ l) (sym (outer_cons i i xs h))

module _ {A : Type 0} where
  parts : (m : ℕ) (xs : List A) → reverse xs ≡ reverse (drop m xs) ++ reverse (take m xs)
  parts m xs = ap reverse (sym (take-append-drop m xs)) ∙ reverse-append (take m xs) (drop m xs)

  dropped : (n : ℕ) (xs ys : List A) → length xs ≡ n → drop n (xs ++ ys) ≡ ys
  dropped n xs ys e = ap (λ k. drop k (xs ++ ys)) (sym e) ∙ drop-append_seam xs ys

  -- the first m are the last of the reverse
  pub first_left : (m : ℕ) (xs : List A) → drop (length (reverse xs) - m) (reverse xs) ≡ reverse (take m xs)
  first_left m xs =
      let long : length (reverse (drop m xs)) ≡ length (reverse xs) - m = length-reverse (drop m xs) ∙ length-drop m xs ∙ ap (λ n. n - m) (sym (length-reverse xs)) in
      ap (λ l. drop (length (reverse xs) - m) l) (parts m xs) ∙ dropped (length (reverse xs) - m) (reverse (drop m xs)) (reverse (take m xs)) long

-- one local more
pub entered_step : (n i x s : ℕ) (own new : List (ℕ × ℕ)) → i < n → new ≡ own ++ (x + i, s + i) ∷ []
    → in_slots (n - (i + 1)) (x + (i + 1)) (s + (i + 1)) (reverse new) ≡ in_slots (n - i) (x + i) (s + i) (reverse own)
entered_step n i x s own new h e =
    let back : reverse new ≡ (x + i, s + i) ∷ reverse own = ap reverse e ∙ reverse-append own ((x + i, s + i) ∷ []) in
    let fewer : n - i ≡ suc (n - (i + 1)) = omega (arith, h) in
    let more : x + (i + 1) ≡ x + i + 1 = omega arith in
    let higher : s + (i + 1) ≡ s + i + 1 = omega arith in
    rw (back, fewer, more, higher) refl

pub cells_of_slots : (own : List (ℕ × ℕ)) → map (λ s. capture.Cell s) (map (λ o. o.1) own) ≡ map (λ o. capture.Cell o.1) own
cells_of_slots [] = refl
cells_of_slots (o ∷ own) = ap (λ l. capture.Cell o.1 ∷ l) (cells_of_slots own)
