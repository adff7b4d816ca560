-- The last of the locals that are declared and not visible yet.
use Rattle.std.proofs.Common.{◌≡◌, ℕ, ◌-◌, ◌≤◌, List, ◌++◌, map, reverse, take, drop, length, length-drop, ap, sym, ◌∙◌, arith, ⊎_elim}
use Rattle.std.proofs.lemmas.List.{length-reverse, take_all, take-append-drop, reverse-append, drop_all}
use Rattle.std.proofs.Math.Seq.{take-append_seam, drop-append_seam}
use Rattle.std.proofs.lemmas.Bool.{cases_lt}
use Rattle.std.specs.List.{take-map, drop-map}
use Rattle.lua_scope.specs.declared.visible.Binding as code_binding
use Rattle.lua_scope.specs.Shown.{binding_of}

module _ {A : Type 0} where
  parts : (m : ℕ) (xs : List A) → reverse xs ≡ reverse (drop m xs) ++ reverse (take m xs)
  parts m xs = ap reverse (sym (take-append-drop m xs)) ∙ reverse-append (take m xs) (drop m xs)

  taken : (n : ℕ) (xs ys : List A) → length xs ≡ n → take n (xs ++ ys) ≡ xs
  taken n xs ys e = ap (λ k. take k (xs ++ ys)) (sym e) ∙ take-append_seam xs ys

  dropped : (n : ℕ) (xs ys : List A) → length xs ≡ n → drop n (xs ++ ys) ≡ ys
  dropped n xs ys e = ap (λ k. drop k (xs ++ ys)) (sym e) ∙ drop-append_seam xs ys

  pub last_taken : (n m : ℕ) (xs : List A) → m ≡ length xs - n → take n (reverse xs) ≡ reverse (drop m xs)
  last_taken n m xs e = ⊎_elim
      (λ more.
      let zero : m ≡ 0 = omega arith in
      let short : length (reverse xs) ≤ n = omega (arith, length-reverse xs) in
      take_all n (reverse xs) short ∙ sym (ap (λ k. reverse (drop k xs)) zero))
      (λ fewer. let long : length (reverse (drop m xs)) ≡ n = length-reverse (drop m xs) ∙ length-drop m xs ∙ omega arith in ap (take n) (parts m xs) ∙ taken n (reverse (drop m xs)) (reverse (take m xs)) long)
      (cases_lt (length xs) n)

  pub last_dropped : (n m : ℕ) (xs : List A) → m ≡ length xs - n → drop n (reverse xs) ≡ reverse (take m xs)
  last_dropped n m xs e = ⊎_elim
      (λ more.
      let zero : m ≡ 0 = omega arith in
      let short : length (reverse xs) ≤ n = omega (arith, length-reverse xs) in
      drop_all n (reverse xs) short ∙ sym (ap (λ k. reverse (take k xs)) zero))
      (λ fewer. let long : length (reverse (drop m xs)) ≡ n = length-reverse (drop m xs) ∙ length-drop m xs ∙ omega arith in ap (drop n) (parts m xs) ∙ dropped n (reverse (drop m xs)) (reverse (take m xs)) long)
      (cases_lt (length xs) n)

pub shown_last : (n m : ℕ) (xs zs : List code_binding.Binding) → zs ≡ xs → m ≡ length xs - n → map binding_of (reverse (take (length zs - m) (drop m zs))) ≡ take n (map binding_of (reverse xs))
shown_last n m xs zs e h =
    let whole : length (drop m xs) ≤ length xs - m = omega (arith, length-drop m xs) in
    ap (λ ys. map binding_of (reverse (take (length ys - m) (drop m ys)))) e
    ∙ ap (λ ys. map binding_of (reverse ys)) (take_all (length xs - m) (drop m xs) whole)
    ∙ ap (map binding_of) (sym (last_taken n m xs h))
    ∙ sym (take-map binding_of n (reverse xs))

pub kept_first : (n m : ℕ) (xs ys : List code_binding.Binding) → ys ≡ take m xs → m ≡ length xs - n → map binding_of (reverse ys) ≡ drop n (map binding_of (reverse xs))
kept_first n m xs ys e h =
    ap (λ zs. map binding_of (reverse zs)) e
    ∙ ap (map binding_of) (sym (last_dropped n m xs h))
    ∙ sym (drop-map binding_of n (reverse xs))
