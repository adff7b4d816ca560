-- Calls of `require` with and without the numbers of their modules.
use Rattle.std.proofs.Common.{◌≡◌, ℕ, zero, suc, ◌+◌, ◌<◌, ◌≤◌, List, [], ◌∷◌, ◌++◌, map, take, drop, set, get_or, length, refl, ap, ◌∙◌, sym, arith, add-one}
use Rattle.std.proofs.lemmas.List.{take_all, take-append-le, length-map}
use Rattle.tl_base.specs.Lending.{overwritten}
use Rattle.lua_tree.specs.declared.scoped.Require.{Require}
use Rattle.lua_tree.specs.Scopes.Resolved.{unbound}
use Rattle.lua_scope.specs.declared.modules.NamedModule.{NamedModule}
use Rattle.lua_scope.specs.Answers.{bound_to}

module _ {A : Type 0} (f : A → A) where
  step : (xs : List A) (i : ℕ) (d : A) → i < length xs
      → set (map f (take i xs) ++ drop i xs) i (f (get_or (map f (take i xs) ++ drop i xs) i d)) ≡ map f (take (suc i) xs) ++ drop (suc i) xs
  step [] i d h = absurd (omega arith)
  step (x ∷ xs) zero d h = refl
  step (x ∷ xs) (suc i) d h = let lt : i < length xs = omega arith in ap (λ ys. f x ∷ ys) (step xs i d lt)

  -- an element more is changed
  pub changed : (xs ys : List A) (i : ℕ) (d v : A) → ys ≡ map f (take i xs) ++ drop i xs → i < length xs → v ≡ f (get_or ys i d) → set ys i v ≡ map f (take (i + 1) xs) ++ drop (i + 1) xs
  changed xs ys i d v e h is =
      ap (set ys i) is
      ∙ ap (λ zs. set zs i (f (get_or zs i d))) e
      ∙ step xs i d h
      ∙ ap (λ k. map f (take k xs) ++ drop k xs) (sym (add-one i))

pub unbound_bound : (names : List NamedModule) (rs : List Require) → map unbound (map (bound_to names) rs) ≡ map unbound rs
unbound_bound names [] = refl
unbound_bound names (r ∷ rs) = ap (λ qs. unbound r ∷ qs) (unbound_bound names rs)

overwritten_all : {A : Type 0} (xs ys : List A) → length ys ≡ length xs → overwritten xs ys ≡ ys
overwritten_all xs ys e =
    let le : length xs ≤ length ys = omega arith in
    let ge : length ys ≤ length xs = omega arith in
    take-append-le (length xs) ys (drop (length ys) xs) le ∙ take_all (length xs) ys ge

pub unbound_written : (names : List NamedModule) (rs qs : List Require) → qs ≡ map (bound_to names) rs → map unbound (overwritten rs qs) ≡ map unbound rs
unbound_written names rs qs e = ap (map unbound) (overwritten_all rs qs (ap length e ∙ length-map rs (bound_to names))) ∙ ap (map unbound) e ∙ unbound_bound names rs
