-- The functions around a place, as the code keeps them and goes over them.
use Rattle.std.proofs.Common.{◌≡◌, ℕ, Bool, ◌<◌, ◌+◌, List, [], ◌∷◌, ◌++◌, Option, Some, None, length, map, reverse, drop, take, get_or, refl, ap, ◌∙◌, sym, cond, false, ◌==◌, ne_eqb}
use Rattle.std.specs.Prelude.{nat_lt, filter, option_and_then}
use Rattle.std.proofs.lemmas.List.{take_more, map-append, take-append-drop, reverse-reverse}
use Rattle.std.proofs.lemmas.List.Elements.{filter-append}
use Rattle.indexmap.proofs.ReorderLemmas.{map-reverse}
use Rattle.lua_scope.specs.declared.scopes.Standing.{Standing}
use Rattle.lua_scope.specs.declared.scopes.Outer.{Outer}
use Rattle.lua_scope.specs.Around.{place_at, first, unwound}
use Rattle.lua_tree.specs.Scopes.Places.{Local, Binding, Capture}
use Rattle.lua_tree.specs.Scopes.Binding.{captured_by, captured, functions, crossed}

pub functions_unwound : (bs : List Binding) (os : List Outer) → map (λ p. p.function) (unwound bs os) ≡ map (λ o. o.standing.function) os
functions_unwound bs [] = refl
functions_unwound bs (o ∷ os) = ap (λ fs. o.standing.function ∷ fs) (functions_unwound (first o.visible bs) os)

after_one : (n : ℕ) (fs gs : List ℕ) (o : Option (List Capture)) → ((cs : List Capture) → captured_by n (fs ++ gs) cs ≡ option_and_then (captured_by n gs) (captured_by n fs cs))
    → option_and_then (captured_by n (fs ++ gs)) o ≡ option_and_then (captured_by n gs) (option_and_then (captured_by n fs) o)
after_one n fs gs None next = refl
after_one n fs gs (Some cs) next = next cs

pub captured_by-append : (n : ℕ) (fs gs : List ℕ) (cs : List Capture) → captured_by n (fs ++ gs) cs ≡ option_and_then (captured_by n gs) (captured_by n fs cs)
captured_by-append n [] gs cs = refl
captured_by-append n (f ∷ fs) gs cs = after_one n fs gs (captured (f, n) cs) (λ ds. captured_by-append n fs gs ds)

-- the functions before, and then one more
pub crossed_more : (n : ℕ) (p : ℕ → Bool) (fs gs : List ℕ) (cs ds : List Capture) (r : Option (List Capture))
    → captured_by n (filter p fs) cs ≡ Some ds → captured_by n (filter p gs) ds ≡ r → captured_by n (filter p (fs ++ gs)) cs ≡ r
crossed_more n p fs gs cs ds r before one =
    ap (λ hs. captured_by n hs cs) (filter-append p fs gs)
    ∙ captured_by-append n (filter p fs) (filter p gs) cs
    ∙ ap (option_and_then (captured_by n (filter p gs))) before
    ∙ one

pub crossed_none : (n : ℕ) (p : ℕ → Bool) (fs gs : List ℕ) (cs : List Capture) → captured_by n (filter p fs) cs ≡ None → captured_by n (filter p (fs ++ gs)) cs ≡ None
crossed_none n p fs gs cs before =
    ap (λ hs. captured_by n hs cs) (filter-append p fs gs)
    ∙ captured_by-append n (filter p fs) (filter p gs) cs
    ∙ ap (option_and_then (captured_by n (filter p gs))) before

abbrev functions_in : List Outer → List ℕ
functions_in os = map (λ o. o.standing.function) os

-- a turn of the walk over the blocks around
pub turn : (n : ℕ) (p : ℕ → Bool) (xs : List Outer) (i : ℕ) (d : Outer) (cs ds : List Capture) (r : Option (List Capture)) → i < length xs
    → captured_by n (filter p (map (λ o. o.standing.function) (take i xs))) cs ≡ Some ds
    → captured_by n (filter p ((get_or xs i d).standing.function ∷ [])) ds ≡ r
    → captured_by n (filter p (map (λ o. o.standing.function) (take (i + 1) xs))) cs ≡ r
turn n p xs i d cs ds r h before one =
    ap (λ ys. captured_by n (filter p (functions_in ys)) cs) (take_more xs i d h)
    ∙ ap (λ fs. captured_by n (filter p fs) cs) (map-append (λ o. o.standing.function) (take i xs) (get_or xs i d ∷ []))
    ∙ crossed_more n p (functions_in (take i xs)) (functions_in (get_or xs i d ∷ [])) cs ds r before one

pub stopped : (n : ℕ) (p : ℕ → Bool) (xs : List Outer) (i : ℕ) (cs : List Capture)
    → captured_by n (filter p (map (λ o. o.standing.function) (take i xs))) cs ≡ None → captured_by n (filter p (map (λ o. o.standing.function) xs)) cs ≡ None
stopped n p xs i cs before =
    ap (λ ys. captured_by n (filter p (functions_in ys)) cs) (sym (take-append-drop i xs))
    ∙ ap (λ fs. captured_by n (filter p fs) cs) (map-append (λ o. o.standing.function) (take i xs) (drop i xs))
    ∙ crossed_none n p (functions_in (take i xs)) (functions_in (drop i xs)) cs before

pub functions_seen : (visible : List Binding) (here : Standing) (os : List Outer) → functions (place_at visible here) (unwound visible (reverse os)) ≡ map (λ o. o.standing.function) os ++ here.function ∷ []
functions_seen visible here os =
    ap (λ fs. fs ++ here.function ∷ [])
    (map-reverse (λ p. p.function) (unwound visible (reverse os))
    ∙ ap reverse (functions_unwound visible (reverse os))
    ∙ sym (map-reverse (λ o. o.standing.function) (reverse os))
    ∙ ap functions_in (reverse-reverse os))

not_own : (b : Bool) (fs gs : List ℕ) → b ≡ false → cond b fs gs ≡ gs
not_own b fs gs e = rw e

pub crossed_seen : (l : Local) (visible : List Binding) (here : Standing) (os : List Outer) → (l.function ≡ here.function → ⊥)
    → crossed l (place_at visible here) (unwound visible (reverse os)) ≡ filter (λ f. nat_lt l.function f) (map (λ o. o.standing.function) os ++ here.function ∷ [])
crossed_seen l visible here os other =
    not_own (l.function == here.function) [] (filter (λ f. nat_lt l.function f) (functions (place_at visible here) (unwound visible (reverse os)))) (ne_eqb l.function here.function other)
    ∙ ap (filter (λ f. nat_lt l.function f)) (functions_seen visible here os)

-- a use is captured by all that it crosses
pub all_crossed : (l : Local) (visible : List Binding) (here : Standing) (os : List Outer) (cs ds : List Capture) (r : Option (List Capture)) → (l.function ≡ here.function → ⊥)
    → captured_by l.number (filter (λ f. nat_lt l.function f) (map (λ o. o.standing.function) os)) cs ≡ Some ds → captured_by l.number (filter (λ f. nat_lt l.function f) (here.function ∷ [])) ds ≡ r
    → captured_by l.number (crossed l (place_at visible here) (unwound visible (reverse os))) cs ≡ r
all_crossed l visible here os cs ds r other before last =
    ap (λ fs. captured_by l.number fs cs) (crossed_seen l visible here os other)
    ∙ crossed_more l.number (λ f. nat_lt l.function f) (functions_in os) (here.function ∷ []) cs ds r before last

pub none_crossed : (l : Local) (visible : List Binding) (here : Standing) (os : List Outer) (cs : List Capture) → (l.function ≡ here.function → ⊥)
    → captured_by l.number (filter (λ f. nat_lt l.function f) (map (λ o. o.standing.function) os)) cs ≡ None
    → captured_by l.number (crossed l (place_at visible here) (unwound visible (reverse os))) cs ≡ None
none_crossed l visible here os cs other before =
    ap (λ fs. captured_by l.number fs cs) (crossed_seen l visible here os other)
    ∙ crossed_none l.number (λ f. nat_lt l.function f) (functions_in os) (here.function ∷ []) cs before
