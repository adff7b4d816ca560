-- The places around, as more locals come into scope.
use Rattle.std.proofs.Common.{◌≡◌, ℕ, suc, ◌-◌, ◌≤◌, List, [], ◌∷◌, drop, length, refl, ap, ◌∙◌, arith}
use Rattle.lua_scope.specs.declared.scopes.Outer.{Outer}
use Rattle.lua_scope.specs.declared.scopes.Standing.{Standing}
use Rattle.lua_scope.specs.Around.{Scopes, place_at, first, unwound, Fits, with_binding}
use Rattle.lua_tree.specs.Scopes.Places.{Binding}

pub fits_more : (n m : ℕ) (os : List Outer) → n ≤ m → Fits n os → Fits m os
fits_more n m [] h f = tt
fits_more n m (o ∷ os) h f = (omega (arith, f.0), f.1)

first_more : (n : ℕ) (b : Binding) (bs : List Binding) → n ≤ length bs → first n (b ∷ bs) ≡ first n bs
first_more n b bs h =
    let e : length (b ∷ bs) - n ≡ suc (length bs - n) = omega arith in
    ap (λ k. drop k (b ∷ bs)) e

pub unwound_more : (b : Binding) (bs : List Binding) (os : List Outer) → Fits (length bs) os → unwound (b ∷ bs) os ≡ unwound bs os
unwound_more b bs [] f = refl
unwound_more b bs (o ∷ os) f = ap (λ v. place_at v o.standing ∷ unwound v os) (first_more o.visible b bs f.0)

abbrev pub seen : List Binding → Standing → List Outer → Scopes
seen visible here around = record { place = place_at visible here; around = unwound visible around }

pub entered : (here : Standing) (b : Binding) (bs cs : List Binding) (os : List Outer) → Fits (length bs) os → cs ≡ b ∷ bs → seen cs here os ≡ with_binding b (seen bs here os)
entered here b bs cs os f e =
    ap (λ v. seen v here os) e
    ∙ ap (λ a. let s : Scopes = record { place = place_at (b ∷ bs) here; around = a } in s) (unwound_more b bs os f)

pub still_fits : (b : Binding) (bs cs : List Binding) (os : List Outer) → Fits (length bs) os → cs ≡ b ∷ bs → Fits (length cs) os
still_fits b bs cs os f e = let longer : length cs ≡ suc (length bs) = ap length e in fits_more (length bs) (length cs) os (omega arith) f
