-- What stands at a place of a list.
use Rattle.std.proofs.Common.{◌≡◌, refl, ap, subst, ℕ, zero, suc, ◌+◌, ◌<◌, List, [], ◌∷◌, ◌++◌, length, map, slice_get, slice_set, Some, None, option_map, arith}
use Rattle.std.proofs.lemmas.List.{length-append, append_assoc}

abbrev pub HasAt : {A : Type 0} → List A → ℕ → List A → Type 0
HasAt xs at [] = Unit {0}
HasAt xs at (i ∷ is) = (slice_get xs at ≡ Some i) × HasAt xs (at + 1) is

pub has_front : {A : Type 0} (xs : List A) (at : ℕ) (a b : List A) → HasAt xs at (a ++ b) → HasAt xs at a
has_front xs at [] b h = tt
has_front xs at (i ∷ a) b h = (h.0, has_front xs (at + 1) a b h.1)

pub has_next : {A : Type 0} (xs : List A) (at to : ℕ) (a b : List A) → at + length a ≡ to → HasAt xs at (a ++ b) → HasAt xs to b
has_next xs at to [] b e h = let here : at ≡ to = Prim.omega (arith, e) in subst (λ z. HasAt xs z b) here h
has_next xs at to (i ∷ a) b e h = has_next xs (at + 1) to a b (Prim.omega (arith, e)) h.1

get_skip : {A : Type 0} (pre : List A) (x : A) (is : List A) → slice_get (pre ++ x ∷ is) (length pre) ≡ Some x
get_skip [] x is = refl
get_skip (y ∷ pre) x is = get_skip pre x is

pub has_all : {A : Type 0} (is pre : List A) → HasAt (pre ++ is) (length pre) is
has_all [] pre = tt
has_all (x ∷ is) pre =
    let one : List _ = x ∷ [] in
    let grown : length (pre ++ x ∷ []) ≡ length pre + 1 = length-append pre (x ∷ []) in
    (get_skip pre x is, subst (λ n. HasAt (pre ++ x ∷ is) n is) grown (subst (λ l. HasAt l (length (pre ++ x ∷ [])) is) (append_assoc pre (x ∷ []) is) (has_all is (pre ++ x ∷ []))))

-- ---- one element written

pub get_set : {A : Type 0} (xs : List A) (i : ℕ) (v : A) → i < length xs → slice_get (slice_set xs i v) i ≡ Some v
get_set [] i v h = absurd (Prim.omega (arith, h))
get_set (x ∷ xs) zero v h = refl
get_set (x ∷ xs) (suc i) v h = get_set xs i v (Prim.omega (arith, h))

pub get_set_before : {A : Type 0} (xs : List A) (i j : ℕ) (v : A) → j < i → slice_get (slice_set xs i v) j ≡ slice_get xs j
get_set_before [] i j v h = refl
get_set_before (x ∷ xs) zero j v h = absurd (Prim.omega (arith, h))
get_set_before (x ∷ xs) (suc i) zero v h = refl
get_set_before (x ∷ xs) (suc i) (suc j) v h = get_set_before xs i j v (Prim.omega (arith, h))

pub get_set_behind : {A : Type 0} (xs : List A) (i j : ℕ) (v : A) → i < j → slice_get (slice_set xs i v) j ≡ slice_get xs j
get_set_behind [] i j v h = refl
get_set_behind (x ∷ xs) i zero v h = absurd (Prim.omega (arith, h))
get_set_behind (x ∷ xs) zero (suc j) v h = refl
get_set_behind (x ∷ xs) (suc i) (suc j) v h = get_set_behind xs i j v (Prim.omega (arith, h))

pub length_set : {A : Type 0} (xs : List A) (i : ℕ) (v : A) → length (slice_set xs i v) ≡ length xs
length_set [] i v = refl
length_set (x ∷ xs) zero v = refl
length_set (x ∷ xs) (suc i) v = ap suc (length_set xs i v)

pub get_map : {A B : Type 0} (f : A → B) (xs : List A) (i : ℕ) (x : A) → slice_get xs i ≡ Some x → slice_get (map f xs) i ≡ Some (f x)
get_map f [] i x h = absurd (let g : None ≡ Some x = h in Prim.cc)
get_map f (y ∷ xs) zero x h = ap (option_map f) h
get_map f (y ∷ xs) (suc i) x h = get_map f xs i x h
