-- What slots hold, and when it is enough.
use Rattle.std.proofs.Common.{◌≡◌, refl, ap, sym, ◌∙◌, ℕ, zero, suc, ◌<◌, ◌≤◌, List, [], ◌∷◌, ◌++◌, length, replicate, slice_get, slice_set, Option, Some, None, arith}
use Rattle.lua_code.specs.Shapes.{ItemKind, SlotKind, held, celled, either, Shape, IsEnough, IsEnoughIn, AreEnough, Meets}

-- ---- enough

pub same_kind : (k : SlotKind) → IsEnough k k
same_kind held = tt
same_kind celled = tt
same_kind either = tt

any_kind : (k : SlotKind) → IsEnough k either
any_kind held = tt
any_kind celled = tt
any_kind either = tt

kind_on : (k m w : SlotKind) → IsEnough k m → IsEnough m w → IsEnough k w
kind_on k m either h g = any_kind k
kind_on held held held h g = tt
kind_on celled held held h g = absurd h
kind_on either held held h g = absurd h
kind_on k celled held h g = absurd g
kind_on k either held h g = absurd g
kind_on held celled celled h g = absurd h
kind_on celled celled celled h g = tt
kind_on either celled celled h g = absurd h
kind_on k held celled h g = absurd g
kind_on k either celled h g = absurd g

pub enough_same : (ks : List SlotKind) → AreEnough ks ks
enough_same [] = tt
enough_same (k ∷ ks) = (same_kind k, enough_same ks)

pub enough_on : (a b c : List SlotKind) → AreEnough a b → AreEnough b c → AreEnough a c
enough_on [] [] c h k = k
enough_on [] (y ∷ b) c h k = absurd h
enough_on (x ∷ a) [] c h k = absurd h
enough_on (x ∷ a) (y ∷ b) [] h k = absurd k
enough_on (x ∷ a) (y ∷ b) (z ∷ c) h k = (kind_on x y z h.0 k.0, enough_on a b c h.1 k.1)

pub meets_more : (o : Option Shape) (st : List ItemKind) (js ks : List SlotKind) → AreEnough js ks → Meets o st ks → Meets o st js
meets_more None st js ks e h = absurd h
meets_more (Some s) st js ks e h = (h.0, enough_on js ks s.slots e h.1)

-- ---- the slots of a function: those that are known first, and the others hold anything

abbrev pub filled : ℕ → List SlotKind → List SlotKind
filled zero known = []
filled (suc n) [] = either ∷ filled n []
filled (suc n) (k ∷ known) = k ∷ filled n known

pub filled_get : (n : ℕ) (known : List SlotKind) (i : ℕ) (k : SlotKind) → slice_get known i ≡ Some k → length known ≤ n → slice_get (filled n known) i ≡ Some k
filled_get zero [] i k h le = absurd (let g : None ≡ Some k = h in Prim.cc)
filled_get zero (x ∷ known) i k h le = absurd (Prim.omega (arith, le))
filled_get (suc n) [] i k h le = absurd (let g : None ≡ Some k = h in Prim.cc)
filled_get (suc n) (x ∷ known) zero k h le = h
filled_get (suc n) (x ∷ known) (suc i) k h le = filled_get n known i k h (Prim.omega (arith, le))

pub filled_has : (n : ℕ) (known : List SlotKind) (i : ℕ) → i < n → IsEnoughIn (slice_get (filled n known) i) either
filled_has zero known i h = absurd (Prim.omega (arith, h))
filled_has (suc n) [] zero h = tt
filled_has (suc n) (x ∷ known) zero h = any_kind x
filled_has (suc n) [] (suc i) h = filled_has n [] i (Prim.omega (arith, h))
filled_has (suc n) (x ∷ known) (suc i) h = filled_has n known i (Prim.omega (arith, h))

pub filled_set : (n : ℕ) (known : List SlotKind) (j k : SlotKind) (more : List SlotKind) → slice_set (filled n (known ++ j ∷ more)) (length known) k ≡ filled n (known ++ k ∷ more)
filled_set zero known j k more = refl
filled_set (suc n) [] j k more = refl
filled_set (suc n) (x ∷ known) j k more = ap (λ l. x ∷ l) (filled_set n known j k more)

pub filled_either : (n : ℕ) (known : List SlotKind) → filled n (known ++ either ∷ []) ≡ filled n known
filled_either zero known = refl
filled_either (suc n) [] = refl
filled_either (suc n) (x ∷ known) = ap (λ l. x ∷ l) (filled_either n known)

pub filled_next : (n : ℕ) (known : List SlotKind) (k : SlotKind) → slice_set (filled n known) (length known) k ≡ filled n (known ++ k ∷ [])
filled_next n known k = ap (λ l. slice_set l (length known) k) (sym (filled_either n known)) ∙ filled_set n known either k []

pub filled_fewer : (n : ℕ) (known more : List SlotKind) → AreEnough (filled n (known ++ more)) (filled n known)
filled_fewer zero known more = tt
filled_fewer (suc n) [] [] = (tt, filled_fewer n [] [])
filled_fewer (suc n) [] (k ∷ more) = (any_kind k, filled_fewer n [] more)
filled_fewer (suc n) (x ∷ known) more = (same_kind x, filled_fewer n known more)

pub filled_first : (n params : ℕ) → AreEnough (replicate n held) (filled n (replicate params held))
filled_first zero params = tt
filled_first (suc n) zero = (tt, filled_first n zero)
filled_first (suc n) (suc params) = (tt, filled_first n params)

pub get_there : {A : Type 0} (pre : List A) (x : A) (is : List A) → slice_get (pre ++ x ∷ is) (length pre) ≡ Some x
get_there [] x is = refl
get_there (y ∷ pre) x is = get_there pre x is

pub get_more : {A : Type 0} (pre more : List A) (i : ℕ) (x : A) → slice_get pre i ≡ Some x → slice_get (pre ++ more) i ≡ Some x
get_more [] more i x h = absurd (let g : None ≡ Some x = h in Prim.cc)
get_more (y ∷ pre) more zero x h = h
get_more (y ∷ pre) more (suc i) x h = get_more pre more i x h

pub get_below : {A : Type 0} (xs : List A) (i : ℕ) (x : A) → slice_get xs i ≡ Some x → i < length xs
get_below [] i x h = absurd (let g : None ≡ Some x = h in Prim.cc)
get_below (y ∷ xs) zero x h = Prim.omega arith
get_below (y ∷ xs) (suc i) x h = let low : i < length xs = get_below xs i x h in Prim.omega (arith, low)

-- one more of the same, in front and behind
pub replicate_next : {A : Type 0} (n : ℕ) (x : A) (st : List A) → replicate n x ++ x ∷ st ≡ x ∷ (replicate n x ++ st)
replicate_next zero x st = refl
replicate_next (suc n) x st = ap (λ l. x ∷ l) (replicate_next n x st)
