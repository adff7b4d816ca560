-- What a scope says of the slots and the captured cells.
use Rattle.std.proofs.Common.{◌≡◌, sym, subst, ℕ, zero, suc, ◌+◌, ◌<◌, ◌≤◌, nat_eq, Bool, true, false, cond, List, [], ◌∷◌, ◌++◌, length, map, replicate, slice_get, Option, Some, None, arith}
use Rattle.std.proofs.lemmas.List.{length-append, length-replicate, append_assoc}
use Rattle.std.specs.Map.{lookup}
use Rattle.lua_code.specs.declared.code.Capture.TheVariants as capture
use Rattle.lua_code.specs.declared.code.Proto.{Proto}
use Rattle.lua_code.specs.Generated.{Scope, past, taken, in_slots, declared, captured_from, outer_from}
use Rattle.lua_code.specs.Shapes.{SlotKind, held, celled, IsEnoughIn, Hold, AreOuter, captured_slots}
use Rattle.lua_code.proofs.Formed.Slots.{filled, filled_get, get_there, get_more}

-- the slots of own locals hold cells
abbrev pub Celled : List SlotKind → List (ℕ × ℕ) → Type 0
Celled known [] = Unit {0}
Celled known (o ∷ own) = (slice_get known o.1 ≡ Some celled) × Celled known own

pub celled_more : (known more : List SlotKind) (own : List (ℕ × ℕ)) → Celled known own → Celled (known ++ more) own
celled_more known more [] h = tt
celled_more known more (o ∷ own) h = (get_more known more o.1 celled h.0, celled_more known more own h.1)

pub celled_in : (n x s : ℕ) (own : List (ℕ × ℕ)) (known : List SlotKind) → length known ≡ s → Celled known own → Celled (known ++ replicate n celled) (in_slots n x s own)
celled_in zero x s own known e h = celled_more known [] own h
celled_in (suc n) x s own known e h =
    let long : length (known ++ celled ∷ []) ≡ length known + 1 = length-append known (celled ∷ []) in
    let here : slice_get (known ++ celled ∷ []) s ≡ Some celled = subst (λ z. slice_get (known ++ celled ∷ []) z ≡ Some celled) e (get_there known celled []) in
    subst (λ l. Celled l (in_slots n (x + 1) (s + 1) ((x, s) ∷ own))) (append_assoc known (celled ∷ []) (replicate n celled))
    (celled_in n (x + 1) (s + 1) ((x, s) ∷ own) (known ++ celled ∷ []) (Prim.omega (arith, long, e)) (here, celled_more known (celled ∷ []) own h))

celled_step : (known : List SlotKind) (o : ℕ × ℕ) (s : ℕ) (rest : Option ℕ) (t : Bool) → slice_get known o.1 ≡ Some celled → (rest ≡ Some s → slice_get known s ≡ Some celled)
    → cond t (Some o.1) rest ≡ Some s → slice_get known s ≡ Some celled
celled_step known o s rest true h f e = let same : o.1 ≡ s = (let g : Some o.1 ≡ Some s = e in Prim.cc) in subst (λ z. slice_get known z ≡ Some celled) same h
celled_step known o s rest false h f e = f e

pub celled_at : (known : List SlotKind) (own : List (ℕ × ℕ)) (x s : ℕ) → Celled known own → lookup (nat_eq x) own ≡ Some s → slice_get known s ≡ Some celled
celled_at known [] x s h e = absurd (let g : None ≡ Some s = e in Prim.cc)
celled_at known (o ∷ own) x s h e = celled_step known o s (lookup (nat_eq x) own) (nat_eq x o.0) h.0 (celled_at known own x s h.1) e

captured_step : (i k n : ℕ) (rest : Option ℕ) (t : Bool) → (rest ≡ Some k → k < i + 1 + n) → cond t (Some i) rest ≡ Some k → k < i + suc n
captured_step i k n rest true f e = let same : i ≡ k = (let g : Some i ≡ Some k = e in Prim.cc) in Prim.omega (arith, same)
captured_step i k n rest false f e = let low : k < i + 1 + n = f e in Prim.omega (arith, low)

pub captured_low : (i x : ℕ) (ys : List ℕ) (k : ℕ) → captured_from i x ys ≡ Some k → k < i + length ys
captured_low i x [] k e = absurd (let g : None ≡ Some k = e in Prim.cc)
captured_low i x (y ∷ ys) k e = captured_step i k (length ys) (captured_from (i + 1) x ys) (nat_eq x y) (captured_low (i + 1) x ys k) e

-- ---- a scope of a function

pub record Fit (proto : Proto) (sc : Scope) (known : List SlotKind) : Type 0 where
  pub free : length known ≡ sc.free
  pub cells : Celled known sc.own
  pub captures : length proto.captures ≡ length sc.captured

pub fit_past : (proto : Proto) (sc : Scope) (known : List SlotKind) (k : ℕ) → Fit proto sc known → Fit proto (past k sc) known
fit_past proto sc known k f = record { free = f.free; cells = f.cells; captures = f.captures }

pub fit_next : (proto : Proto) (sc : Scope) (known : List SlotKind) (k : ℕ) → Fit proto sc known → Fit proto (record sc { next = k }) known
fit_next proto sc known k f = record { free = f.free; cells = f.cells; captures = f.captures }

pub fit_taken : (proto : Proto) (sc : Scope) (known : List SlotKind) (k : ℕ) → Fit proto sc known → Fit proto (taken k sc) (known ++ replicate k held)
fit_taken proto sc known k f =
    let free : length known ≡ sc.free = f.free in
    record { free = Prim.omega (arith, free, length-append known (replicate k held), length-replicate k held); cells = celled_more known (replicate k held) sc.own f.cells; captures = f.captures }

-- none is taken
pub fit_same : (proto : Proto) (sc : Scope) (known : List SlotKind) → Fit proto sc known → Fit proto (taken 0 sc) known
fit_same proto sc known f = let free : length known ≡ sc.free = f.free in record { free = Prim.omega (arith, free); cells = f.cells; captures = f.captures }

pub fit_declared : (proto : Proto) (sc : Scope) (known : List SlotKind) (n : ℕ) → Fit proto sc known → Fit proto (declared n sc) (known ++ replicate n celled)
fit_declared proto sc known n f =
    let free : length known ≡ sc.free = f.free in
    record { free = Prim.omega (arith, free, length-append known (replicate n celled), length-replicate n celled); cells = celled_in n sc.next sc.free sc.own known f.free f.cells; captures = f.captures }

-- ---- closures

outer_low : (count i : ℕ) (xs : List ℕ) → i + length xs ≤ count → AreOuter count (outer_from i xs)
outer_low count i [] le = tt
outer_low count i (x ∷ xs) le = (Prim.omega (arith, le), outer_low count (i + 1) xs (Prim.omega (arith, le)))

pub captures_low : (count : ℕ) (own : List (ℕ × ℕ)) (captured : List ℕ) → length captured ≤ count → AreOuter count (map (λ o. capture.Cell o.1) own ++ outer_from 0 captured)
captures_low count [] captured le = outer_low count 0 captured (Prim.omega (arith, le))
captures_low count (o ∷ own) captured le = captures_low count own captured le

no_slots : (ks : List SlotKind) (i : ℕ) (xs : List ℕ) → Hold ks (captured_slots (outer_from i xs))
no_slots ks i [] = tt
no_slots ks i (x ∷ xs) = no_slots ks (i + 1) xs

pub captures_held : (n : ℕ) (known : List SlotKind) (own : List (ℕ × ℕ)) (captured : List ℕ) → length known ≤ n → Celled known own → Hold (filled n known) (captured_slots (map (λ o. capture.Cell o.1) own ++ outer_from 0 captured))
captures_held n known [] captured le h = no_slots (filled n known) 0 captured
captures_held n known (o ∷ own) captured le h =
    (subst (λ z. IsEnoughIn z celled) (sym (filled_get n known o.1 celled h.0 le)) tt, captures_held n known own captured le h.1)
