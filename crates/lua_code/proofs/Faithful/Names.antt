-- Where the code keeps the locals that the meaning has in its environment.
use Rattle.std.proofs.Common.{◌≡◌, refl, ap, subst, sym, ◌∙◌, ℕ, suc, ◌+◌, ◌<◌, ◌≤◌, nat_eq, Bool, true, false, cond, List, [], ◌∷◌, ◌++◌, length, map, slice_get, slice_set, Some, None, arith}
use Rattle.std.specs.Map.{lookup, keys_of}
use Rattle.tl_base.specs.declared.place.Pos.{Pos}
use Rattle.lua_meaning.specs.World.{World}
use Rattle.lua_meaning.specs.Environment.{Bound}
use Rattle.lua_code.specs.declared.code.Capture.TheVariants as capture
use Rattle.lua_code.specs.declared.frames.Slot.{Slot}
use Rattle.lua_code.specs.declared.frames.Slot.TheVariants as slot
use Rattle.lua_code.specs.Configurations.{CodeClosure, Frame, Level}
use Rattle.lua_code.specs.Instructions.{Row, capture_all, cell_in, this_cell}
use Rattle.lua_code.specs.Generated.{captured_from, outer_from}
use Rattle.lua_code.proofs.Faithful.Lists.{HasAt, has_all, get_set_before, length_set}

-- the slots below d are as before
pub record Kept (d : ℕ) (old new : List Slot) : Type 0 where
  pub long : length new ≡ length old
  pub low : (i : ℕ) → i < d → slice_get new i ≡ slice_get old i

pub kept_same : (d : ℕ) (sl : List Slot) → Kept d sl sl
kept_same d sl = record { long = refl; low = λ i h. refl }

pub kept_set : (d i : ℕ) (sl : List Slot) (s : Slot) → d ≤ i → Kept d sl (slice_set sl i s)
kept_set d i sl s le = record { long = length_set sl i s; low = λ j h. get_set_before sl i j s (Prim.omega (arith, h, le)) }

pub kept_on : (c d : ℕ) (a b e : List Slot) → c ≤ d → Kept c a b → Kept d b e → Kept c a e
kept_on c d a b e le h k = record { long = k.long ∙ h.long; low = λ i l. k.low i (Prim.omega (arith, l, le)) ∙ h.low i l }

pub kept_back : (d : ℕ) (a b : List Slot) → Kept d a b → Kept d b a
kept_back d a b h = record { long = sym h.long; low = λ i l. sym (h.low i l) }

-- own locals in slots below d, and the others among the captured cells
abbrev pub Sees : ℕ → List (ℕ × ℕ) → List ℕ → Bound → List Slot → List ℕ → Type 0
Sees d [] captured bound sl up = (keys_of bound ≡ captured) × (map (λ b. b.1) bound ≡ up)
Sees d (o ∷ own) captured [] sl up = ⊥
Sees d (o ∷ own) captured (b ∷ bound) sl up = (b.0 ≡ o.0) × (o.1 < d) × (slice_get sl o.1 ≡ Some (slot.Cell b.1)) × Sees d own captured bound sl up

pub sees_kept : (c d : ℕ) (own : List (ℕ × ℕ)) (captured : List ℕ) (bound : Bound) (sl sl2 : List Slot) (up : List ℕ) → c ≤ d → Kept c sl sl2 → Sees c own captured bound sl up → Sees d own captured bound sl2 up
sees_kept c d [] captured bound sl sl2 up le k h = h
sees_kept c d (o ∷ own) captured [] sl sl2 up le k h = absurd h
sees_kept c d (o ∷ own) captured (b ∷ bound) sl sl2 up le k h =
    let low : o.1 < c = h.1 in
    (h.0, Prim.omega (arith, low, le), k.low o.1 low ∙ h.2, sees_kept c d own captured bound sl sl2 up le k h.3)

-- ---- reading and writing

-- where a local is found
pub data Found (x : ℕ) (own : List (ℕ × ℕ)) (captured : List ℕ) (bound : Bound) (sl : List Slot) (up : List ℕ) : Type 0 where
  in_slot : (s c : ℕ) → lookup (nat_eq x) own ≡ Some s → lookup (nat_eq x) bound ≡ Some c → slice_get sl s ≡ Some (slot.Cell c) → Found x own captured bound sl up
  in_captured : (i c : ℕ) → lookup (nat_eq x) own ≡ None → captured_from 0 x captured ≡ Some i → lookup (nat_eq x) bound ≡ Some c → slice_get up i ≡ Some c → Found x own captured bound sl up
  nowhere : lookup (nat_eq x) own ≡ None → captured_from 0 x captured ≡ None → lookup (nat_eq x) bound ≡ None → Found x own captured bound sl up

pub data Outer (x j : ℕ) (captured : List ℕ) (bound : Bound) (up : List ℕ) : Type 0 where
  there : (i c : ℕ) → captured_from j x captured ≡ Some i → lookup (nat_eq x) bound ≡ Some c → slice_get up i ≡ Some c → Outer x j captured bound up
  gone : captured_from j x captured ≡ None → lookup (nat_eq x) bound ≡ None → Outer x j captured bound up

outer_here : (x j : ℕ) (b : ℕ × ℕ) (bound : Bound) (up : List ℕ) → nat_eq x b.0 ≡ true → slice_get up j ≡ Some b.1 → Outer x j (keys_of (b ∷ bound)) (b ∷ bound) up
outer_here x j b bound up e h = there j b.1 (ap (λ z. cond z (Some j) (captured_from (j + 1) x (keys_of bound))) e) (ap (λ z. cond z (Some b.1) (lookup (nat_eq x) bound)) e) h

outer_later : (x j : ℕ) (b : ℕ × ℕ) (bound : Bound) (up : List ℕ) → nat_eq x b.0 ≡ false → Outer x (j + 1) (keys_of bound) bound up → Outer x j (keys_of (b ∷ bound)) (b ∷ bound) up
outer_later x j b bound up e (there i c f g k) = there i c (ap (λ z. cond z (Some j) (captured_from (j + 1) x (keys_of bound))) e ∙ f) (ap (λ z. cond z (Some b.1) (lookup (nat_eq x) bound)) e ∙ g) k
outer_later x j b bound up e (gone f g) = gone (ap (λ z. cond z (Some j) (captured_from (j + 1) x (keys_of bound))) e ∙ f) (ap (λ z. cond z (Some b.1) (lookup (nat_eq x) bound)) e ∙ g)

outer_step : (x j : ℕ) (b : ℕ × ℕ) (bound : Bound) (up : List ℕ) (t : Bool) → nat_eq x b.0 ≡ t → slice_get up j ≡ Some b.1 → Outer x (j + 1) (keys_of bound) bound up → Outer x j (keys_of (b ∷ bound)) (b ∷ bound) up
outer_step x j b bound up true e h k = outer_here x j b bound up e h
outer_step x j b bound up false e h k = outer_later x j b bound up e k

outer : (x j : ℕ) (bound : Bound) (up : List ℕ) → HasAt up j (map (λ b. b.1) bound) → Outer x j (keys_of bound) bound up
outer x j [] up h = gone refl refl
outer x j (b ∷ bound) up h = outer_step x j b bound up (nat_eq x b.0) refl h.0 (outer x (j + 1) bound up h.1)

found_outer : (x : ℕ) (captured : List ℕ) (bound : Bound) (sl : List Slot) (up : List ℕ) → Outer x 0 captured bound up → Found x [] captured bound sl up
found_outer x captured bound sl up (there i c f g k) = in_captured i c refl f g k
found_outer x captured bound sl up (gone f g) = nowhere refl f g

found_later : (x : ℕ) (o b : ℕ × ℕ) (own : List (ℕ × ℕ)) (captured : List ℕ) (bound : Bound) (sl : List Slot) (up : List ℕ) → nat_eq x o.0 ≡ false → nat_eq x b.0 ≡ false
    → Found x own captured bound sl up → Found x (o ∷ own) captured (b ∷ bound) sl up
found_later x o b own captured bound sl up e k (in_slot s c f g h) = in_slot s c (ap (λ z. cond z (Some o.1) (lookup (nat_eq x) own)) e ∙ f) (ap (λ z. cond z (Some b.1) (lookup (nat_eq x) bound)) k ∙ g) h
found_later x o b own captured bound sl up e k (in_captured i c f g h j) = in_captured i c (ap (λ z. cond z (Some o.1) (lookup (nat_eq x) own)) e ∙ f) g (ap (λ z. cond z (Some b.1) (lookup (nat_eq x) bound)) k ∙ h) j
found_later x o b own captured bound sl up e k (nowhere f g h) = nowhere (ap (λ z. cond z (Some o.1) (lookup (nat_eq x) own)) e ∙ f) g (ap (λ z. cond z (Some b.1) (lookup (nat_eq x) bound)) k ∙ h)

found_step : (x : ℕ) (o b : ℕ × ℕ) (own : List (ℕ × ℕ)) (captured : List ℕ) (bound : Bound) (sl : List Slot) (up : List ℕ) (t : Bool) → nat_eq x o.0 ≡ t → b.0 ≡ o.0
    → slice_get sl o.1 ≡ Some (slot.Cell b.1) → Found x own captured bound sl up → Found x (o ∷ own) captured (b ∷ bound) sl up
found_step x o b own captured bound sl up true e k h f =
    in_slot o.1 b.1 (ap (λ z. cond z (Some o.1) (lookup (nat_eq x) own)) e) (ap (λ z. cond z (Some b.1) (lookup (nat_eq x) bound)) (ap (nat_eq x) k ∙ e)) h
found_step x o b own captured bound sl up false e k h f = found_later x o b own captured bound sl up e (ap (nat_eq x) k ∙ e) f

pub found : (x d : ℕ) (own : List (ℕ × ℕ)) (captured : List ℕ) (bound : Bound) (sl : List Slot) (up : List ℕ) → Sees d own captured bound sl up → Found x own captured bound sl up
found x d [] captured bound sl up h =
    found_outer x captured bound sl up (subst (λ z. Outer x 0 z bound up) h.0 (outer x 0 bound up (subst (λ z. HasAt z 0 (map (λ b. b.1) bound)) h.1 (has_all (map (λ b. b.1) bound) []))))
found x d (o ∷ own) captured [] sl up h = absurd h
found x d (o ∷ own) captured (b ∷ bound) sl up h = found_step x o b own captured bound sl up (nat_eq x o.0) refl h.0 h.2 (found x d own captured bound sl up h.3)

-- ---- captures

pub keys_seen : (d : ℕ) (own : List (ℕ × ℕ)) (captured : List ℕ) (bound : Bound) (sl : List Slot) (up : List ℕ) → Sees d own captured bound sl up → keys_of bound ≡ keys_of own ++ captured
keys_seen d [] captured bound sl up h = h.0
keys_seen d (o ∷ own) captured [] sl up h = absurd h
keys_seen d (o ∷ own) captured (b ∷ bound) sl up h = ap (λ z. z ∷ keys_of bound) h.0 ∙ ap (λ z. o.0 ∷ z) (keys_seen d own captured bound sl up h.3)

outer_all : (cells keys : List ℕ) (j : ℕ) (next : List ℕ → Row) (p : Pos) (f : Frame) (lv : List Level) (w : World) (ks : List CodeClosure) → length keys ≡ length cells → HasAt f.captured j cells
    → capture_all (outer_from j keys) next p f lv w ks ≡ next cells p f lv w ks
outer_all [] [] j next p f lv w ks e h = refl
outer_all [] (k ∷ keys) j next p f lv w ks e h = absurd (Prim.omega (arith, e))
outer_all (c ∷ cells) [] j next p f lv w ks e h = absurd (Prim.omega (arith, e))
outer_all (c ∷ cells) (k ∷ keys) j next p f lv w ks e h =
    ap (λ z. this_cell z (λ c. capture_all (outer_from (j + 1) keys) (λ cells. next (c ∷ cells))) p f lv w ks) h.0
    ∙ outer_all cells keys (j + 1) (λ cells. next (c ∷ cells)) p f lv w ks (Prim.omega (arith, e)) h.1

length_keys : (bound : Bound) → length (keys_of bound) ≡ length (map (λ b. b.1) bound)
length_keys [] = refl
length_keys (b ∷ bound) = ap suc (length_keys bound)

pub captures_seen : (d : ℕ) (own : List (ℕ × ℕ)) (captured : List ℕ) (bound : Bound) (next : List ℕ → Row) (p : Pos) (f : Frame) (lv : List Level) (w : World) (ks : List CodeClosure)
    → Sees d own captured bound f.slots f.captured
    → capture_all (map (λ o. capture.Cell o.1) own ++ outer_from 0 captured) next p f lv w ks ≡ next (map (λ b. b.1) bound) p f lv w ks
captures_seen d [] captured bound next p f lv w ks h =
    outer_all (map (λ b. b.1) bound) captured 0 next p f lv w ks (ap length (sym h.0) ∙ length_keys bound) (subst (λ z. HasAt z 0 (map (λ b. b.1) bound)) h.1 (has_all (map (λ b. b.1) bound) []))
captures_seen d (o ∷ own) captured [] next p f lv w ks h = absurd h
captures_seen d (o ∷ own) captured (b ∷ bound) next p f lv w ks h =
    ap (λ z. cell_in z (λ c. capture_all (map (λ o. capture.Cell o.1) own ++ outer_from 0 captured) (λ cells. next (c ∷ cells))) p f lv w ks) h.2
    ∙ captures_seen d own captured bound (λ cells. next (b.1 ∷ cells)) p f lv w ks h.3
