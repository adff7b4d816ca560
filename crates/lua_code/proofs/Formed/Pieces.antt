-- Pieces of a function's code: each leads from the shape before it to the shape behind it, and all its steps agree with the shapes.
use Rattle.std.proofs.Common.{◌≡◌, refl, sym, subst, ℕ, suc, ◌+◌, ◌<◌, List, [], ◌∷◌, ◌++◌, length, map, slice_get, Some, arith}
use Rattle.std.proofs.lemmas.List.{length-append}
use Rattle.tl_base.specs.declared.place.Pos.{Pos}
use Rattle.lua_code.specs.declared.code.Proto.{Proto}
use Rattle.lua_code.specs.declared.code.Instr.{Instr}
use Rattle.lua_code.specs.declared.code.Instr.TheVariants as instr
use Rattle.lua_code.specs.Generated.{Placed, one}
use Rattle.lua_code.specs.Shapes.{ItemKind, values, SlotKind, Shape, effect_of, IsInRange, Hold, AreEnough, after_sets, Meets, TurnsBack, FitsIf}
use Rattle.lua_code.proofs.Faithful.Lists.{HasAt, has_front, has_next, get_map}
use Rattle.lua_code.proofs.Formed.Slots.{enough_same, meets_more}

abbrev pub shape : List ItemKind → List SlotKind → Shape
shape st ks = record { stack = st; slots = ks }

-- a step to this place, with the stack and the slots so, agrees with its shape
abbrev pub Accepts : List Shape → ℕ → Shape → Type 0
Accepts shapes at s = Meets (slice_get shapes at) s.stack s.slots

abbrev pub instrs_of : Placed → List Instr
instrs_of placed = map (λ c. c.0) placed

-- what a piece asks of the whole function
abbrev pub Asked : Type 1
Asked = Placed → List Shape → Type 0

abbrev pub nothing : Asked
nothing w all = Unit {0}

-- a place that takes a jump from here
abbrev pub Takes : ℕ → ℕ → Shape → Asked
Takes at to s w all = Accepts all to s × TurnsBack (instrs_of w) at to

-- a place that takes jumps from before it
abbrev pub Ahead : ℕ → Shape → Asked
Ahead to s w all = Accepts all to s

-- a `Turn` at this place, which takes jumps from everywhere
abbrev pub Turned : ℕ → Shape → Asked
Turned to s w all = Accepts all to s × ((p : Pos) × (slice_get w to ≡ Some (instr.Turn, p)))

abbrev pub Both : Asked → Asked → Asked
Both F G w all = F w all × G w all

abbrev pub AllAgree : List Proto → Proto → List Instr → List Shape → ℕ → Placed → List Shape → Type 0
AllAgree code proto instrs all at [] ss = Unit {0}
AllAgree code proto instrs all at (i ∷ is) [] = ⊥
AllAgree code proto instrs all at (i ∷ is) (s ∷ ss) =
    (IsInRange code proto i.0 × FitsIf instrs all at s (effect_of code at s.stack i.0)) × AllAgree code proto instrs all (at + 1) is ss

pub record Piece (code : List Proto) (proto : Proto) (G : Asked) (is : Placed) (at to : ℕ) (s t : Shape) : Type 0 where
  pub shapes : List Shape
  pub each : length shapes ≡ length is
  pub size : at + length is ≡ to
  pub enters : (all : List Shape) → HasAt all at shapes → Accepts all to t → Accepts all at s
  pub fits : (w : Placed) (all : List Shape) → HasAt w at is → HasAt all at shapes → Accepts all to t → G w all → AllAgree code proto (instrs_of w) all at is shapes

pub jumps_ahead : (w : Placed) (at to : ℕ) → at < to → TurnsBack (instrs_of w) at to
jumps_ahead w at to lt le = absurd (Prim.omega (arith, lt, le))

pub jumps_back : (w : Placed) (at to : ℕ) (p : Pos) → slice_get w to ≡ Some (instr.Turn, p) → TurnsBack (instrs_of w) at to
jumps_back w at to p h le = get_map (λ c. c.0) w to (instr.Turn, p) h

-- an instruction where it stands
pub accepted : (all : List Shape) (at : ℕ) (s : Shape) → slice_get all at ≡ Some s → Accepts all at s
accepted all at s h = subst (λ o. Meets o s.stack s.slots) (sym h) (refl, enough_same s.slots)

module _ (code : List Proto) (proto : Proto) where
  pub agree_all : (instrs : List Instr) (all : List Shape) (at mid : ℕ) (a b : Placed) (ss ts : List Shape) → length ss ≡ length a → at + length a ≡ mid
      → AllAgree code proto instrs all at a ss → AllAgree code proto instrs all mid b ts → AllAgree code proto instrs all at (a ++ b) (ss ++ ts)
  agree_all instrs all at mid [] b [] ts e f h k = let here : mid ≡ at = Prim.omega (arith, f) in subst (λ z. AllAgree code proto instrs all z b ts) here k
  agree_all instrs all at mid [] b (s ∷ ss) ts e f h k = absurd (Prim.omega (arith, e))
  agree_all instrs all at mid (i ∷ a) b [] ts e f h k = absurd h
  agree_all instrs all at mid (i ∷ a) b (s ∷ ss) ts e f h k = (h.0, agree_all instrs all (at + 1) mid a b ss ts (Prim.omega (arith, e)) (Prim.omega (arith, f)) h.1 k)

  -- ---- pieces from pieces

  pub none_to : (G : Asked) (at to : ℕ) (s : Shape) → at ≡ to → Piece code proto G [] at to s s
  none_to G at to s e = record { shapes = []; each = refl; size = Prim.omega (arith, e); enters = λ all h k. subst (λ z. Accepts all z s) (sym e) k; fits = λ w all h k l g. tt }

  pub given : (F G : Asked) → ((w : Placed) (all : List Shape) → G w all → F w all) → (is : Placed) (at to : ℕ) (s t : Shape) → Piece code proto F is at to s t → Piece code proto G is at to s t
  given F G f is at to s t p = record { shapes = p.shapes; each = p.each; size = p.size; enters = p.enters; fits = λ w all h k l g. p.fits w all h k l (f w all g) }

  -- what is asked of the place behind is there
  pub to_end : (F G : Asked) → (is : Placed) (at to : ℕ) (s t : Shape) → ((w : Placed) (all : List Shape) → Accepts all to t → G w all → F w all) → Piece code proto F is at to s t → Piece code proto G is at to s t
  to_end F G is at to s t f p = record { shapes = p.shapes; each = p.each; size = p.size; enters = p.enters; fits = λ w all h k l g. p.fits w all h k l (f w all l g) }

  pub less : (G : Asked) (is : Placed) (at to : ℕ) (s : Shape) (st : List ItemKind) (js ks : List SlotKind) → AreEnough js ks → Piece code proto G is at to s (shape st js) → Piece code proto G is at to s (shape st ks)
  less G is at to s st js ks e p = record {
    shapes = p.shapes;
    each = p.each;
    size = p.size;
    enters = λ all h k. p.enters all h (meets_more (slice_get all to) st js ks e k);
    fits = λ w all h k l g. p.fits w all h k (meets_more (slice_get all to) st js ks e l) g;
  }

  pub more : (G : Asked) (is : Placed) (at to : ℕ) (t : Shape) (st : List ItemKind) (js ks : List SlotKind) → AreEnough js ks → Piece code proto G is at to (shape st ks) t → Piece code proto G is at to (shape st js) t
  more G is at to t st js ks e p = record {
    shapes = p.shapes;
    each = p.each;
    size = p.size;
    enters = λ all h k. meets_more (slice_get all at) st js ks e (p.enters all h k);
    fits = p.fits;
  }

  pub moved : (G : Asked) (is : Placed) (at at2 to to2 : ℕ) (s t : Shape) → at ≡ at2 → to ≡ to2 → Piece code proto G is at to s t → Piece code proto G is at2 to2 s t
  moved G is at at2 to to2 s t e f p = subst (λ z. Piece code proto G is z to2 s t) e (subst (λ z. Piece code proto G is at z s t) f p)

  -- one piece behind another; the first may jump to the second
  pub behind : (F G : Asked) (a b : Placed) (at mid to : ℕ) (s m t : Shape) → ((w : Placed) (all : List Shape) → Accepts all mid m → G w all → F w all)
      → Piece code proto F a at mid s m → Piece code proto G b mid to m t → Piece code proto G (a ++ b) at to s t
  behind F G a b at mid to s m t f p q =
      let long : length p.shapes ≡ length a = p.each in
      let long2 : length q.shapes ≡ length b = q.each in
      let size : at + length a ≡ mid = p.size in
      let size2 : mid + length b ≡ to = q.size in
      let step : at + length p.shapes ≡ mid = Prim.omega (arith, long, size) in record {
        shapes = p.shapes ++ q.shapes;
        each = Prim.omega (arith, length-append p.shapes q.shapes, length-append a b, long, long2);
        size = Prim.omega (arith, length-append a b, size, size2);
        enters = λ all h k. p.enters all (has_front all at p.shapes q.shapes h) (q.enters all (has_next all at mid p.shapes q.shapes step h) k);
        fits = λ w all h k l g.
            let there : HasAt all mid q.shapes = has_next all at mid p.shapes q.shapes step k in
            let entered : Accepts all mid m = q.enters all there l in
            agree_all (instrs_of w) all at mid a b p.shapes q.shapes long size
            (p.fits w all (has_front w at a b h) (has_front all at p.shapes q.shapes k) entered (f w all entered g))
            (q.fits w all (has_next w at mid a b size h) there l g);
      }

  pub then : (G : Asked) (a b : Placed) (at mid to : ℕ) (s m t : Shape) → Piece code proto G a at mid s m → Piece code proto G b mid to m t → Piece code proto G (a ++ b) at to s t
  then G a b at mid to s m t p q = behind G G a b at mid to s m t (λ w all h g. g) p q

  -- the same, where places are told in other words
  pub join : {G : Asked} {a b : Placed} {at m1 m2 e to : ℕ} {s m t : Shape} → Piece code proto G a at m1 s m → Piece code proto G b m2 e m t → m1 ≡ m2 → e ≡ to → Piece code proto G (a ++ b) at to s t
  join {G} {a} {b} {at} {m1} {m2} {e} {to} {s} {m} {t} p q f g = then G a b at m1 to s m t p (moved G b m2 m1 e to m t (sym f) g q)

  -- ---- loops

  -- a loop goes back to the `Turn` that it begins with
  pub looped : (F G : Asked) (q : Pos) (is : Placed) (at to : ℕ) (s t : Shape) → ((w : Placed) (all : List Shape) → Turned at s w all → Accepts all to t → G w all → F w all)
      → Piece code proto F ((instr.Turn, q) ∷ is) at to s t → Piece code proto G ((instr.Turn, q) ∷ is) at to s t
  looped F G q is at to s t f p = record {
    shapes = p.shapes;
    each = p.each;
    size = p.size;
    enters = p.enters;
    fits = λ w all h k l g. p.fits w all h k l (f w all (p.enters all k l, (q, h.0)) l g);
  }

  -- a loop that is entered at its test, which stands behind the body
  pub looped_in : (F G : Asked) (q r : Pos) (body test : Placed) (at mid to : ℕ) (s m t : Shape) → ((w : Placed) (all : List Shape) → Turned (at + 1) s w all → Accepts all to t → G w all → F w all)
      → Piece code proto F ((instr.Turn, q) ∷ body) (at + 1) mid s m → Piece code proto F test mid to m t
      → Piece code proto G ((instr.Jump mid, r) ∷ ((instr.Turn, q) ∷ body) ++ test) at to m t
  looped_in F G q r body test at mid to s m t f p c =
      let long : length p.shapes ≡ suc (length body) = p.each in
      let long2 : length c.shapes ≡ length test = c.each in
      let size : at + 1 + suc (length body) ≡ mid = p.size in
      let size2 : mid + length test ≡ to = c.size in
      let step : at + 1 + length p.shapes ≡ mid = Prim.omega (arith, long, size) in
      let turn : Placed = (instr.Turn, q) ∷ body in record {
        shapes = m ∷ (p.shapes ++ c.shapes);
        each = Prim.omega (arith, length-append p.shapes c.shapes, length-append body test, long, long2);
        size = Prim.omega (arith, length-append body test, size, size2);
        enters = λ all h k. accepted all at m h.0;
        fits = λ w all h k l g.
            let there : HasAt all mid c.shapes = has_next all (at + 1) mid p.shapes c.shapes step k.1 in
            let entered : Accepts all mid m = c.enters all there l in
            let front : HasAt all (at + 1) p.shapes = has_front all (at + 1) p.shapes c.shapes k.1 in
            let asked : F w all = f w all (p.enters all front entered, (q, h.1.0)) l g in (
              (tt, record { below = m.stack; stack = refl; slots = tt; ways = (entered, jumps_ahead w at mid (Prim.omega (arith, size)), tt) }),
              agree_all (instrs_of w) all (at + 1) mid turn test p.shapes c.shapes long size
                  (p.fits w all (has_front w (at + 1) turn test h.1) front entered asked)
                  (c.fits w all (has_next w (at + 1) mid turn test size h.1) there l asked),
            );
      }

  -- ---- single instructions

  -- to the next place alone
  pub plain : (G : Asked) (i : Instr) (p : Pos) (at : ℕ) (takes puts : List ItemKind) (wants sets : List (ℕ × SlotKind)) (st : List ItemKind) (ks : List SlotKind) → IsInRange code proto i
      → effect_of code at (takes ++ st) i ≡ Some (record { takes = takes; wants = wants; sets = sets; ways = (at + 1, puts) ∷ [] }) → Hold ks wants
      → Piece code proto G (one i p) at (at + 1) (shape (takes ++ st) ks) (shape (puts ++ st) (after_sets sets ks))
  plain G i p at takes puts wants sets st ks range e hold = record {
    shapes = shape (takes ++ st) ks ∷ [];
    each = refl;
    size = Prim.omega arith;
    enters = λ all h k. accepted all at (shape (takes ++ st) ks) h.0;
    fits = λ w all h k l g. (
      (
        range,
        subst (λ o. FitsIf (instrs_of w) all at (shape (takes ++ st) ks) o) (sym e) (record { below = st; stack = refl; slots = hold; ways = (l, jumps_ahead w at (at + 1) (Prim.omega arith), tt) }),
      ),
      tt,
    );
  }

  -- to the next place or to another
  pub branching : (G : Asked) (i : Instr) (p : Pos) (at to : ℕ) (takes puts kept : List ItemKind) (wants : List (ℕ × SlotKind)) (st : List ItemKind) (ks : List SlotKind) → IsInRange code proto i
      → effect_of code at (takes ++ st) i ≡ Some (record { takes = takes; wants = wants; sets = []; ways = (at + 1, puts) ∷ (to, kept) ∷ [] }) → Hold ks wants
      → ((w : Placed) (all : List Shape) → G w all → Takes at to (shape (kept ++ st) ks) w all)
      → Piece code proto G (one i p) at (at + 1) (shape (takes ++ st) ks) (shape (puts ++ st) ks)
  branching G i p at to takes puts kept wants st ks range e hold f = record {
    shapes = shape (takes ++ st) ks ∷ [];
    each = refl;
    size = Prim.omega arith;
    enters = λ all h k. accepted all at (shape (takes ++ st) ks) h.0;
    fits = λ w all h k l g.
        let there : Takes at to (shape (kept ++ st) ks) w all = f w all g in (
          (
            range,
            subst (λ o. FitsIf (instrs_of w) all at (shape (takes ++ st) ks) o) (sym e) (record { below = st; stack = refl; slots = hold; ways = (l, jumps_ahead w at (at + 1) (Prim.omega arith), (there.0, there.1, tt)) }),
          ),
          tt,
        );
  }

  -- to another place alone
  pub jumping : (G : Asked) (p : Pos) (at to : ℕ) (s t : Shape) → ((w : Placed) (all : List Shape) → G w all → Takes at to s w all) → Piece code proto G (one (instr.Jump to) p) at (at + 1) s t
  jumping G p at to s t f = record {
    shapes = s ∷ [];
    each = refl;
    size = Prim.omega arith;
    enters = λ all h k. accepted all at s h.0;
    fits = λ w all h k l g. let there : Takes at to s w all = f w all g in ((tt, record { below = s.stack; stack = refl; slots = tt; ways = (there.0, there.1, tt) }), tt);
  }

  pub returning : (G : Asked) (p : Pos) (at : ℕ) (st : List ItemKind) (ks : List SlotKind) (t : Shape) → Piece code proto G (one instr.Return p) at (at + 1) (shape (values ∷ st) ks) t
  returning G p at st ks t = record {
    shapes = shape (values ∷ st) ks ∷ [];
    each = refl;
    size = Prim.omega arith;
    enters = λ all h k. accepted all at (shape (values ∷ st) ks) h.0;
    fits = λ w all h k l g. ((tt, record { below = st; stack = refl; slots = tt; ways = tt }), tt);
  }
