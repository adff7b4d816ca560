-- The labels of words that begin a module, by what is counted behind them.
use Rattle.std.proofs.Common.{◌≡◌, ℕ, zero, suc, ◌+◌, ◌-◌, ◌<◌, ◌≤◌, ◌⊎◌, inl, inr, max, List, [], ◌∷◌, ◌++◌, length, reverse, get_or, refl, sym, subst, ap, append_assoc, append-nil, ◌∙◌, arith}
use Rattle.std.proofs.lemmas.List.{length-append, reverse-append, length-reverse, get_or_append_left, get_or-reverse}
use Rattle.tl_base.specs.declared.place.ModuleKind.{ModuleKind}
use Rattle.lua_tree.specs.declared.syntax.Block.{Block}
use Rattle.lua_parser.specs.Words.{Word, Words}
use Rattle.lua_parser.specs.Grammar.Syntax.{SpellsChunk}
use Rattle.lua_parser.specs.Grammar.Fault.{IsViable, FaultAt}
use Rattle.lua_parser.specs.Grammar.Depth.{Label, Reached, at_last, labels}
use Rattle.lua_parser.specs.Grammar.TooDeep.{Limits, IsOver, plain, Readable, IsOverIn, TooDeepAt}
use Rattle.lua_parser.specs.Counting.Count.{Count, before_last, meet, take, count, start}
use Rattle.lua_parser.specs.Counting.Most.{most, bars, rise}
use Rattle.lua_parser.specs.Counting.Verdict.{counted, may_rise, IsWithin, IsFirstOver}
use Rattle.lua_parser.proofs.Laws.{tree_or_fault, not_earlier, cuts, shorter_or_not}
use Rattle.lua_parser.proofs.TooDeep.{one_readable}
use Rattle.lua_parser.proofs.Counting.Moves.{Moves, stays, begun, ended, told, told_before, Fits, meet_fits}
use Rattle.lua_parser.proofs.Counting.Reads.{chunk_counts}

count_append : (ts us : Words) (v : Count) → count (ts ++ us) v ≡ count us (count ts v)
count_append [] us v = refl
count_append (x ∷ ts) us v = count_append ts us (take x (meet v.expected v.height x.kind v.reached))

-- ---- labels of which only the last two are higher, the last word's standing first

pub data Near (b c : ℕ) : List Label → List Label → Type 0 where
  near_none : Near b c [] []
  near_one : (l m : Label) → m.inside ≡ l.inside → l.ends ≤ m.ends → m.ends ≤ max l.ends b → Near b c (l ∷ []) (m ∷ [])
  near_more : (l m k j : Label) (ls : List Label) → m.inside ≡ l.inside → l.ends ≤ m.ends → m.ends ≤ max l.ends b → j.inside ≡ k.inside → k.ends ≤ j.ends → j.ends ≤ max k.ends c → Near b c (l ∷ k ∷ ls) (m ∷ j ∷ ls)

same_below : (h b : ℕ) → h ≤ max h b
same_below h b = grind arith

near_same : {b c : ℕ} (ls : List Label) → Near b c ls ls
near_same [] = near_none
near_same {b = b} (l ∷ []) = near_one l l refl (omega arith) (same_below l.ends b)
near_same {b = b} {c = c} (l ∷ k ∷ ls) = near_more l l k k ls refl (omega arith) (same_below l.ends b) refl (omega arith) (same_below k.ends c)

twice : (x y z b : ℕ) → y ≤ max x b → z ≤ max y b → z ≤ max x b
twice x y z b f g = grind arith

near_on : {b c : ℕ} {ls ms ns : List Label} → Near b c ls ms → Near b c ms ns → Near b c ls ns
near_on near_none near_none = near_none
near_on {b = b} (near_one l m a f g) (near_one _ n d h i) = near_one l n (d ∙ a) (omega (arith, f, h)) (twice l.ends m.ends n.ends b g i)
near_on {b = b} {c = c} (near_more l m k j ls a f g a1 f1 g1) (near_more _ n _ i _ d h t d1 h1 t1) =
    near_more l n k i ls (d ∙ a) (omega (arith, f, h)) (twice l.ends m.ends n.ends b g t) (d1 ∙ a1) (omega (arith, f1, h1)) (twice k.ends j.ends i.ends c g1 t1)

higher : (h k : ℕ) → h ≤ max h k
higher h k = grind arith

so_high : (h k b : ℕ) → k ≤ b → max h k ≤ max h b
so_high h k b l = grind arith

near_last : {b c : ℕ} (h : ℕ) → h ≤ b → (ls : List Label) → Near b c ls (at_last h ls)
near_last h l [] = near_none
near_last {b = b} h l (x ∷ []) = near_one x _ refl (higher x.ends h) (so_high x.ends h b l)
near_last {b = b} {c = c} h l (x ∷ y ∷ ls) = near_more x _ y y ls refl (higher x.ends h) (so_high x.ends h b l) refl (omega arith) (same_below y.ends c)

near_before : {b c : ℕ} (h : ℕ) → h ≤ c → (ls : List Label) → Near b c ls (before_last h ls)
near_before h l [] = near_none
near_before {b = b} h l (x ∷ []) = near_one x x refl (omega arith) (same_below x.ends b)
near_before {b = b} {c = c} h l (x ∷ y ∷ ls) = near_more x x y _ ls refl (omega arith) (same_below x.ends b) refl (higher y.ends h) (so_high y.ends h c l)

moves_near : {b c : ℕ} {r u : Reached} → Moves b c r u → Near b c r.labels u.labels
moves_near {r = r} stays = near_same r.labels
moves_near (begun m) = moves_near m
moves_near (ended m) = moves_near m
moves_near {r = r} (told h l m) = near_on (near_last h l r.labels) (moves_near m)
moves_near {r = r} (told_before h l m) = near_on (near_before h l r.labels) (moves_near m)

near_length : {b c : ℕ} {ls ms : List Label} → Near b c ls ms → length ms ≡ length ls
near_length near_none = refl
near_length (near_one l m a f g) = refl
near_length (near_more l m k j ls a f g a1 f1 g1) = refl

near_at : {b c : ℕ} {ls ms : List Label} → Near b c ls ms → c ≤ b → (i : ℕ)
    → ((get_or ms i plain).inside ≡ (get_or ls i plain).inside) × ((get_or ls i plain).ends ≤ (get_or ms i plain).ends) × ((get_or ms i plain).ends ≤ max (get_or ls i plain).ends b)
near_at near_none e i = (refl, omega arith, same_below _ _)
near_at (near_one l m a f g) e zero = (a, f, g)
near_at (near_one l m a f g) e (suc i) = (refl, omega arith, same_below _ _)
near_at (near_more l m k j ls a f g a1 f1 g1) e zero = (a, f, g)
near_at {b = b} {c = c} (near_more l m k j ls a f g a1 f1 g1) e (suc zero) = (a1, f1, wider k.ends j.ends b c e g1)
  where
    wider : (x y b c : ℕ) → c ≤ b → y ≤ max x c → y ≤ max x b
    wider x y b c e g = grind arith
near_at (near_more l m k j ls a f g a1 f1 g1) e (suc (suc i)) = (refl, omega arith, same_below _ _)

near_still : {b c : ℕ} {ls ms : List Label} → Near b c ls ms → (i : ℕ) → 2 ≤ i → get_or ms i plain ≡ get_or ls i plain
near_still near_none i e = refl
near_still (near_one l m a f g) zero e = absurd (omega (arith, e))
near_still (near_one l m a f g) (suc i) e = refl
near_still (near_more l m k j ls a f g a1 f1 g1) zero e = absurd (omega (arith, e))
near_still (near_more l m k j ls a f g a1 f1 g1) (suc zero) e = absurd (omega (arith, e))
near_still (near_more l m k j ls a f g a1 f1 g1) (suc (suc i)) e = refl

-- ---- what further words change

left_fits : (x y : ℕ) → x ≤ max x y
left_fits x y = grind arith

right_fits : (x y : ℕ) → y ≤ max x y
right_fits x y = grind arith

bars_fit : (v : Count) → bars v.expected ≤ rise v.expected v.height
bars_fit v = right_fits (most v.expected v.height) (bars v.expected)

one_step : (x : Word) (v : Count) → Fits (rise v.expected v.height) (bars v.expected) v.reached (meet v.expected v.height x.kind v.reached)
one_step x v = meet_fits (bars_fit v) v.expected v.height x.kind v.reached (left_fits (most v.expected v.height) (bars v.expected)) (omega arith)

-- what stands behind two further labels stays as it is
still : (us : Words) (v : Count) (l k : Label) (ls : List Label) → v.reached.labels ≡ l ∷ k ∷ ls → (ns : List Label) × ((count us v).reached.labels ≡ ns ++ ls) × (length ns ≡ length us + 2)
still [] v l k ls e = (l ∷ k ∷ [], e, omega arith)
still (x ∷ us) v l k ls e = go (λ m i ks f. still us next m i ks f) (moves_near (one_step x v).moves) e refl
  where
    next : Count
    next = take x (meet v.expected v.height x.kind v.reached)

    go : ((m i : Label) (ks : List Label) → next.reached.labels ≡ m ∷ i ∷ ks → (ns : List Label) × ((count us next).reached.labels ≡ ns ++ ks) × (length ns ≡ length us + 2))
        → {b c : ℕ} {os ms : List Label} → Near b c os ms → os ≡ l ∷ k ∷ ls → ms ≡ (meet v.expected v.height x.kind v.reached).reached.labels → (ns : List Label) × ((count us next).reached.labels ≡ ns ++ ls) × (length ns ≡ length (x ∷ us) + 2)
    go t near_none f g = cc
    go t (near_one l1 m a b1 c1) f g = cc
    go t (near_more l1 m k1 j ls1 a b1 c1 a2 b2 c2) f g =
        let q : ls1 ≡ ls = cc in
        let i = t (record { inside = (meet v.expected v.height x.kind v.reached).reached.begun; ends = 0 }) m (j ∷ ls) (ap (λ z. record { inside = (meet v.expected v.height x.kind v.reached).reached.begun; ends = 0 } ∷ z) (sym g ∙ ap (λ z. m ∷ j ∷ z) q)) in
        (i.0 ++ j ∷ [], i.1 ∙ sym (append_assoc i.0 (j ∷ []) ls), length-append i.0 (j ∷ []) ∙ omega (arith, i.2))

-- of what stands behind one further label the first may be higher
first_near : (us : Words) (v : Count) (l : Label) (ls : List Label) (b : ℕ) → bars v.expected ≤ b → v.reached.labels ≡ l ∷ ls → (ns ms : List Label) × ((count us v).reached.labels ≡ ns ++ ms) × (length ns ≡ length us + 1) × Near b b ls ms
first_near [] v l ls b f e = (l ∷ [], ls, e, omega arith, near_same ls)
first_near (x ∷ us) v l ls b f e = go (moves_near (one_step x v).moves) e refl (omega arith)
  where
    next : Count
    next = take x (meet v.expected v.height x.kind v.reached)

    new : Label
    new = record { inside = (meet v.expected v.height x.kind v.reached).reached.begun; ends = 0 }

    wider : (x y c : ℕ) → c ≤ b → y ≤ max x c → y ≤ max x b
    wider x y c d g = grind arith

    front : (j : Label) (ks : List Label) (k : Label) → j.inside ≡ k.inside → k.ends ≤ j.ends → j.ends ≤ max k.ends b → Near b b (k ∷ ks) (j ∷ ks)
    front j [] k a p q = near_one k j a p q
    front j (i ∷ ks) k a p q = near_more k j i i ks a p q refl (omega arith) (same_below i.ends b)

    go : {c d : ℕ} {os ms : List Label} → Near c d os ms → os ≡ l ∷ ls → ms ≡ (meet v.expected v.height x.kind v.reached).reached.labels → d ≤ bars v.expected
        → (ns ms : List Label) × ((count us next).reached.labels ≡ ns ++ ms) × (length ns ≡ length (x ∷ us) + 1) × Near b b ls ms
    go near_none g i t = cc
    go (near_one l1 m a b1 c1) g i t =
        let q : [] ≡ ls = cc in
        let z = (count us next).reached.labels in
        (z, [], sym (append-nil z), only us next new m (ap (λ y. new ∷ y) (sym i)) ∙ omega arith, subst (λ y. Near b b y []) q near_none)
      where
        only : (us : Words) (w : Count) (p o : Label) → w.reached.labels ≡ p ∷ o ∷ [] → length (count us w).reached.labels ≡ length us + 2
        only us w p o e = let s = still us w p o [] e in ap (λ y. length y) (s.1 ∙ append-nil s.0) ∙ s.2
    go {d = d} (near_more l1 m k1 j ls1 a b1 c1 a2 b2 c2) g i t =
        let q : ls ≡ k1 ∷ ls1 = cc in
        let s = still us next new m (j ∷ ls1) (ap (λ y. new ∷ y) (sym i)) in
        (s.0, j ∷ ls1, s.1, s.2 ∙ omega arith, subst (λ y. Near b b y (j ∷ ls1)) (sym q) (front j ls1 k1 a2 b2 (wider k1.ends j.ends d (omega (arith, t, f)) c2)))

-- of all labels the last two may be higher
pub all_near : (us : Words) (v : Count) → (ns ms : List Label) × ((count us v).reached.labels ≡ ns ++ ms) × (length ns ≡ length us) × Near (rise v.expected v.height) (rise v.expected v.height) v.reached.labels ms
all_near [] v = ([], v.reached.labels, refl, refl, near_same v.reached.labels)
all_near (x ∷ us) v =
    let u = one_step x v in
    let w = first_near us (take x (meet v.expected v.height x.kind v.reached)) (record { inside = (meet v.expected v.height x.kind v.reached).reached.begun; ends = 0 }) (meet v.expected v.height x.kind v.reached).reached.labels (rise v.expected v.height) u.within refl in
    (w.0, w.1, w.2, w.3 ∙ omega arith, near_on (widen (bars_fit v) (moves_near u.moves)) w.4)
  where
    wider : (x y b c : ℕ) → c ≤ b → y ≤ max x c → y ≤ max x b
    wider x y b c e g = grind arith

    widen : {b c : ℕ} {ls ms : List Label} → c ≤ b → Near b c ls ms → Near b b ls ms
    widen e near_none = near_none
    widen e (near_one l m a f g) = near_one l m a f g
    widen {b = b} {c = c} e (near_more l m k j ls a f g a1 f1 g1) = near_more l m k j ls a f g a1 f1 (wider k.ends j.ends b c e g1)

pub count_length : (ts : Words) (v : Count) → length (count ts v).reached.labels ≡ length ts + length v.reached.labels
count_length ts v = let w = all_near ts v in ap (λ z. length z) w.2 ∙ length-append w.0 w.1 ∙ omega (arith, w.3, near_length w.4)

-- ---- limits

not_over : (m : Limits) (l k : Label) (b : ℕ) → k.inside ≡ l.inside → k.ends ≤ max l.ends b → b ≤ m.height → (IsOver m l → ⊥) → IsOver m k → ⊥
not_over m l k b a f g h (inl x) = h (inl (omega (arith, a, x)))
not_over m l k b a f g h (inr x) = h (inr (higher_still m.height l.ends k.ends b f g x))
  where
    higher_still : (m x y b : ℕ) → y ≤ max x b → b ≤ m → m < y → m < x
    higher_still m x y b f g h = grind arith

still_over : (m : Limits) (l k : Label) → k.inside ≡ l.inside → l.ends ≤ k.ends → IsOver m l → IsOver m k
still_over m l k a f (inl x) = inl (omega (arith, a, x))
still_over m l k a f (inr x) = inr (omega (arith, f, x))

-- ---- modules

module _ {kind : ModuleKind} where
  pub labels_along : {b c : Block} (ts us : Words) → ts ≡ us → (d : SpellsChunk kind b ts) (f : SpellsChunk kind c us) → labels d ≡ labels f
  labels_along ts us e d f = ap (λ z. reverse z.reached.labels) (sym (chunk_counts kind d) ∙ ap (λ z. count z start) e ∙ chunk_counts kind f)

  -- Each word has one label.
  pub one_label : {b c : Block} {ts : Words} (d : SpellsChunk kind b ts) (f : SpellsChunk kind c ts) → labels d ≡ labels f
  one_label {ts = ts} d f = labels_along ts ts refl d f

  -- what is counted behind the words that begin a module, and the labels that they have in it
  pub known : {b : Block} (ts us : Words) (d : SpellsChunk kind b (ts ++ us)) (n : ℕ) → n < length ts
      → ((get_or (labels d) n plain).inside ≡ (get_or (counted ts) n plain).inside) × ((get_or (counted ts) n plain).ends ≤ (get_or (labels d) n plain).ends)
      × ((get_or (labels d) n plain).ends ≤ max (get_or (counted ts) n plain).ends (may_rise ts)) × (n + 2 < length ts → get_or (labels d) n plain ≡ get_or (counted ts) n plain)
  known {b = b} ts us d n l =
      let v = count ts start in
      let w = all_near us v in
      let i : length v.reached.labels ≡ length ts = count_length ts start ∙ omega arith in
      let j : length w.1 ≡ length ts = near_length w.4 ∙ i in
      let e : labels d ≡ reverse w.1 ++ reverse w.0 = ap (λ z. reverse z.reached.labels) (sym (chunk_counts kind d) ∙ count_append ts us start) ∙ ap reverse w.2 ∙ reverse-append w.0 w.1 in
      let p : get_or (labels d) n plain ≡ get_or w.1 (length ts - 1 - n) plain =
      ap (λ z. get_or z n plain) e ∙ get_or_append_left (reverse w.1) (reverse w.0) plain n (omega (arith, j, l, length-reverse w.1)) ∙ get_or-reverse w.1 n plain (omega (arith, j, l)) ∙ ap (λ z. get_or w.1 (z - 1 - n) plain) j in
      let q : get_or (counted ts) n plain ≡ get_or v.reached.labels (length ts - 1 - n) plain = get_or-reverse v.reached.labels n plain (omega (arith, i, l)) ∙ ap (λ z. get_or v.reached.labels (z - 1 - n) plain) i in
      let a = near_at w.4 (omega arith) (length ts - 1 - n) in (
        ap (λ z. z.inside) p ∙ a.0 ∙ ap (λ z. z.inside) (sym q),
        rw (p, q) a.1,
        rw (p, q) a.2,
        λ t. p ∙ near_still w.4 (length ts - 1 - n) (omega (arith, t)) ∙ sym q,
      )

  -- How many constructs a word is inside of, no word behind it changes.
  pub nesting_stays : {b c : Block} (ts more other : Words) (d : SpellsChunk kind b (ts ++ more)) (f : SpellsChunk kind c (ts ++ other)) (n : ℕ) → n < length ts → (get_or (labels d) n plain).inside ≡ (get_or (labels f) n plain).inside
  nesting_stays ts more other d f n l = (known ts more d n l).0 ∙ sym (known ts other f n l).0

  -- A word's label is settled by the two words behind it.
  pub label_stays : {b c : Block} (ts more other : Words) (d : SpellsChunk kind b (ts ++ more)) (f : SpellsChunk kind c (ts ++ other)) (n : ℕ) → n + 2 < length ts → get_or (labels d) n plain ≡ get_or (labels f) n plain
  label_stays ts more other d f n l = (known ts more d n (omega (arith, l))).3 l ∙ sym ((known ts other f n (omega (arith, l))).3 l)

  -- ---- the first word that is too deep

  pub within_none : {m : Limits} {all ts : Words} → Readable kind all ts → IsWithin m ts → (rest : Words) → TooDeepAt m kind all rest → ⊥
  within_none {m = m} {all = all} {ts = ts} r w rest x =
      let o : IsOverIn m kind ts (length x.1) = subst (λ z. IsOverIn m kind z (length x.1)) (one_readable x.2 r) x.4 in
      let k = known ts o.1 o.3 (length x.1) o.0 in
      not_over m (get_or (counted ts) (length x.1) plain) (get_or (labels o.3) (length x.1) plain) (may_rise ts) k.0 k.2 w.settled (w.none (length x.1) o.0) o.4

  -- what begins a part of the words that can be read is part of them
  reads_on : {all v : Words} (ts us : Words) → Readable kind all v → all ≡ ts ++ us → IsViable kind ts → (m : Words) × (v ≡ ts ++ m)
  reads_on ts us (Readable.whole d) e x = (us, e)
  reads_on {all = all} ts us (Readable.before_fault {front = front} rest e1 v k) e x = go (shorter_or_not (length us) (length rest))
    where
      go : (length us < length rest) ⊎ (length rest ≤ length us) → (m : Words) × (front ≡ ts ++ m)
      go (inl l) = absurd (not_earlier all ts us front rest e x e1 k l)
      go (inr l) = cuts ts us front rest (sym e ∙ e1) l

  pub first_over : {m : Limits} {all : Words} (ts us : Words) → all ≡ ts ++ us → IsViable kind ts → (front rest : Words) → all ≡ front ++ rest → IsFirstOver m ts (length front) → TooDeepAt m kind all rest
  first_over {m = m} {all = all} ts us e v front rest f o = go (tree_or_fault kind all)
    where
      found : (read : Words) → Readable kind all read → IsViable kind read → TooDeepAt m kind all rest
      found read r w =
          let j = reads_on ts us r e v in
          let along : (more : Words) (b : Block) (d : SpellsChunk kind b (read ++ more)) → (y : Words) × (g : SpellsChunk kind b (ts ++ y)) × (labels d ≡ labels g) =
          λ more b d. let i : read ++ more ≡ ts ++ (j.0 ++ more) = ap (λ z. z ++ more) j.1 ∙ append_assoc ts j.0 more in let g = subst (SpellsChunk kind b) i d in (j.0 ++ more, g, labels_along (read ++ more) (ts ++ (j.0 ++ more)) i d g) in
          let k = along w.0 w.1 w.2 in
          let g = known ts k.0 k.1 (length front) o.there in (
            read,
            front,
            r,
            f,
            (omega (arith, o.there, ap (λ z. length z) j.1, length-append ts j.0), w.0, w.1, w.2, subst (λ z. IsOver m (get_or z (length front) plain)) (sym k.2) (still_over m (get_or (counted ts) (length front) plain) (get_or (labels k.1) (length front) plain) g.0 g.1 o.over)),
            λ n i y. let c = along y.1 y.2 y.3 in earlier n i c.0 y.2 c.1 (subst (λ z. IsOver m (get_or z n plain)) c.2 y.4),
          )
        where
          earlier : (n : ℕ) → n < length front → (y : Words) (b : Block) (d : SpellsChunk kind b (ts ++ y)) → IsOver m (get_or (labels d) n plain) → ⊥
          earlier n i y b d x = settle o.settled
            where
              there : n < length ts
              there = omega (arith, i, o.there)

              settle : (length front + 1 < length ts) ⊎ (may_rise ts ≤ m.height) → ⊥
              settle (inl l) = o.none n i (subst (IsOver m) ((known ts y d n there).3 (omega (arith, i, l))) x)
              settle (inr l) = let k = known ts y d n there in not_over m (get_or (counted ts) n plain) (get_or (labels d) n plain) (may_rise ts) k.0 k.2 l (o.none n i) x

      go : ((b : Block) × SpellsChunk kind b all) ⊎ ((left : Words) × FaultAt kind all left) → TooDeepAt m kind all rest
      go (inl y) = found all (Readable.whole y.1) ([], y.0, subst (SpellsChunk kind y.0) (sym (append-nil all)) y.1)
      go (inr y) = found y.1.0 (Readable.before_fault y.0 y.1.1 y.1.2 y.1.3) y.1.2
