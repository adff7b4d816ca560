-- Comparisons one after the other: how their answers combine.
use Rattle.std.proofs.Common.{◌≡◌, ℕ, zero, suc, ◌+◌, ◌<◌, ◌≤◌, Bool, true, false, ◌&&◌, ◌||◌, List, [], ◌∷◌, ◌++◌, refl, sym, ap, ◌∙◌, subst, length, get_or, take, append_assoc, arith}
use Rattle.std.specs.Prelude.{Result, Ok, Err, IsErr}
use Rattle.std.specs.List.{list_any, list_all}
use Rattle.std.proofs.lemmas.Bool.{and_from, and_right, and_left, false≢true}
use Rattle.std.proofs.lemmas.List.{take_all}
use Rattle.std.proofs.lemmas.List.Folds.{list_all_more, list_any_more}
use Rattle.tl_base.specs.declared.memory.NoMemory.{NoMemory}
use Rattle.tl_types.specs.Types.{Bodies}
use Rattle.tl_types.specs.Below.{Test, below}
use Rattle.tl_types.proofs.Mono.{Implies, below_falls}
use Rattle.tl_types.proofs.Bools.{or_left, or_right, or_implies, any_implies}
use Rattle.subtyping.specs.declared.pairs.Pair.{Pair}
use Rattle.subtyping.specs.Pairs.{Compared}

abbrev pub Claim : Type 0
Claim = Test → Bool

abbrev pub Answer : Type 0
Answer = Result Bool NoMemory

abbrev pub IsMono : Claim → Type 0
IsMono f = (A B : Test) → Implies A B → f A ≡ true → f B ≡ true

append_nil : {X : Type 0} (xs : List X) → xs ++ [] ≡ xs
append_nil [] = refl
append_nil (x ∷ xs) = ap (λ r. x ∷ r) (append_nil xs)

not_both : (a : Bool) → (a ≡ true → ⊥) → a ≡ false
not_both true no_true = absurd (no_true refl)
not_both false no_true = refl

neither : (a b : Bool) → a ≡ false → b ≡ false → (a || b) ≡ false
neither true b e f = e
neither false b e f = f

all_less_one : (a b c : Bool) → (b ≡ false → c ≡ false) → (a && b) ≡ false → (a && c) ≡ false
all_less_one true b c step e = step e
all_less_one false b c step e = e

-- what the first elements settle
all_less : {X : Type 0} (p : X → Bool) (ys : List X) (i : ℕ) → list_all p (take i ys) ≡ false → list_all p ys ≡ false
all_less p [] zero e = e
all_less p [] (suc i) e = e
all_less p (y ∷ ys) zero e = absurd (false≢true (sym e))
all_less p (y ∷ ys) (suc i) e = all_less_one (p y) (list_all p (take i ys)) (list_all p ys) (all_less p ys i) e

any_less : {X : Type 0} (p : X → Bool) (ys : List X) (i : ℕ) → list_any p (take i ys) ≡ true → list_any p ys ≡ true
any_less p [] zero e = e
any_less p [] (suc i) e = e
any_less p (y ∷ ys) zero e = absurd (false≢true e)
any_less p (y ∷ ys) (suc i) e = or_implies (p y) (list_any p (take i ys)) (p y) (list_any p ys) (λ e. e) (any_less p ys i) e

module _ (loose : Bool) (bodies : Bodies) where
  falls_by : (m n : ℕ) → Implies (below loose bodies (m + n)) (below loose bodies n)
  falls_by zero n s t e = let same : zero + n ≡ n = omega arith in subst (λ k. below loose bodies k s t ≡ true) same e
  falls_by (suc m) n s t e = let same : suc m + n ≡ suc (m + n) = omega arith in falls_by m n s t (below_falls loose bodies (m + n) s t (subst (λ k. below loose bodies k s t ≡ true) same e))

  deeper : (f : Claim) → IsMono f → (m n : ℕ) → f (below loose bodies n) ≡ false → f (below loose bodies (m + n)) ≡ false
  deeper f mono m n e = not_both (f (below loose bodies (m + n))) (λ holds. false≢true (sym e ∙ mono (below loose bodies (m + n)) (below loose bodies n) (falls_by m n) holds))

  abbrev After : List Pair → List Pair → Claim → Answer → Type 0
  After = Compared loose bodies

  joined : (a b d : List Pair) → (more : List Pair) × (b ≡ a ++ more) → (more : List Pair) × (d ≡ b ++ more) → (more : List Pair) × (d ≡ a ++ more)
  joined a b d one two = (one.0 ++ two.0, two.1 ∙ (ap (λ r. r ++ two.0) one.1 ∙ append_assoc a one.0 two.0))

  pub retarget : (f g : Claim) (x : Answer) (a b : List Pair) → After a b f x → ((v : Bool) → x ≡ Ok v → (R : Test) → f R ≡ v → g R ≡ v) → After a b g x
  retarget f g (Ok v) a b c to = record {
    added = c.added;
    grows = c.grows;
    sound = c.sound;
    verdict = λ s. let h = c.verdict s in record {
      yes = λ e R trusts. to v refl R (h.yes e R trusts ∙ sym e) ∙ e;
      no = λ e. let n = h.no e in (n.0, to v refl (below loose bodies n.0) (n.1 ∙ sym e) ∙ e);
    };
  }
  retarget f g (Err e) a b c to = record { added = c.added; grows = c.grows; sound = c.sound; verdict = λ s. tt }

  pub same_claim : (f g : Claim) (x : Answer) (a b : List Pair) → ((R : Test) → f R ≡ g R) → After a b f x → After a b g x
  same_claim f g x a b same c = retarget f g x a b c (λ v is R e. sym (same R) ∙ e)

  -- what is known of the answer
  pub at_ok : (f : Claim) (x : Answer) (v b : Bool) (a d : List Pair) → After a d f x → x ≡ Ok v → v ≡ b → After a d f (Ok b)
  at_ok f x v b a d c is value = subst (After a d f) (is ∙ ap Ok value) c

  -- the answer is known whatever was compared before
  pub settled : (f g : Claim) (x : Answer) (v : Bool) (a b : List Pair) → After a b f x → ((R : Test) → g R ≡ v) → After a b g (Ok v)
  settled f g x v a b c same = record {
    added = c.added;
    grows = c.grows;
    sound = c.sound;
    verdict = λ s. record {
      yes = λ e R trusts. same R ∙ e;
      no = λ e. (0, same (below loose bodies 0) ∙ e);
    };
  }

  pub and_then : (f g : Claim) (y : Answer) (a b d : List Pair) → After a b f (Ok true) → After b d g y → After a d (λ R. f R && g R) y
  and_then f g (Ok v) a b d one two = record {
    added = joined a b d one.added two.added;
    grows = λ R t. one.grows R (two.grows R t);
    sound = λ s. two.sound (one.sound s);
    verdict = λ s. let h = one.verdict s in let k = two.verdict (one.sound s) in record {
      yes = λ e R trusts. and_from (f R) (g R) (h.yes refl R (two.grows R trusts)) (k.yes e R trusts);
      no = λ e. let n = k.no e in (n.0, and_right (f (below loose bodies n.0)) (g (below loose bodies n.0)) n.1);
    };
  }
  and_then f g (Err e) a b d one two = record { added = joined a b d one.added two.added; grows = λ R t. one.grows R (two.grows R t); sound = λ s. two.sound (one.sound s); verdict = λ s. tt }

  pub and_stop : (f g : Claim) (a b : List Pair) → After a b f (Ok false) → After a b (λ R. f R && g R) (Ok false)
  and_stop f g a b one = retarget f (λ R. f R && g R) (Ok false) a b one (λ v is R e. let no : v ≡ false = cc in and_left (f R) (g R) (e ∙ no) ∙ sym no)

  pub or_else : (f g : Claim) → IsMono f → IsMono g → (y : Answer) (a b d : List Pair) → After a b f (Ok false) → After b d g y → After a d (λ R. f R || g R) y
  or_else f g mono_f mono_g (Ok v) a b d one two = record {
    added = joined a b d one.added two.added;
    grows = λ R t. one.grows R (two.grows R t);
    sound = λ s. two.sound (one.sound s);
    verdict = λ s. let h = one.verdict s in let k = two.verdict (one.sound s) in record {
      yes = λ e R trusts. or_right (f R) (g R) (k.yes e R trusts);
      no = λ e.
          let m = h.no refl in
          let n = k.no e in
          let turned : m.0 + n.0 ≡ n.0 + m.0 = omega arith in (
            m.0 + n.0,
            neither (f (below loose bodies (m.0 + n.0))) (g (below loose bodies (m.0 + n.0)))
                (subst (λ i. f (below loose bodies i) ≡ false) (sym turned) (deeper f mono_f n.0 m.0 m.1)) (deeper g mono_g m.0 n.0 n.1),
          );
    };
  }
  or_else f g mono_f mono_g (Err e) a b d one two = record { added = joined a b d one.added two.added; grows = λ R t. one.grows R (two.grows R t); sound = λ s. two.sound (one.sound s); verdict = λ s. tt }

  pub or_hit : (f g : Claim) (a b : List Pair) → After a b f (Ok true) → After a b (λ R. f R || g R) (Ok true)
  or_hit f g a b one = retarget f (λ R. f R || g R) (Ok true) a b one (λ v is R e. let yes : v ≡ true = cc in or_left (f R) (g R) (e ∙ yes) ∙ sym yes)

  -- a comparison that was cut off by want of memory
  pub failed : (f g : Claim) (x y : Answer) (a b : List Pair) → After a b f x → IsErr y → After a b g y
  failed f g x (Ok v) a b c e = absurd (false≢true e)
  failed f g x (Err v) a b c e = record { added = c.added; grows = c.grows; sound = c.sound; verdict = λ s. tt }

  pub failed_after : (f g h : Claim) (x y z : Answer) (a b d : List Pair) → After a b f x → After b d g y → IsErr z → After a d h z
  failed_after f g h x y (Ok v) a b d one two e = absurd (false≢true e)
  failed_after f g h x y (Err v) a b d one two e = record { added = joined a b d one.added two.added; grows = λ R t. one.grows R (two.grows R t); sound = λ s. two.sound (one.sound s); verdict = λ s. tt }

  -- nothing was assumed
  pub start : (f : Claim) (b : Bool) (a : List Pair) → ((R : Test) → f R ≡ b) → After a a f (Ok b)
  start f b a same = record {
    added = ([], sym (append_nil a));
    grows = λ R t. t;
    sound = λ s. s;
    verdict = λ s. record {
      yes = λ e R trusts. same R ∙ e;
      no = λ e. (0, same (below loose bodies 0) ∙ e);
    };
  }

  -- loops: each element, or some element
  module _ {X : Type 0} (claims : Test → X → Bool) (xs : List X) where
    abbrev so_far : ℕ → Claim
    so_far i R = list_all (claims R) (take i xs)

    abbrev tried : ℕ → Claim
    tried i R = list_any (claims R) (take i xs)

    pub all_step : (i : ℕ) (x : X) (y : Answer) (a b d : List Pair) → i < length xs → x ≡ get_or xs i x → After a b (so_far i) (Ok true) → After b d (λ R. claims R x) y → After a d (so_far (i + 1)) y
    all_step i x y a b d within is one two = same_claim (λ R. so_far i R && claims R x) (so_far (i + 1)) y a d (λ R. ap (λ z. so_far i R && claims R z) is ∙ sym (list_all_more (claims R) xs i x within)) (and_then (so_far i) (λ R. claims R x) y a b d one two)

    pub all_stop : (i : ℕ) (a b : List Pair) → After a b (so_far i) (Ok false) → After a b (λ R. list_all (claims R) xs) (Ok false)
    all_stop i a b one = retarget (so_far i) (λ R. list_all (claims R) xs) (Ok false) a b one (λ v is R e. let no : v ≡ false = cc in all_less (claims R) xs i (e ∙ no) ∙ sym no)

    pub all_done : (n : ℕ) (x : Answer) (a b : List Pair) → length xs ≤ n → After a b (so_far n) x → After a b (λ R. list_all (claims R) xs) x
    all_done n x a b past one = same_claim (so_far n) (λ R. list_all (claims R) xs) x a b (λ R. ap (list_all (claims R)) (take_all n xs past)) one

    any_mono : ((x : X) → IsMono (λ R. claims R x)) → (ys : List X) → IsMono (λ R. list_any (claims R) ys)
    any_mono mono ys A B to = any_implies (claims A) (claims B) (λ x. mono x A B to) ys

    pub any_step : ((x : X) → IsMono (λ R. claims R x)) → (i : ℕ) (x : X) (y : Answer) (a b d : List Pair) → i < length xs → x ≡ get_or xs i x → After a b (tried i) (Ok false) → After b d (λ R. claims R x) y → After a d (tried (i + 1)) y
    any_step mono i x y a b d within is one two = same_claim (λ R. tried i R || claims R x) (tried (i + 1)) y a d (λ R. ap (λ z. tried i R || claims R z) is ∙ sym (list_any_more (claims R) xs i x within)) (or_else (tried i) (λ R. claims R x) (any_mono mono (take i xs)) (mono x) y a b d one two)

    pub any_hit : (i : ℕ) (a b : List Pair) → After a b (tried i) (Ok true) → After a b (λ R. list_any (claims R) xs) (Ok true)
    any_hit i a b one = retarget (tried i) (λ R. list_any (claims R) xs) (Ok true) a b one (λ v is R e. let yes : v ≡ true = cc in any_less (claims R) xs i (e ∙ yes) ∙ sym yes)

    pub any_done : (n : ℕ) (x : Answer) (a b : List Pair) → length xs ≤ n → After a b (tried n) x → After a b (λ R. list_any (claims R) xs) x
    any_done n x a b past one = same_claim (tried n) (λ R. list_any (claims R) xs) x a b (λ R. ap (list_any (claims R)) (take_all n xs past)) one
