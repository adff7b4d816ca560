-- Sweeps over the pairs: what is taken back fails, and what stays when nothing was taken back holds to every depth.
use Rattle.std.proofs.Common.{◌≡◌, ℕ, zero, suc, ◌+◌, ◌<◌, ◌≤◌, Bool, true, false, List, [], ◌∷◌, ◌++◌, refl, sym, ap, ◌∙◌, subst, length, get_or, set, arith, length-append, inl, inr}
use Rattle.std.specs.Prelude.{Ok, Err, Some, slice_get}
use Rattle.std.proofs.lemmas.Bool.{false≢true, both_ways, cases_lt}
use Rattle.std.proofs.lemmas.Option.{get_or_from_slice_get, slice_get-get_or}
use Rattle.std.proofs.lemmas.List.Elements.{All-set}
use Rattle.std.proofs.Math.ListN.{length-set}
use Rattle.tl_base.specs.declared.memory.NoMemory.{NoMemory}
use Rattle.tl_types.specs.declared.types.Ty.{Ty}
use Rattle.tl_types.specs.Types.{Bodies}
use Rattle.tl_types.specs.Below.{Test, step, below, IsBelow}
use Rattle.subtyping.specs.declared.pairs.Pair.{Pair}
use Rattle.subtyping.specs.Pairs.{side_ty, holds, Trusts, IsSound, Verdict, Compared, Follows, IsClosedTo, Kept, Settled}
use Rattle.subtyping.proofs.Steps.{Answer}

append_nil : {X : Type 0} (xs : List X) → xs ++ [] ≡ xs
append_nil [] = refl
append_nil (x ∷ xs) = ap (λ r. x ∷ r) (append_nil xs)

longer : (old new more : List Pair) → new ≡ old ++ more → length old ≤ length new
longer old new more is = omega (arith, ap length is, length-append old more)

get_kept : (old more : List Pair) (k : ℕ) (p : Pair) → slice_get old k ≡ Some p → slice_get (old ++ more) k ≡ Some p
get_kept [] more k p is = absurd (cc)
get_kept (x ∷ old) more zero p is = is
get_kept (x ∷ old) more (suc k) p is = get_kept old more k p is

get_grown : (old new more : List Pair) (k : ℕ) (p : Pair) → new ≡ old ++ more → slice_get old k ≡ Some p → slice_get new k ≡ Some p
get_grown old new more k p grown is = ap (λ xs. slice_get xs k) grown ∙ get_kept old more k p is

get_left : (old more : List Pair) (k : ℕ) (p : Pair) → k < length old → slice_get (old ++ more) k ≡ Some p → slice_get old k ≡ Some p
get_left [] more k p within is = absurd (omega (arith, within))
get_left (x ∷ old) more zero p within is = is
get_left (x ∷ old) more (suc k) p within is = get_left old more k p (omega (arith, within)) is

get_back : (old new more : List Pair) (k : ℕ) (p : Pair) → new ≡ old ++ more → k < length old → slice_get new k ≡ Some p → slice_get old k ≡ Some p
get_back old new more k p grown within is = get_left old more k p within (ap (λ xs. slice_get xs k) (sym grown) ∙ is)

module _ (loose : Bool) (bodies : Bodies) where
  abbrev claim_of : Pair → Test → Bool
  claim_of p R = step loose bodies R (side_ty p.left) (side_ty p.right)

  -- the pair was taken back before
  pub settled_dead : (old : List Pair) (k : ℕ) (p : Pair) → slice_get old k ≡ Some p → p.alive ≡ false → IsSound loose bodies old → Settled loose bodies old old k (Ok false)
  settled_dead old k p is dead s = record {
    sound = s;
    longer = omega arith;
    added = λ e. ([], sym (append_nil old));
    grows = λ e R t. t;
    closed = λ e q here alive. let same : p ≡ q = cc in absurd (both_ways q.alive (ap (λ r. r.alive) (sym same) ∙ dead) alive);
  }

  -- its comparison holds
  pub settled_kept : (old new : List Pair) (k : ℕ) (p : Pair) → slice_get old k ≡ Some p → IsSound loose bodies old → Compared loose bodies old new (claim_of p) (Ok true) → Settled loose bodies old new k (Ok false)
  settled_kept old new k p is s c = record {
    sound = c.sound s;
    longer = longer old new c.added.0 c.added.1;
    added = λ e. c.added;
    grows = λ e. c.grows;
    closed = λ e q here alive. let same : p ≡ q = cc in subst (Follows loose bodies new) same ((c.verdict s).yes refl);
  }

  -- its comparison fails, and it is taken back
  pub settled_taken : (old new : List Pair) (k : ℕ) (p y : Pair) → slice_get old k ≡ Some p → y ≡ get_or new k y → IsSound loose bodies old → Compared loose bodies old new (claim_of p) (Ok false) → Settled loose bodies old (set new k (record y { alive = false })) k (Ok true)
  settled_taken old new k p y is at s c =
      let same : p ≡ y = sym (at ∙ get_or_from_slice_get new k p y (get_grown old new c.added.0 k p c.added.1 is)) in
      let n = (c.verdict s).no refl in
      record {
        sound = All-set (λ q. q.alive ≡ false → (n : ℕ) × (holds (below loose bodies n) q ≡ false)) new k (record y { alive = false }) (λ dead. (suc n.0, subst (λ q. step loose bodies (below loose bodies n.0) (side_ty q.left) (side_ty q.right) ≡ false) same n.1)) (c.sound s);
        longer = omega (arith, longer old new c.added.0 c.added.1, length-set new k (record y { alive = false }));
        added = λ e. absurd (cc);
        grows = λ e. absurd (cc);
        closed = λ e. absurd (cc);
      }

  -- want of memory
  pub settled_failed : (f : Test → Bool) (x : Answer) (e : NoMemory) (old new : List Pair) (k : ℕ) → IsSound loose bodies old → Compared loose bodies old new f x → Settled loose bodies old new k (Err e)
  settled_failed f x e old new k s c = record {
    sound = c.sound s;
    longer = longer old new c.added.0 c.added.1;
    added = λ e. absurd (cc);
    grows = λ e. absurd (cc);
    closed = λ e. absurd (cc);
  }

  -- a sweep

  pub kept_start : (pairs : List Pair) → Kept loose bodies pairs pairs 0
  kept_start pairs = record { within = omega arith; grows = λ R t. t; closed = λ k before. absurd (omega (arith, before)) }

  follows_grown : (old new : List Pair) → ((R : Test) → Trusts R new → Trusts R old) → (p : Pair) → Follows loose bodies old p → Follows loose bodies new p
  follows_grown old new grows p follows R trusts = follows R (grows R trusts)

  closed_next : (old new : List Pair) (k : ℕ) → k < length old → IsClosedTo loose bodies old k → Settled loose bodies old new k (Ok false) → IsClosedTo loose bodies new (k + 1)
  closed_next old new k within closed s j before p is alive =
      let more = s.added refl in
      elim (cases_lt j k) as (λ c. Follows loose bodies new p) [
        | inl earlier ↦ follows_grown old new (s.grows refl) p (closed j earlier p (get_back old new more.0 j p more.1 (omega (arith, earlier, within)) is) alive)
        | inr here ↦ let same : j ≡ k = omega (arith, here, before) in s.closed refl p (get_back old new more.0 k p more.1 within (ap (slice_get new) (sym same) ∙ is)) alive
      ]

  pub kept_next : (start old new : List Pair) (k : ℕ) → k < length old → Kept loose bodies start old k → Settled loose bodies old new k (Ok false) → Kept loose bodies start new (k + 1)
  kept_next start old new k within kept s = record {
    within = omega (arith, within, s.longer);
    grows = λ R t. kept.grows R (s.grows refl R t);
    closed = closed_next old new k within kept.closed s;
  }

  pub kept_all : (start new : List Pair) (k : ℕ) → length new ≤ k → Kept loose bodies start new k → Kept loose bodies start new (length new)
  kept_all start new k past kept = record {
    within = omega arith;
    grows = kept.grows;
    closed = λ j before. kept.closed j (omega (arith, before, past));
  }

  -- the end

  trusts_all : (pairs : List Pair) → IsClosedTo loose bodies pairs (length pairs) → (n : ℕ) → Trusts (below loose bodies n) pairs
  trusts_all pairs closed zero k d within alive = refl
  trusts_all pairs closed (suc n) k d within alive = closed k within (get_or pairs k d) (slice_get-get_or pairs k d within) alive (below loose bodies n) (trusts_all pairs closed n)

  below_at : (a b : Ty) (pairs mid : List Pair) → Kept loose bodies mid pairs (length pairs) → Verdict loose bodies mid (λ R. step loose bodies R a b) true → (n : ℕ) → below loose bodies n a b ≡ true
  below_at a b pairs mid kept verdict zero = refl
  below_at a b pairs mid kept verdict (suc n) = verdict.yes refl (below loose bodies n) (kept.grows (below loose bodies n) (trusts_all pairs kept.closed n))

  pub below_all : (a b : Ty) (pairs mid : List Pair) → Kept loose bodies mid pairs (length pairs) → Verdict loose bodies mid (λ R. step loose bodies R a b) true → IsBelow loose bodies a b
  below_all a b pairs mid kept verdict = record { to = below_at a b pairs mid kept verdict }

  pub not_below : (a b : Ty) (pairs : List Pair) → Verdict loose bodies pairs (λ R. step loose bodies R a b) false → IsBelow loose bodies a b → ⊥
  not_below a b pairs verdict e = let n = verdict.no refl in false≢true (sym n.1 ∙ e.to (suc n.0))

  pub sound_start : (pairs : List Pair) → length pairs ≡ 0 → IsSound loose bodies pairs
  sound_start pairs none k d within = absurd (omega (arith, none, within))
