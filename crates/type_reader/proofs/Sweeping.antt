-- What a sweep over the names has found so far.
use Rattle.std.proofs.Common.{◌≡◌, ℕ, zero, suc, ◌+◌, ◌<◌, Bool, true, false, List, length, ap, ◌∙◌, sym, subst, arith, ◌⊎◌, inl, inr}
use Rattle.std.specs.Prelude.{Some, None, slice_index_or}
use Rattle.std.proofs.Math.ListN.{length-set}
use Rattle.type_reader.specs.declared.names.TypeName.{TypeName}
use Rattle.type_reader.specs.Declarations.{Declaration}
use Rattle.type_reader.specs.Growing.{Table, untyped, entry_type, Grows, stays, gains, IsClosedBelow, Gained, Kept, Settles, Swept}
use Rattle.type_reader.proofs.Closing.{grown_untyped, grown_length}

pub last_or_before : (j i : ℕ) → j < i + 1 → (j < i) ⊎ (j ≡ i)
last_or_before j zero h = inr (omega arith)
last_or_before zero (suc i) h = inl (omega arith)
last_or_before (suc j) (suc i) h =
    let lt : j < i + 1 = omega arith in
    elim (last_or_before j i lt) [ inl a ↦ inl (omega arith) | inr b ↦ inr (ap (λ k. suc k) b) ]

module _ (known : List TypeName) (ds : List Declaration) where
  grows_by : (ts us vs : Table) (i n : ℕ) → Grows known ds n ts us → Gained known ds us vs i → Grows known ds (suc n) ts vs
  grows_by ts us vs i n g gained =
      let P : Table → Type 0 = λ t. Grows known ds (suc n) ts t in
      subst P (sym gained.written) (gains n ts us i gained.ty g gained.within gained.absent gained.found)

  grows_same : (ts us vs : Table) (n : ℕ) → Grows known ds n ts us → vs ≡ us → Grows known ds n ts vs
  grows_same ts us vs n g same = let P : Table → Type 0 = λ t. Grows known ds n ts t in subst P (sym same) g

  -- a name more has been looked at
  pub grows_one : (ts us vs : Table) (i : ℕ) (b : Bool) → (n : ℕ) × Grows known ds n ts us → Settles known ds us vs i b → (n : ℕ) × Grows known ds n ts vs
  grows_one ts us vs i true g settles = (suc g.0, grows_by ts us vs i g.0 g.1 settles)
  grows_one ts us vs i false g settles = (g.0, grows_same ts us vs g.0 g.1 settles.same)

  pub settled_length : (us vs : Table) (i : ℕ) (b : Bool) → Settles known ds us vs i b → length vs ≡ length us
  settled_length us vs i true settles = ap length settles.written ∙ length-set us i (Some settles.ty)
  settled_length us vs i false settles = ap length settles.same

  pub swept_gain : (ts us vs : Table) (i j : ℕ) (b : Bool) → Swept known ds ts us i b → Settles known ds us vs i true → Swept known ds ts vs j true
  swept_gain ts us vs i j true swept settles = (suc swept.0, omega arith, grows_by ts us vs i swept.0 swept.2 settles)
  swept_gain ts us vs i j false swept settles =
      let none : Grows known ds zero ts us = grows_same ts ts us zero (stays ts) swept.0 in
      (suc zero, omega arith, grows_by ts us vs i zero none settles)

  closed_next : (us vs : Table) (i : ℕ) → IsClosedBelow known ds us i → Kept known ds us vs i → (j : ℕ) → (j < i) ⊎ (j ≡ i) → slice_index_or us j None ≡ None → entry_type known ds us j ≡ None
  closed_next us vs i closed kept j (inl before) = closed j before
  closed_next us vs i closed kept j (inr here) =
      let P : ℕ → Type 0 = λ k. slice_index_or us k None ≡ None → entry_type known ds us k ≡ None in subst P (sym here) kept.closed

  pub swept_keep : (ts us vs : Table) (i : ℕ) (b : Bool) → Swept known ds ts us i b → Settles known ds us vs i false → Swept known ds ts vs (i + 1) b
  swept_keep ts us vs i true swept settles = (swept.0, swept.1, grows_same ts us vs swept.0 swept.2 settles.same)
  swept_keep ts us vs i false swept settles =
      let P : Table → Type 0 = λ t. IsClosedBelow known ds t (i + 1) in
      (settles.same ∙ swept.0, subst P (sym settles.same) (λ j lt. closed_next us vs i swept.1 settles j (last_or_before j i lt)))

  grows_trans : (n m : ℕ) (ts us vs : Table) → Grows known ds n ts us → Grows known ds m us vs → (k : ℕ) × Grows known ds k ts vs
  grows_trans n _ ts _ _ g (stays us) = (n, g)
  grows_trans n _ ts _ _ g (gains m us vs i t h within absent found) =
      let before = grows_trans n m ts us vs g h in
      (suc before.0, gains before.0 ts vs i t before.1 within absent found)

  pub swept_grows : (ts us vs : Table) (i : ℕ) (b : Bool) → (n : ℕ) × Grows known ds n ts us → Swept known ds us vs i b → (n : ℕ) × Grows known ds n ts vs
  swept_grows ts us vs i true g swept = grows_trans g.0 swept.0 ts us vs g.1 swept.2
  swept_grows ts us vs i false g swept = (g.0, grows_same ts us vs g.0 g.1 swept.0)

  pub swept_fewer : (us vs : Table) (i : ℕ) → Swept known ds us vs i true → untyped vs < untyped us
  swept_fewer us vs i swept =
      let count = grown_untyped known ds swept.0 us vs swept.2 in
      let some : 0 < swept.0 = swept.1 in
      omega (arith, count, some)

  pub swept_then : (ts us vs : Table) (i : ℕ) (b c d : Bool) → Swept known ds ts us i b → Settles known ds us vs i c → c ≡ true → d ≡ true → Swept known ds ts vs (i + 1) d
  swept_then ts us vs i b true d swept settles is same = let P : Bool → Type 0 = λ e. Swept known ds ts vs (i + 1) e in subst P (sym same) (swept_gain ts us vs i (i + 1) b swept settles)
  swept_then ts us vs i b false d swept settles is same = cc

  pub swept_else : (ts us vs : Table) (i : ℕ) (b c d : Bool) → Swept known ds ts us i b → Settles known ds us vs i c → c ≡ false → d ≡ b → Swept known ds ts vs (i + 1) d
  swept_else ts us vs i b true d swept settles is same = cc
  swept_else ts us vs i b false d swept settles is same = let P : Bool → Type 0 = λ e. Swept known ds ts vs (i + 1) e in subst P (sym same) (swept_keep ts us vs i b swept settles)

  pub swept_length : (us vs : Table) (i : ℕ) (b : Bool) → Swept known ds us vs i b → length vs ≡ length us
  swept_length us vs i true swept = grown_length known ds swept.0 us vs swept.2
  swept_length us vs i false swept = ap length swept.0

  pub swept_closed : (us vs : Table) (i : ℕ) (b : Bool) → b ≡ false → Swept known ds us vs i b → (vs ≡ us) × IsClosedBelow known ds vs i
  swept_closed us vs i true e swept = cc
  swept_closed us vs i false e swept = swept

  pub swept_fewer_if : (us vs : Table) (i : ℕ) (b : Bool) → b ≡ true → Swept known ds us vs i b → untyped vs < untyped us
  swept_fewer_if us vs i true e swept = swept_fewer us vs i swept
  swept_fewer_if us vs i false e swept = cc

  pub grows_from : (first ts us : Table) → first ≡ ts → (n : ℕ) × Grows known ds n first us → (n : ℕ) × Grows known ds n ts us
  grows_from first ts us e g = let P : Table → Type 0 = λ t. (n : ℕ) × Grows known ds n t us in subst P e g
