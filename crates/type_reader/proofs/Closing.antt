-- A table from which no more can be found has the types of all steps.
use Rattle.std.proofs.Common.{◌≡◌, ℕ, zero, suc, ◌+◌, ◌-◌, ◌<◌, ◌≤◌, List, [], ◌∷◌, length, set, refl, ap, ◌∙◌, sym, subst, arith}
use Rattle.std.specs.Prelude.{Option, Some, None, slice_get, slice_index_or}
use Rattle.std.specs.Option.{option_and_then}
use Rattle.std.proofs.lemmas.List.{length-map}
use Rattle.std.proofs.Math.ListN.{length-set}
use Rattle.tl_types.specs.declared.types.Ty.{Ty}
use Rattle.type_reader.specs.declared.names.TypeName.{TypeName}
use Rattle.type_reader.specs.Names.{names_of}
use Rattle.type_reader.specs.Declarations.{Declaration, own_names, first_type, form_type, types_to}
use Rattle.type_reader.specs.Growing.{Table, untyped, entry_type, Grows, stays, gains, IsClosedBelow}
use Rattle.type_reader.proofs.Monotone.{Keeps}
use Rattle.type_reader.proofs.Table.{MoreIn, entry_stays, next_entry, grown_within, steps_more}

-- ---- how many names have no type

untyped_set : (us : Table) (i : ℕ) (t : Ty) → i < length us → slice_index_or us i None ≡ None → untyped (set us i (Some t)) + 1 ≡ untyped us
untyped_set [] i t within absent = absurd (omega arith)
untyped_set (None ∷ us) zero t within absent = omega arith
untyped_set (Some u ∷ us) zero t within absent = cc
untyped_set (None ∷ us) (suc i) t within absent =
    let lt : i < length us = omega arith in
    let e = untyped_set us i t lt absent in
    omega (arith, e)
untyped_set (Some u ∷ us) (suc i) t within absent = let lt : i < length us = omega arith in untyped_set us i t lt absent

pub untyped_most : (us : Table) → untyped us ≤ length us
untyped_most [] = omega arith
untyped_most (None ∷ us) = let e = untyped_most us in omega (arith, e)
untyped_most (Some u ∷ us) = let e = untyped_most us in omega (arith, e)

-- ---- equal tables

same_option : {A : Type 0} (x y : Option A) → Keeps x y → Keeps y x → x ≡ y
same_option (Some a) y k l = sym (k a refl)
same_option None (Some b) k l = l b refl
same_option None None k l = refl

pub same_table : (us vs : Table) → MoreIn us vs → MoreIn vs us → length us ≡ length vs → us ≡ vs
same_table [] [] m n e = refl
same_table [] (v ∷ vs) m n e = absurd (omega arith)
same_table (u ∷ us) [] m n e = absurd (omega arith)
same_table (u ∷ us) (v ∷ vs) m n e =
    let rest : length us ≡ length vs = omega arith in
    ap (λ x. x ∷ us) (same_option u v (m zero) (n zero)) ∙ ap (λ xs. v ∷ xs) (same_table us vs (λ i. m (suc i)) (λ i. n (suc i)) rest)

-- a name that had no type gets one, and the others stay
kept : (us : Table) (i : ℕ) (t : Ty) → slice_index_or us i None ≡ None → MoreIn us (set us i (Some t))
kept [] i t absent j = λ a e. e
kept (u ∷ us) zero t absent zero = λ a e. cc
kept (u ∷ us) zero t absent (suc j) = λ a e. e
kept (u ∷ us) (suc i) t absent zero = λ a e. e
kept (u ∷ us) (suc i) t absent (suc j) = kept us i t absent j

some_within : (xs : List Declaration) (i : ℕ) (f : Declaration → Option Ty) (a : Ty) → option_and_then f (slice_get xs i) ≡ Some a → i < length xs
some_within [] i f a e = cc
some_within (x ∷ xs) zero f a e = omega arith
some_within (x ∷ xs) (suc i) f a e = let lt = some_within xs i f a e in omega (arith, lt)

module _ (known : List TypeName) (ds : List Declaration) where
  pub grown_untyped : (n : ℕ) (ts us : Table) → Grows known ds n ts us → untyped us + n ≡ untyped ts
  grown_untyped _ _ _ (stays ts) = omega arith
  grown_untyped _ _ _ (gains n ts us i t g within absent found) =
      let before = grown_untyped n ts us g in
      let one = untyped_set us i t within absent in
      omega (arith, before, one)

  pub grown_length : (n : ℕ) (ts us : Table) → Grows known ds n ts us → length us ≡ length ts
  grown_length _ _ _ (stays ts) = refl
  grown_length _ _ _ (gains n ts us i t g within absent found) = length-set us i (Some t) ∙ grown_length n ts us g

  -- what is found in some step stands in a closed table
  settled : (us : Table) (i : ℕ) (a : Ty) (k m : ℕ) (o : Option Ty) → slice_index_or us i None ≡ o → IsClosedBelow known ds us (length ds) → MoreIn us (types_to known ds k)
      → entry_type known ds us i ≡ Some a → slice_index_or (types_to known ds m) i None ≡ Some a → o ≡ Some a
  settled us i a k m None is closed more found step =
      let lt = some_within ds i (λ x. form_type (names_of known (own_names ds) us) x.form) a found in
      let none = closed i lt is in
      cc
  settled us i a k m (Some b) is closed more found step =
      let here : slice_index_or (types_to known ds (m + k)) i None ≡ Some b = steps_more known ds k m i b (more i b is) in
      let there : slice_index_or (types_to known ds (k + m)) i None ≡ Some a = steps_more known ds m k i a step in
      let e : m + k ≡ k + m = omega arith in
      sym here ∙ ap (λ n. slice_index_or (types_to known ds n) i None) e ∙ there

  closed_all : (us : Table) (k : ℕ) → MoreIn (types_to known ds zero) us → IsClosedBelow known ds us (length ds) → MoreIn us (types_to known ds k) → (m : ℕ) → MoreIn (types_to known ds m) us
  closed_all us k first closed more zero i a e = first i a e
  closed_all us k first closed more (suc m) i a e =
      let found = entry_stays known ds (types_to known ds m) us (closed_all us k first closed more m) i a (sym (next_entry known ds m i) ∙ e) in
      settled us i a k (suc m) (slice_index_or us i None) refl closed more found e

  grown_more : (n : ℕ) (ts us : Table) → Grows known ds n ts us → MoreIn ts us
  grown_more _ _ _ (stays ts) = λ i a e. e
  grown_more _ _ _ (gains n ts us i t g within absent found) = λ j a e. kept us i t absent j a (grown_more n ts us g j a e)

  steps_length : (n : ℕ) → length (types_to known ds n) ≡ length ds
  steps_length zero = length-map ds (λ x. first_type x.form)
  steps_length (suc n) = length-map ds (λ x. form_type (names_of known (own_names ds) (types_to known ds n)) x.form)

  -- a closed table that has grown from the first types has those of all steps
  pub grown_is : (n : ℕ) (us : Table) → Grows known ds n (types_to known ds zero) us → IsClosedBelow known ds us (length ds) → us ≡ types_to known ds (length ds)
  grown_is n us g closed =
      let first_length : length (types_to known ds zero) ≡ length ds = length-map ds (λ x. first_type x.form) in
      let us_length : length us ≡ length ds = grown_length n (types_to known ds zero) us g ∙ first_length in
      let count = grown_untyped n (types_to known ds zero) us g in
      let most = untyped_most (types_to known ds zero) in
      let few : n ≤ length ds = omega (arith, count, most, first_length) in
      let P : ℕ → Type 0 = λ k. MoreIn us (types_to known ds k) in
      let at : n + zero ≡ n = omega arith in
      let now : MoreIn us (types_to known ds n) = subst P at (grown_within known ds n zero (types_to known ds zero) us g (λ i a e. e)) in
      let Q : ℕ → Type 0 = λ k. MoreIn (types_to known ds n) (types_to known ds k) in
      let up : (length ds - n) + n ≡ length ds = omega (arith, few) in
      let rest : MoreIn (types_to known ds n) (types_to known ds (length ds)) = subst Q up (steps_more known ds n (length ds - n)) in
      same_table us (types_to known ds (length ds)) (λ i a e. rest i a (now i a e))
      (closed_all us n (grown_more n (types_to known ds zero) us g) closed now (length ds))
      (us_length ∙ sym (steps_length (length ds)))
