-- Flags of names, and what is found by as many steps.
use Rattle.std.proofs.Common.{◌≡◌, ℕ, zero, suc, ◌+◌, ◌-◌, ◌<◌, ◌≤◌, Bool, true, false, ◌||◌, List, [], ◌∷◌, map, length, set, refl, ap, ◌∙◌, sym, subst, arith, ◌⊎◌, inl, inr}
use Rattle.std.specs.Prelude.{Option, Some, None, slice_get, slice_index_or}
use Rattle.std.specs.Option.{option_map_or}
use Rattle.std.specs.Str.{bytes_eq}
use Rattle.std.proofs.lemmas.List.{length-map}
use Rattle.std.proofs.Math.ListN.{length-set}
use Rattle.type_reader.specs.Names.{place_in}
use Rattle.type_reader.specs.Declarations.{Declaration, own_names, form_uses, uses_lead, own_flag, leads_to}
use Rattle.type_reader.specs.Rising.{Flags, unset, entry_leads, Rises, stays, gains, IsDoneBelow, Raised, Left, Turns, Passed}
use Rattle.type_reader.proofs.Sweeping.{last_or_before}

-- each flag of the one stands in the other
abbrev pub FlagsIn : Flags → Flags → Type 0
FlagsIn fs gs = (i : ℕ) → slice_index_or fs i false ≡ true → slice_index_or gs i false ≡ true

or_stays : (a b c : Bool) → (b ≡ true → c ≡ true) → (a || b) ≡ true → (a || c) ≡ true
or_stays true b c k e = refl
or_stays false b c k e = k e

or_more : (a b c d : Bool) → (a ≡ true → b ≡ true) → (c ≡ true → d ≡ true) → (a || c) ≡ true → (b || d) ≡ true
or_more true b c d k l e = ap (λ x. x || d) (k refl)
or_more false true c d k l e = refl
or_more false false c d k l e = l e

flag_at : (fs gs : Flags) → FlagsIn fs gs → (o : Option ℕ) → option_map_or (λ i. slice_index_or fs i false) o false ≡ true → option_map_or (λ i. slice_index_or gs i false) o false ≡ true
flag_at fs gs more None e = cc
flag_at fs gs more (Some i) e = more i e

uses_stay : (own : List (List ℕ)) (to : List ℕ) (fs gs : Flags) → FlagsIn fs gs → (us : List (List ℕ)) → uses_lead own to fs us ≡ true → uses_lead own to gs us ≡ true
uses_stay own to fs gs more [] e = cc
uses_stay own to fs gs more (u ∷ us) e =
    or_more (bytes_eq u to || own_flag own fs u) (bytes_eq u to || own_flag own gs u) (uses_lead own to fs us) (uses_lead own to gs us)
    (or_stays (bytes_eq u to) (own_flag own fs u) (own_flag own gs u) (flag_at fs gs more (place_in own u))) (uses_stay own to fs gs more us) e

each_flag : {A : Type 0} (f g : A → Bool) → ((x : A) → f x ≡ true → g x ≡ true) → (xs : List A) → FlagsIn (map f xs) (map g xs)
each_flag f g k [] i = λ e. e
each_flag f g k (x ∷ xs) zero = k x
each_flag f g k (x ∷ xs) (suc i) = each_flag f g k xs i

-- a name gets the flag that it has there
flag_set : (fs gs : Flags) (i : ℕ) → FlagsIn fs gs → slice_index_or gs i false ≡ true → FlagsIn (set fs i true) gs
flag_set [] gs i more has j = more j
flag_set (f ∷ fs) gs zero more has zero = λ e. has
flag_set (f ∷ fs) gs zero more has (suc j) = more (suc j)
flag_set (f ∷ fs) gs (suc i) more has zero = more zero
flag_set (f ∷ fs) [] (suc i) more has (suc j) = λ e. cc
flag_set (f ∷ fs) (g ∷ gs) (suc i) more has (suc j) = flag_set fs gs i (λ k. more (suc k)) has j

flag_kept : (fs : Flags) (i : ℕ) → FlagsIn fs (set fs i true)
flag_kept [] i j = λ e. e
flag_kept (f ∷ fs) zero zero = λ e. refl
flag_kept (f ∷ fs) zero (suc j) = λ e. e
flag_kept (f ∷ fs) (suc i) zero = λ e. e
flag_kept (f ∷ fs) (suc i) (suc j) = flag_kept fs i j

unset_set : (fs : Flags) (i : ℕ) → i < length fs → slice_index_or fs i false ≡ false → unset (set fs i true) + 1 ≡ unset fs
unset_set [] i within absent = absurd (omega arith)
unset_set (false ∷ fs) zero within absent = omega arith
unset_set (true ∷ fs) zero within absent = cc
unset_set (false ∷ fs) (suc i) within absent =
    let lt : i < length fs = omega arith in
    let e = unset_set fs i lt absent in
    omega (arith, e)
unset_set (true ∷ fs) (suc i) within absent = let lt : i < length fs = omega arith in unset_set fs i lt absent

unset_most : (fs : Flags) → unset fs ≤ length fs
unset_most [] = omega arith
unset_most (false ∷ fs) = let e = unset_most fs in omega (arith, e)
unset_most (true ∷ fs) = let e = unset_most fs in omega (arith, e)

same_bool : (a b : Bool) → (a ≡ true → b ≡ true) → (b ≡ true → a ≡ true) → a ≡ b
same_bool true b k l = sym (k refl)
same_bool false true k l = l refl
same_bool false false k l = refl

same_flags : (fs gs : Flags) → FlagsIn fs gs → FlagsIn gs fs → length fs ≡ length gs → fs ≡ gs
same_flags [] [] m n e = refl
same_flags [] (g ∷ gs) m n e = absurd (omega arith)
same_flags (f ∷ fs) [] m n e = absurd (omega arith)
same_flags (f ∷ fs) (g ∷ gs) m n e =
    let rest : length fs ≡ length gs = omega arith in
    ap (λ x. x ∷ fs) (same_bool f g (m zero) (n zero)) ∙ ap (λ xs. g ∷ xs) (same_flags fs gs (λ i. m (suc i)) (λ i. n (suc i)) rest)

pub none_set : {A : Type 0} (xs : List A) (i : ℕ) → slice_index_or (map (λ x. false) xs) i false ≡ false
none_set [] i = refl
none_set (x ∷ xs) zero = refl
none_set (x ∷ xs) (suc i) = none_set xs i

flag_map : (f : Declaration → Bool) (xs : List Declaration) (i : ℕ) → slice_index_or (map f xs) i false ≡ option_map_or f (slice_get xs i) false
flag_map f [] i = refl
flag_map f (x ∷ xs) zero = refl
flag_map f (x ∷ xs) (suc i) = flag_map f xs i

flag_within : (f : Declaration → Bool) (xs : List Declaration) (i : ℕ) → option_map_or f (slice_get xs i) false ≡ true → i < length xs
flag_within f [] i e = cc
flag_within f (x ∷ xs) zero e = omega arith
flag_within f (x ∷ xs) (suc i) e = let lt = flag_within f xs i e in omega (arith, lt)

module _ (ds : List Declaration) (to : List ℕ) where
  abbrev step : Flags → Declaration → Bool
  step fs d = uses_lead (own_names ds) to fs (form_uses d.form)

  pub next_flag : (n i : ℕ) → slice_index_or (leads_to ds to (suc n)) i false ≡ entry_leads ds to (leads_to ds to n) i
  next_flag n i = flag_map (step (leads_to ds to n)) ds i

  entry_stay_at : (fs gs : Flags) → FlagsIn fs gs → (o : Option Declaration) → option_map_or (step fs) o false ≡ true → option_map_or (step gs) o false ≡ true
  entry_stay_at fs gs more None e = cc
  entry_stay_at fs gs more (Some d) e = uses_stay (own_names ds) to fs gs more (form_uses d.form) e

  entry_stay : (fs gs : Flags) → FlagsIn fs gs → (i : ℕ) → entry_leads ds to fs i ≡ true → entry_leads ds to gs i ≡ true
  entry_stay fs gs more i = entry_stay_at fs gs more (slice_get ds i)

  step_in : (n : ℕ) → FlagsIn (leads_to ds to n) (leads_to ds to (suc n))
  step_in zero i e = let none : slice_index_or (leads_to ds to zero) i false ≡ false = none_set ds i in cc
  step_in (suc n) i e =
      each_flag (step (leads_to ds to n)) (step (leads_to ds to (suc n))) (λ d. uses_stay (own_names ds) to (leads_to ds to n) (leads_to ds to (suc n)) (step_in n) (form_uses d.form)) ds i e

  steps_in : (n k : ℕ) → FlagsIn (leads_to ds to n) (leads_to ds to (k + n))
  steps_in n zero = let P : ℕ → Type 0 = λ m. FlagsIn (leads_to ds to n) (leads_to ds to m) in let e : n ≡ zero + n = omega arith in subst P e (λ i f. f)
  steps_in n (suc k) =
      let P : ℕ → Type 0 = λ m. FlagsIn (leads_to ds to n) (leads_to ds to m) in
      let e : suc (k + n) ≡ suc k + n = omega arith in
      subst P e (λ i f. step_in (k + n) i (steps_in n k i f))

  risen_within : (n m : ℕ) (fs gs : Flags) → Rises ds to n fs gs → FlagsIn fs (leads_to ds to m) → FlagsIn gs (leads_to ds to (n + m))
  risen_within _ m _ _ (stays fs) more = let P : ℕ → Type 0 = λ k. FlagsIn fs (leads_to ds to k) in let e : m ≡ zero + m = omega arith in subst P e more
  risen_within _ m _ _ (gains n fs gs i r within absent found) more =
      let P : ℕ → Type 0 = λ k. FlagsIn (set gs i true) (leads_to ds to k) in
      let e : suc (n + m) ≡ suc n + m = omega arith in
      let before = risen_within n m fs gs r more in
      subst P e (flag_set gs (leads_to ds to (suc (n + m))) i (λ j f. step_in (n + m) j (before j f)) (next_flag (n + m) i ∙ entry_stay gs (leads_to ds to (n + m)) before i found))

  risen_unset : (n : ℕ) (fs gs : Flags) → Rises ds to n fs gs → unset gs + n ≡ unset fs
  risen_unset _ _ _ (stays fs) = omega arith
  risen_unset _ _ _ (gains n fs gs i r within absent found) =
      let before = risen_unset n fs gs r in
      let one = unset_set gs i within absent in
      omega (arith, before, one)

  pub risen_length : (n : ℕ) (fs gs : Flags) → Rises ds to n fs gs → length gs ≡ length fs
  risen_length _ _ _ (stays fs) = refl
  risen_length _ _ _ (gains n fs gs i r within absent found) = length-set gs i true ∙ risen_length n fs gs r

  done_at : (gs : Flags) (i : ℕ) (b : Bool) → slice_index_or gs i false ≡ b → IsDoneBelow ds to gs (length ds) → entry_leads ds to gs i ≡ true → b ≡ true
  done_at gs i true is done found = refl
  done_at gs i false is done found =
      let lt = flag_within (step gs) ds i found in
      let none = done i lt is in
      cc

  done_all : (gs : Flags) → IsDoneBelow ds to gs (length ds) → (m : ℕ) → FlagsIn (leads_to ds to m) gs
  done_all gs done zero i e = let none : slice_index_or (leads_to ds to zero) i false ≡ false = none_set ds i in cc
  done_all gs done (suc m) i e = done_at gs i (slice_index_or gs i false) refl done (entry_stay (leads_to ds to m) gs (done_all gs done m) i (sym (next_flag m i) ∙ e))

  steps_length : (n : ℕ) → length (leads_to ds to n) ≡ length ds
  steps_length zero = length-map ds (λ d. false)
  steps_length (suc n) = length-map ds (step (leads_to ds to n))

  -- flags that have risen from none and of which no more can be found are those of all steps
  pub risen_is : (n : ℕ) (gs : Flags) → Rises ds to n (leads_to ds to zero) gs → IsDoneBelow ds to gs (length ds) → gs ≡ leads_to ds to (length ds)
  risen_is n gs r done =
      let none_length : length (leads_to ds to zero) ≡ length ds = steps_length zero in
      let gs_length : length gs ≡ length ds = risen_length n (leads_to ds to zero) gs r ∙ none_length in
      let count = risen_unset n (leads_to ds to zero) gs r in
      let most = unset_most (leads_to ds to zero) in
      let few : n ≤ length ds = omega (arith, count, most, none_length) in
      let P : ℕ → Type 0 = λ k. FlagsIn gs (leads_to ds to k) in
      let at : n + zero ≡ n = omega arith in
      let now : FlagsIn gs (leads_to ds to n) = subst P at (risen_within n zero (leads_to ds to zero) gs r (λ i e. e)) in
      let Q : ℕ → Type 0 = λ k. FlagsIn (leads_to ds to n) (leads_to ds to k) in
      let up : (length ds - n) + n ≡ length ds = omega (arith, few) in
      let rest : FlagsIn (leads_to ds to n) (leads_to ds to (length ds)) = subst Q up (steps_in n (length ds - n)) in
      same_flags gs (leads_to ds to (length ds)) (λ i e. rest i (now i e)) (done_all gs done (length ds)) (gs_length ∙ sym (steps_length (length ds)))

  -- ---- what a pass has found so far

  rises_by : (fs gs hs : Flags) (i n : ℕ) → Rises ds to n fs gs → Raised ds to gs hs i → Rises ds to (suc n) fs hs
  rises_by fs gs hs i n r raised =
      let P : Flags → Type 0 = λ t. Rises ds to (suc n) fs t in
      subst P (sym raised.written) (gains n fs gs i r raised.within raised.absent raised.found)

  rises_same : (fs gs hs : Flags) (n : ℕ) → Rises ds to n fs gs → hs ≡ gs → Rises ds to n fs hs
  rises_same fs gs hs n r same = let P : Flags → Type 0 = λ t. Rises ds to n fs t in subst P (sym same) r

  pub rises_one : (fs gs hs : Flags) (i : ℕ) (b : Bool) → (n : ℕ) × Rises ds to n fs gs → Turns ds to gs hs i b → (n : ℕ) × Rises ds to n fs hs
  rises_one fs gs hs i true r turn = (suc r.0, rises_by fs gs hs i r.0 r.1 turn)
  rises_one fs gs hs i false r turn = (r.0, rises_same fs gs hs r.0 r.1 turn.same)

  pub turn_length : (gs hs : Flags) (i : ℕ) (b : Bool) → Turns ds to gs hs i b → length hs ≡ length gs
  turn_length gs hs i true turn = ap length turn.written ∙ length-set gs i true
  turn_length gs hs i false turn = ap length turn.same

  passed_gain : (fs gs hs : Flags) (i j : ℕ) (b : Bool) → Passed ds to fs gs i b → Turns ds to gs hs i true → Passed ds to fs hs j true
  passed_gain fs gs hs i j true passed turn = (suc passed.0, omega arith, rises_by fs gs hs i passed.0 passed.2 turn)
  passed_gain fs gs hs i j false passed turn =
      let none : Rises ds to zero fs gs = rises_same fs fs gs zero (stays fs) passed.0 in
      (suc zero, omega arith, rises_by fs gs hs i zero none turn)

  done_next : (gs hs : Flags) (i : ℕ) → IsDoneBelow ds to gs i → Left ds to gs hs i → (j : ℕ) → (j < i) ⊎ (j ≡ i) → slice_index_or gs j false ≡ false → entry_leads ds to gs j ≡ false
  done_next gs hs i done left j (inl before) = done j before
  done_next gs hs i done left j (inr here) = let P : ℕ → Type 0 = λ k. slice_index_or gs k false ≡ false → entry_leads ds to gs k ≡ false in subst P (sym here) left.done

  passed_keep : (fs gs hs : Flags) (i : ℕ) (b : Bool) → Passed ds to fs gs i b → Turns ds to gs hs i false → Passed ds to fs hs (i + 1) b
  passed_keep fs gs hs i true passed turn = (passed.0, passed.1, rises_same fs gs hs passed.0 passed.2 turn.same)
  passed_keep fs gs hs i false passed turn =
      let P : Flags → Type 0 = λ t. IsDoneBelow ds to t (i + 1) in
      (turn.same ∙ passed.0, subst P (sym turn.same) (λ j lt. done_next gs hs i passed.1 turn j (last_or_before j i lt)))

  rises_trans : (n m : ℕ) (fs gs hs : Flags) → Rises ds to n fs gs → Rises ds to m gs hs → (k : ℕ) × Rises ds to k fs hs
  rises_trans n _ fs _ _ r (stays gs) = (n, r)
  rises_trans n _ fs _ _ r (gains m gs hs i s within absent found) =
      let before = rises_trans n m fs gs hs r s in
      (suc before.0, gains before.0 fs hs i before.1 within absent found)

  pub passed_rises : (fs gs hs : Flags) (i : ℕ) (b : Bool) → (n : ℕ) × Rises ds to n fs gs → Passed ds to gs hs i b → (n : ℕ) × Rises ds to n fs hs
  passed_rises fs gs hs i true r passed = rises_trans r.0 passed.0 fs gs hs r.1 passed.2
  passed_rises fs gs hs i false r passed = (r.0, rises_same fs gs hs r.0 r.1 passed.0)

  pub passed_then : (fs gs hs : Flags) (i : ℕ) (b c d : Bool) → Passed ds to fs gs i b → Turns ds to gs hs i c → c ≡ true → d ≡ true → Passed ds to fs hs (i + 1) d
  passed_then fs gs hs i b true d passed turn is same = let P : Bool → Type 0 = λ e. Passed ds to fs hs (i + 1) e in subst P (sym same) (passed_gain fs gs hs i (i + 1) b passed turn)
  passed_then fs gs hs i b false d passed turn is same = cc

  pub passed_else : (fs gs hs : Flags) (i : ℕ) (b c d : Bool) → Passed ds to fs gs i b → Turns ds to gs hs i c → c ≡ false → d ≡ b → Passed ds to fs hs (i + 1) d
  passed_else fs gs hs i b true d passed turn is same = cc
  passed_else fs gs hs i b false d passed turn is same = let P : Bool → Type 0 = λ e. Passed ds to fs hs (i + 1) e in subst P (sym same) (passed_keep fs gs hs i b passed turn)

  pub passed_length : (gs hs : Flags) (i : ℕ) (b : Bool) → Passed ds to gs hs i b → length hs ≡ length gs
  passed_length gs hs i true passed = risen_length passed.0 gs hs passed.2
  passed_length gs hs i false passed = ap length passed.0

  pub passed_done : (gs hs : Flags) (i : ℕ) (b : Bool) → b ≡ false → Passed ds to gs hs i b → (hs ≡ gs) × IsDoneBelow ds to hs i
  passed_done gs hs i true e passed = cc
  passed_done gs hs i false e passed = passed

  pub passed_fewer : (gs hs : Flags) (i : ℕ) (b : Bool) → b ≡ true → Passed ds to gs hs i b → unset hs < unset gs
  passed_fewer gs hs i true e passed =
      let count = risen_unset passed.0 gs hs passed.2 in
      let some : 0 < passed.0 = passed.1 in
      omega (arith, count, some)
  passed_fewer gs hs i false e passed = cc

  pub rises_from : (first fs gs : Flags) → first ≡ fs → (n : ℕ) × Rises ds to n first gs → (n : ℕ) × Rises ds to n fs gs
  rises_from first fs gs e r = let P : Flags → Type 0 = λ t. (n : ℕ) × Rises ds to n t gs in subst P e r
