-- An alias that uses lower ranks alone doesn't lead to itself.
use Rattle.std.proofs.Common.{◌≡◌, ℕ, zero, suc, ◌+◌, ◌<◌, Bool, true, false, ◌&&◌, ◌||◌, List, [], ◌∷◌, ◌++◌, map, length, get_or, drop, refl, ap, ◌∙◌, sym, subst, arith, add-one}
use Rattle.std.specs.Prelude.{Option, Some, None, nat_lt, slice_get, slice_index_or}
use Rattle.std.specs.Option.{option_map_or}
use Rattle.std.specs.Str.{bytes_eq}
use Rattle.std.specs.Cmp.Lexicographic.{same_text}
use Rattle.std.proofs.lemmas.Bool.{ltb-true}
use Rattle.type_reader.specs.declared.declarations.Declaration as code_declaration
use Rattle.type_reader.specs.declared.uses.Used as code_used
use Rattle.type_reader.specs.Names.{place_in}
use Rattle.type_reader.specs.Declarations.{Declaration, own_names, form_uses, own_name, own_uses, uses_lead, own_flag, leads_to, is_circular}
use Rattle.type_reader.specs.Lent.{declared_in}
use Rattle.type_reader.specs.Ranks.{rank_at, name_falls, uses_fall, IsFalling, falls_at}
use Rattle.type_reader.specs.SeenUses.{used_of}
use Rattle.type_reader.specs.Rising.{Flags}
use Rattle.type_reader.proofs.Flags.{none_set, next_flag}

either : (a b c : Bool) (P : Type 0) → (a ≡ true → P) → (b ≡ true → P) → (c ≡ true → P) → ((a || b) || c) ≡ true → P
either true b c P k l m e = k refl
either false true c P k l m e = l refl
either false false c P k l m e = m e

left_true : (a b : Bool) → (a && b) ≡ true → a ≡ true
left_true true b e = refl
left_true false b e = e

right_true : (a b : Bool) → (a && b) ≡ true → b ≡ true
right_true true b e = e
right_true false b e = cc

not_true : (b : Bool) → (b ≡ true → ⊥) → b ≡ false
not_true true k = absurd (k refl)
not_true false k = refl

module _ (ds : List Declaration) (ranks : List ℕ) (to : List ℕ) (t : ℕ) (at : place_in (own_names ds) to ≡ Some t) where
  -- names with a flag have no lower rank than the one looked for
  abbrev IsRanked : Flags → Type 0
  IsRanked fs = (i : ℕ) → slice_index_or fs i false ≡ true → rank_at ranks t < rank_at ranks i + 1

  flagged : (fs : Flags) → IsRanked fs → (limit : ℕ) (o : Option ℕ) → option_map_or (λ i. nat_lt (rank_at ranks i) limit) o true ≡ true → option_map_or (λ i. slice_index_or fs i false) o false ≡ true
      → rank_at ranks t < limit
  flagged fs ranked limit None falls flag = cc
  flagged fs ranked limit (Some i) falls flag =
      let low = ltb-true (rank_at ranks i) limit falls in
      let high = ranked i flag in
      omega (arith, low, high)

  there : (limit : ℕ) (u : List ℕ) → name_falls (own_names ds) ranks limit u ≡ true → bytes_eq u to ≡ true → rank_at ranks t < limit
  there limit u falls same =
      let P : List ℕ → Type 0 = λ n. name_falls (own_names ds) ranks limit n ≡ true in
      let here : name_falls (own_names ds) ranks limit to ≡ true = subst P (same_text u to (sym same)) falls in
      ltb-true (rank_at ranks t) limit (sym (ap (λ o. option_map_or (λ i. nat_lt (rank_at ranks i) limit) o true) at) ∙ here)

  uses_ranked : (fs : Flags) → IsRanked fs → (limit : ℕ) (us : List (List ℕ)) → uses_fall (own_names ds) ranks limit us ≡ true → uses_lead (own_names ds) to fs us ≡ true → rank_at ranks t < limit
  uses_ranked fs ranked limit [] falls leads = cc
  uses_ranked fs ranked limit (u ∷ us) falls leads =
      let first = left_true (name_falls (own_names ds) ranks limit u) (uses_fall (own_names ds) ranks limit us) falls in
      let rest = right_true (name_falls (own_names ds) ranks limit u) (uses_fall (own_names ds) ranks limit us) falls in
      either (bytes_eq u to) (own_flag (own_names ds) fs u) (uses_lead (own_names ds) to fs us) (rank_at ranks t < limit)
      (there limit u first)
      (flagged fs ranked limit (place_in (own_names ds) u) first)
      (uses_ranked fs ranked limit us rest)
      leads

  entry_ranked : (fs : Flags) → IsRanked fs → (limit : ℕ) (o : Option Declaration) → ((d : Declaration) → o ≡ Some d → uses_fall (own_names ds) ranks limit (form_uses d.form) ≡ true)
      → option_map_or (λ d. uses_lead (own_names ds) to fs (form_uses d.form)) o false ≡ true → rank_at ranks t < limit
  entry_ranked fs ranked limit None falls leads = cc
  entry_ranked fs ranked limit (Some d) falls leads = uses_ranked fs ranked limit (form_uses d.form) (falls d refl) leads

  ranked_to : IsFalling ds ranks → (n : ℕ) → IsRanked (leads_to ds to n)
  ranked_to falling zero i e = let none : slice_index_or (leads_to ds to zero) i false ≡ false = none_set ds i in cc
  ranked_to falling (suc n) i e =
      entry_ranked (leads_to ds to n) (ranked_to falling n) (rank_at ranks i + 1) (slice_get ds i) (falling i) (sym (next_flag ds to n i) ∙ e)

  falls_here : falls_at ds ranks t ≡ true → (d : Declaration) → slice_get ds t ≡ Some d → uses_fall (own_names ds) ranks (rank_at ranks t) (form_uses d.form) ≡ true
  falls_here falls d e = sym (ap (λ o. option_map_or (λ x. uses_fall (own_names ds) ranks (rank_at ranks t) (form_uses x.form)) o false) e) ∙ falls

  never : IsFalling ds ranks → falls_at ds ranks t ≡ true → (n : ℕ) → slice_index_or (leads_to ds to n) t false ≡ true → ⊥
  never falling falls zero e = let none : slice_index_or (leads_to ds to zero) t false ≡ false = none_set ds t in cc
  never falling falls (suc n) e =
      let lt : rank_at ranks t < rank_at ranks t =
      entry_ranked (leads_to ds to n) (ranked_to falling n) (rank_at ranks t) (slice_get ds t) (falls_here falls) (sym (next_flag ds to n t) ∙ e) in
      absurd (omega (arith, lt))

  pub straight : IsFalling ds ranks → falls_at ds ranks t ≡ true → is_circular ds to ≡ false
  straight falling falls =
      ap (λ o. option_map_or (λ i. slice_index_or (leads_to ds to (length ds)) i false) o false) at
      ∙ not_true (slice_index_or (leads_to ds to (length ds)) t false) (never falling falls (length ds))

-- ---- without ranks

none_falls : (o : Option ℕ) → option_map_or (λ i. nat_lt (rank_at [] i) 1) o true ≡ true
none_falls None = refl
none_falls (Some i) = refl

none_fall : (own us : List (List ℕ)) → uses_fall own [] 1 us ≡ true
none_fall own [] = refl
none_fall own (u ∷ us) = ap (λ b. b && uses_fall own [] 1 us) (none_falls (place_in own u)) ∙ none_fall own us

pub no_ranks : (ds : List Declaration) (ranks : List ℕ) → ranks ≡ [] → IsFalling ds ranks
no_ranks ds ranks none = let P : List ℕ → Type 0 = λ rs. IsFalling ds rs in subst P (sym none) (λ i d e. none_fall (own_names ds) (form_uses d.form))

-- ---- what the code looks at

fall_both : (own : List (List ℕ)) (ranks : List ℕ) (limit : ℕ) (us vs : List (List ℕ)) → uses_fall own ranks limit us ≡ true → uses_fall own ranks limit (us ++ vs) ≡ uses_fall own ranks limit vs
fall_both own ranks limit [] vs falls = refl
fall_both own ranks limit (u ∷ us) vs falls =
    let first = left_true (name_falls own ranks limit u) (uses_fall own ranks limit us) falls in
    let rest = right_true (name_falls own ranks limit u) (uses_fall own ranks limit us) falls in
    ap (λ b. b && uses_fall own ranks limit (us ++ vs)) first ∙ fall_both own ranks limit us vs rest

fall_suc : (own : List (List ℕ)) (ranks : List ℕ) (limit : ℕ) (xs : List code_used.Used) (i : ℕ) (d : code_used.Used) → i < length xs
    → uses_fall own ranks limit (own_name (get_or xs i d).parts.now (get_or xs i d).name.now) ≡ true
    → uses_fall own ranks limit (own_uses (map used_of (drop (suc i) xs))) ≡ uses_fall own ranks limit (own_uses (map used_of (drop i xs)))
fall_suc own ranks limit [] i d within falls = absurd (omega arith)
fall_suc own ranks limit (x ∷ xs) zero d within falls = sym (fall_both own ranks limit (own_name x.parts.now x.name.now) (own_uses (map used_of xs)) falls)
fall_suc own ranks limit (x ∷ xs) (suc i) d within falls = let lt : i < length xs = omega arith in fall_suc own ranks limit xs i d lt falls

pub fall_next : (own : List (List ℕ)) (ranks : List ℕ) (limit : ℕ) (xs : List code_used.Used) (i : ℕ) (d : code_used.Used) → i < length xs → d ≡ get_or xs i d
    → uses_fall own ranks limit (own_name d.parts.now d.name.now) ≡ true
    → uses_fall own ranks limit (own_uses (map used_of (drop (i + 1) xs))) ≡ uses_fall own ranks limit (own_uses (map used_of (drop i xs)))
fall_next own ranks limit xs i d within is falls =
    let P : code_used.Used → Type 0 = λ u. uses_fall own ranks limit (own_name u.parts.now u.name.now) ≡ true in
    ap (λ k. uses_fall own ranks limit (own_uses (map used_of (drop k xs)))) (add-one i) ∙ fall_suc own ranks limit xs i d within (subst P is falls)

module _ (xs : List code_declaration.Declaration) (ranks : List ℕ) where
  -- the declarations before i use no higher ranks
  abbrev pub IsFallingBelow : ℕ → Type 0
  IsFallingBelow n = (i : ℕ) (d : Declaration) → i < n → slice_get (declared_in xs) i ≡ Some d → uses_fall (own_names (declared_in xs)) ranks (rank_at ranks i + 1) (form_uses d.form) ≡ true
