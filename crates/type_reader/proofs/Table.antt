-- Tables of the types of the module's own names, and what is found by as many steps.
use Rattle.std.proofs.Common.{◌≡◌, ℕ, zero, suc, ◌+◌, Bool, true, false, cond, ◌&&◌, List, [], ◌∷◌, map, set, refl, ap, ◌∙◌, subst, arith}
use Rattle.std.specs.Prelude.{Option, Some, None, slice_get, slice_index_or, is_some}
use Rattle.std.specs.Option.{option_and_then, option_or}
use Rattle.lua_tree.specs.declared.annotation.TypeExpr.{TypeExpr}
use Rattle.tl_types.specs.declared.types.Ty.{Ty}
use Rattle.type_reader.specs.declared.names.TypeName.{TypeName}
use Rattle.type_reader.specs.Names.{Names, names_of, own_type, place_in, built_in}
use Rattle.type_reader.specs.Types.{Uses, type_of, uses_of, are_typed}
use Rattle.type_reader.specs.Declarations as d
use Rattle.type_reader.specs.Declarations.{Declaration, own_names, alias_type, form_type, first_type, types_to, names_to}
use Rattle.type_reader.specs.Growing.{Table, entry_type, Grows, stays, gains}
use Rattle.type_reader.proofs.Monotone.{Keeps, MoreTyped, types_stay}

-- each type of the one table stands in the other
abbrev pub MoreIn : Table → Table → Type 0
MoreIn ts us = (i : ℕ) → Keeps (slice_index_or ts i None) (slice_index_or us i None)

-- ---- more names with types

keeps_or : {A : Type 0} (b x y : Option A) → Keeps x y → Keeps (option_or b x) (option_or b y)
keeps_or None x y k = k
keeps_or (Some c) x y k = λ a e. e

keeps_at : (ts us : Table) → MoreIn ts us → (o : Option ℕ) → Keeps (option_and_then (λ i. slice_index_or ts i None) o) (option_and_then (λ i. slice_index_or us i None) o)
keeps_at ts us more None = λ a e. e
keeps_at ts us more (Some i) = more i

pub names_more : (known : List TypeName) (own : List (List ℕ)) (ts us : Table) → MoreIn ts us → MoreTyped (names_of known own ts) (names_of known own us)
names_more known own ts us more [] name = keeps_or (built_in name) (own_type own ts name) (own_type own us name) (keeps_at ts us more (place_in own name))
names_more known own ts us more (p ∷ ps) name = λ a e. e

there : {A : Type 0} (x : Option A) → is_some x ≡ true → (a : A) × (x ≡ Some a)
there None e = cc
there (Some a) e = (a, refl)

some_stays : {A : Type 0} (x y : Option A) → Keeps x y → is_some x ≡ true → is_some y ≡ true
some_stays x y k e = let a = there x e in ap is_some (k a.0 a.1)

both_true : (a b : Bool) → (a && b) ≡ true → (a ≡ true) × (b ≡ true)
both_true true b e = (refl, e)
both_true false b e = cc

module _ (m n : Names) (more : MoreTyped m n) where
  pub typed_stay : (us : Uses) → are_typed m us ≡ true → are_typed n us ≡ true
  typed_stay [] e = refl
  typed_stay (u ∷ us) e =
      let h = both_true (is_some (m.ty u.parts u.name)) (are_typed m us) e in
      ap (λ b. b && are_typed n us) (some_stays (m.ty u.parts u.name) (n.ty u.parts u.name) (more u.parts u.name) h.0) ∙ typed_stay us h.1

  alias_stays_by : (e : TypeExpr) (b : Bool) → are_typed m (uses_of e) ≡ b → Keeps (cond b (type_of m e) None) (alias_type n e)
  alias_stays_by e false is a none = cc
  alias_stays_by e true is a has =
      ap (λ b. cond b (type_of n e) None) (typed_stay (uses_of e) is) ∙ types_stay m n more e a has

  pub alias_stays : (e : TypeExpr) → Keeps (alias_type m e) (alias_type n e)
  alias_stays e = alias_stays_by e (are_typed m (uses_of e)) refl

  pub form_stays : (f : d.Form) → Keeps (form_type m f) (form_type n f)
  form_stays (d.interface k fs) = λ a e. e
  form_stays (d.alias e) = alias_stays e

first_stays : (m : Names) (f : d.Form) → Keeps (first_type f) (form_type m f)
first_stays m (d.interface k fs) = λ a e. e
first_stays m (d.alias e) = λ a none. cc

-- ---- more steps

each_more : {A : Type 0} (f g : A → Option Ty) → ((x : A) → Keeps (f x) (g x)) → (xs : List A) → MoreIn (map f xs) (map g xs)
each_more f g k [] i = λ a e. e
each_more f g k (x ∷ xs) zero = k x
each_more f g k (x ∷ xs) (suc i) = each_more f g k xs i

more_trans : (ts us vs : Table) → MoreIn ts us → MoreIn us vs → MoreIn ts vs
more_trans ts us vs m n i a e = n i a (m i a e)

-- a name gets the type that it has there
more_set : (us vs : Table) (i : ℕ) (t : Ty) → MoreIn us vs → slice_index_or vs i None ≡ Some t → MoreIn (set us i (Some t)) vs
more_set [] vs i t more has j = more j
more_set (u ∷ us) vs zero t more has zero = λ a e. has ∙ e
more_set (u ∷ us) vs zero t more has (suc j) = more (suc j)
more_set (u ∷ us) vs (suc i) t more has zero = more zero
more_set (u ∷ us) [] (suc i) t more has (suc j) = λ a e. cc
more_set (u ∷ us) (v ∷ vs) (suc i) t more has (suc j) = more_set us vs i t (λ k. more (suc k)) has j

module _ (known : List TypeName) (ds : List Declaration) where
  abbrev with : Table → Names
  with ts = names_of known (own_names ds) ts

  pub step_more : (n : ℕ) → MoreIn (types_to known ds n) (types_to known ds (suc n))
  step_more zero = each_more (λ x. first_type x.form) (λ x. form_type (with (types_to known ds zero)) x.form) (λ x. first_stays (with (types_to known ds zero)) x.form) ds
  step_more (suc n) =
      each_more (λ x. form_type (with (types_to known ds n)) x.form) (λ x. form_type (with (types_to known ds (suc n))) x.form)
      (λ x. form_stays (with (types_to known ds n)) (with (types_to known ds (suc n))) (names_more known (own_names ds) (types_to known ds n) (types_to known ds (suc n)) (step_more n)) x.form) ds

  pub steps_more : (n k : ℕ) → MoreIn (types_to known ds n) (types_to known ds (k + n))
  steps_more n zero = let P : ℕ → Type 0 = λ m. MoreIn (types_to known ds n) (types_to known ds m) in let e : n ≡ zero + n = omega arith in subst P e (λ i a e. e)
  steps_more n (suc k) =
      let P : ℕ → Type 0 = λ m. MoreIn (types_to known ds n) (types_to known ds m) in
      let e : suc (k + n) ≡ suc k + n = omega arith in
      subst P e (more_trans (types_to known ds n) (types_to known ds (k + n)) (types_to known ds (suc (k + n))) (steps_more n k) (step_more (k + n)))

  -- ---- what grows

  index_map : (f : Declaration → Option Ty) (xs : List Declaration) (i : ℕ) → slice_index_or (map f xs) i None ≡ option_and_then f (slice_get xs i)
  index_map f [] i = refl
  index_map f (x ∷ xs) zero = refl
  index_map f (x ∷ xs) (suc i) = index_map f xs i

  entry_stays_at : (ts us : Table) → MoreIn ts us → (o : Option Declaration) → Keeps (option_and_then (λ x. form_type (with ts) x.form) o) (option_and_then (λ x. form_type (with us) x.form) o)
  entry_stays_at ts us more None = λ a e. e
  entry_stays_at ts us more (Some x) = form_stays (with ts) (with us) (names_more known (own_names ds) ts us more) x.form

  pub entry_stays : (ts us : Table) → MoreIn ts us → (i : ℕ) → Keeps (entry_type known ds ts i) (entry_type known ds us i)
  entry_stays ts us more i = entry_stays_at ts us more (slice_get ds i)

  -- the next step has what can be found in this one
  pub next_entry : (n i : ℕ) → slice_index_or (types_to known ds (suc n)) i None ≡ entry_type known ds (types_to known ds n) i
  next_entry n i = index_map (λ x. form_type (with (types_to known ds n)) x.form) ds i

  pub within_next : (us : Table) (n i : ℕ) (t : Ty) → MoreIn us (types_to known ds n) → entry_type known ds us i ≡ Some t → MoreIn (set us i (Some t)) (types_to known ds (suc n))
  within_next us n i t more found =
      more_set us (types_to known ds (suc n)) i t (more_trans us (types_to known ds n) (types_to known ds (suc n)) more (step_more n))
      (next_entry n i ∙ entry_stays us (types_to known ds n) more i t found)

  pub grown_within : (n m : ℕ) (ts us : Table) → Grows known ds n ts us → MoreIn ts (types_to known ds m) → MoreIn us (types_to known ds (n + m))
  grown_within _ m _ _ (stays ts) more = let P : ℕ → Type 0 = λ k. MoreIn ts (types_to known ds k) in let e : m ≡ zero + m = omega arith in subst P e more
  grown_within _ m _ _ (gains n ts vs i t g within absent found) more =
      let P : ℕ → Type 0 = λ k. MoreIn (set vs i (Some t)) (types_to known ds k) in
      let e : suc (n + m) ≡ suc n + m = omega arith in
      subst P e (within_next vs (n + m) i t (grown_within n m ts vs g more) found)
