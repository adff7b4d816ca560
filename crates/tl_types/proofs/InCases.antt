-- A type is below another in one step exactly where one of the cases holds.
use Rattle.std.proofs.Common.{◌≡◌, ℕ, Bool, true, false, ◌&&◌, ◌||◌, List, [], ◌∷◌, refl, sym, ap, ◌∙◌, subst, map, inl, inr, zero, suc, ◌<◌, length, get_or, arith}
use Rattle.std.specs.Prelude.{Contains, slice_index_or}
use Rattle.std.specs.List.{list_any}
use Rattle.std.proofs.lemmas.Bool.{and_parts, and_from, false≢true, or_cases}
use Rattle.std.proofs.lemmas.Bool.Decides.{Decides-int_eq}
use Rattle.std.proofs.lemmas.Slice.Eq.{bytes_eq-Decides}
use Rattle.tl_types.specs.declared.types.Ty.{Ty, out-Ty, roll-Ty, map-Ty, ind-Ty}
use Rattle.tl_types.specs.declared.types.Ty.TheVariants as ty
use Rattle.tl_types.specs.declared.types.Ty.TheOpen.{Ty-F, Nil, True, False, Int, IntLit, Str, StrLit, Value, Any, Union, Func, Rec, Map, Iface}
use Rattle.tl_types.specs.Types.{Bodies, members, unfolded, unfold_form}
use Rattle.tl_types.specs.Unions.{is_any, is_any_form}
use Rattle.tl_types.specs.Below.{Test, form_below, tuple_below, results_below, member_below, step}
use Rattle.tl_types.specs.Cases.{IsNoUnion, is_base_form, Case, to_value, to_any, from_union, to_union, same_base, integer_literal, string_literal, functions, records, maps, from_any}
use Rattle.tl_types.proofs.Alike.{roll_out}
use Rattle.tl_types.proofs.Bools.{or_left, or_right, or_implies, any_flat}
use Rattle.tl_types.proofs.Lists.{all_contains, all_from_contains, any_contains, any_from_contains}
use Rattle.tl_types.proofs.Members.{members_union, members_one, is_single_form, out_of}
use Rattle.tl_types.proofs.Layers.{form_of, any_of, step_from_union, step_single, step_to_union, step_singles, member_forms}
use Rattle.tl_types.proofs.Parts.{Holds, tuple_apart, tuple_joined, results_apart, results_joined, record_apart, record_joined, map_apart, map_joined}

back : (s : Ty) (x : Ty-F Ty) → out-Ty s ≡ x → s ≡ roll-Ty x
back s x e = sym (roll_out s) ∙ ap roll-Ty e

single_unless : (s : Ty) (x : Ty-F Ty) → out-Ty s ≡ x → is_single_form x ≡ true → IsNoUnion s
single_unless s x e single ms is = false≢true (sym (ap is_single_form (out_of s (Union ms) (ty.rolls-Union ms ∙ sym is))) ∙ (ap is_single_form e ∙ single))

contained_at : {S X : Type 0} (f : S → X) (s : S) (ss : List S) (x : X) → (Contains (map f ss) x → (s : S) × (f s ≡ x)) → (k : ℕ) → k < length (f s ∷ map f ss) → get_or (f s ∷ map f ss) k x ≡ x → (s : S) × (f s ≡ x)
contained_at f s ss x rest zero within e = (s, e)
contained_at f s ss x rest (suc k) within e = rest (k, omega (arith, within), e)

contained_map : {S X : Type 0} (f : S → X) (ss : List S) (x : X) → Contains (map f ss) x → (s : S) × (f s ≡ x)
contained_map f [] x c = absurd (omega (arith, c.1))
contained_map f (s ∷ ss) x c = contained_at f s ss x (contained_map f ss x) c.0 c.1 c.2

pub any_form_back : (s : Ty) (x : Ty-F Ty) → out-Ty s ≡ x → is_any_form x ≡ true → s ≡ ty.Any
any_form_back s Any xs e = back s Any xs ∙ ty.rolls-Any
any_form_back s _ xs e = absurd (false≢true e)

module _ (loose : Bool) (bodies : Bodies) (R : Test) where
  abbrev In : Ty → Ty → Type 0
  In = Case loose bodies (Holds R)

  abbrev is_step : Ty → Ty → Type 0
  is_step s t = step loose bodies R s t ≡ true

  -- from a case to the step

  forms_step : (s t : Ty) (x y : Ty-F Ty) → unfolded bodies s ≡ x → unfolded bodies t ≡ y → IsNoUnion s → IsNoUnion t → form_below R x y ≡ true → is_step s t
  forms_step s t x y xs ys single_s single_t e = step_singles loose bodies R s t single_s single_t ∙ or_right (loose && is_any s) (member_below bodies R s t) (member_forms loose bodies R s t x y xs ys ∙ e)

  -- a form that stands for no union
  stands : (s : Ty) (x : Ty-F Ty) → unfolded bodies s ≡ x → is_single_form x ≡ true → IsNoUnion s
  stands s x e single ms is = false≢true (sym (ap is_single_form (form_of bodies s (Union ms) (ty.rolls-Union ms ∙ sym is))) ∙ (ap is_single_form e ∙ single))

  known_step : (s t : Ty) (x y : Ty-F Ty) → unfolded bodies s ≡ x → unfolded bodies t ≡ y → is_single_form x ≡ true → is_single_form y ≡ true → form_below R x y ≡ true → is_step s t
  known_step s t x y xs ys single_x single_y e = forms_step s t x y xs ys (stands s x xs single_x) (stands t y ys single_y) e

  -- a member that stands for all, on the right
  top_step : (s t : Ty) → IsNoUnion t → ((a : Ty) → member_below bodies R a t ≡ true) → is_step s t
  top_step s t single each = all_from_contains (λ a. (loose && is_any a) || list_any (member_below bodies R a) (members t)) (members s)
      (λ a here. or_right (loose && is_any a) (list_any (member_below bodies R a) (members t)) (ap (list_any (member_below bodies R a)) (members_one t single) ∙ or_left (member_below bodies R a t) false (each a)))

  base_self : (x : Ty-F Ty) → is_base_form x ≡ true → form_below R (unfold_form bodies x) (unfold_form bodies x) ≡ true
  base_self Nil e = refl
  base_self True e = refl
  base_self False e = refl
  base_self Int e = refl
  base_self (IntLit n) e = (Decides-int_eq n n).1 refl
  base_self Str e = refl
  base_self (StrLit s) e = (bytes_eq-Decides s s).1 refl
  base_self _ e = absurd (false≢true e)

  base_single : (x : Ty-F Ty) → is_base_form x ≡ true → is_single_form (unfold_form bodies x) ≡ true
  base_single (Union ms) e = absurd (false≢true e)
  base_single _ e = refl

  union_step : (s t : Ty) (ms : List Ty) (m : Ty) → t ≡ ty.Union ms → IsNoUnion s → Contains ms m → is_step s m → is_step s t
  union_step s t ms m is single here e =
      step_single loose bodies R s t single
      ∙ or_implies (loose && is_any s) (list_any (member_below bodies R s) (members m)) (loose && is_any s) (list_any (member_below bodies R s) (members t)) (λ e. e)
      (λ e. ap (list_any (member_below bodies R s)) (members_union t ms is) ∙ (any_flat (member_below bodies R s) members ms ∙ any_from_contains (λ m. list_any (member_below bodies R s) (members m)) ms m here e))
      (sym (step_single loose bodies R s m single) ∙ e)

  loose_step : (s t : Ty) → loose ≡ true → s ≡ ty.Any → is_step s t
  loose_step s t is any =
      let holds : (loose && is_any s) ≡ true = and_from loose (is_any s) is (any_of s Any (ty.rolls-Any ∙ sym any)) in
      step_single loose bodies R s t (stands s Any (form_of bodies s Any (ty.rolls-Any ∙ sym any)) refl) ∙ or_left (loose && is_any s) (list_any (member_below bodies R s) (members t)) holds

  pub case_step : (s t : Ty) → In s t → is_step s t
  case_step _ _ (to_value s t is) =
      let form = form_of bodies t Value (ty.rolls-Value ∙ sym is) in
      top_step s t (stands t Value form refl) (λ a. ap (form_below R (unfolded bodies a)) form)
  case_step _ _ (to_any s t is) =
      let form = form_of bodies t Any (ty.rolls-Any ∙ sym is) in
      top_step s t (stands t Any form refl) (λ a. ap (form_below R (unfolded bodies a)) form)
  case_step _ _ (from_union s t ms is each) = step_from_union loose bodies R s t ms is ∙ all_from_contains (λ m. step loose bodies R m t) ms (λ m here. case_step m t (each m here))
  case_step _ _ (to_union s t ms m is single here c) = union_step s t ms m is single here (case_step s m c)
  case_step _ _ (same_base s t base is) = subst (λ u. is_step s u) is (known_step s s (unfolded bodies s) (unfolded bodies s) refl refl (base_single (out-Ty s) base) (base_single (out-Ty s) base) (base_self (out-Ty s) base))
  case_step _ _ (integer_literal s t n is it) = known_step s t (IntLit n) Int (form_of bodies s (IntLit n) (ty.rolls-IntLit n ∙ sym is)) (form_of bodies t Int (ty.rolls-Int ∙ sym it)) refl refl refl
  case_step _ _ (string_literal s t b is it) = known_step s t (StrLit b) Str (form_of bodies s (StrLit b) (ty.rolls-StrLit b ∙ sym is)) (form_of bodies t Str (ty.rolls-Str ∙ sym it)) refl refl refl
  case_step _ _ (functions s t f g is it params results) = known_step s t (Func f) (Func g) (form_of bodies s (Func f) (ty.rolls-Func f ∙ sym is)) (form_of bodies t (Func g) (ty.rolls-Func g ∙ sym it)) refl refl
      (and_from (tuple_below R g.params f.params) (results_below R f.results.tuples g.results.tuples) (tuple_joined R g.params f.params params) (results_joined R f.results.tuples g.results.tuples results))
  case_step _ _ (records s t fs gs is it each) = known_step s t (Rec fs) (Rec gs) is it refl refl (record_joined R fs gs each)
  case_step _ _ (maps s t k v l w is it keys values) = known_step s t (Map k v) (Map l w) (form_of bodies s (Map k v) (ty.rolls-Map k v ∙ sym is)) (form_of bodies t (Map l w) (ty.rolls-Map l w ∙ sym it)) refl refl (map_joined R k v l w keys values)
  case_step _ _ (from_any s t is any) = loose_step s t is any

  -- from the step to a case

  forms_case : (s t : Ty) (x y : Ty-F Ty) → out-Ty s ≡ x → out-Ty t ≡ y → form_below R (unfold_form bodies x) (unfold_form bodies y) ≡ true → In s t
  forms_case s t x Value xs ys e = to_value s t (back t Value ys ∙ ty.rolls-Value)
  forms_case s t x Any xs ys e = to_any s t (back t Any ys ∙ ty.rolls-Any)
  forms_case s t Nil Nil xs ys e = same_base s t (ap is_base_form xs) (back s Nil xs ∙ sym (back t Nil ys))
  forms_case s t True True xs ys e = same_base s t (ap is_base_form xs) (back s True xs ∙ sym (back t True ys))
  forms_case s t False False xs ys e = same_base s t (ap is_base_form xs) (back s False xs ∙ sym (back t False ys))
  forms_case s t Int Int xs ys e = same_base s t (ap is_base_form xs) (back s Int xs ∙ sym (back t Int ys))
  forms_case s t (IntLit a) Int xs ys e = integer_literal s t a (back s (IntLit a) xs ∙ ty.rolls-IntLit a) (back t Int ys ∙ ty.rolls-Int)
  forms_case s t (IntLit a) (IntLit b) xs ys e = same_base s t (ap is_base_form xs) (back s (IntLit a) xs ∙ (ap (λ n. roll-Ty (IntLit n)) ((Decides-int_eq a b).0 e) ∙ sym (back t (IntLit b) ys)))
  forms_case s t Str Str xs ys e = same_base s t (ap is_base_form xs) (back s Str xs ∙ sym (back t Str ys))
  forms_case s t (StrLit a) Str xs ys e = string_literal s t a (back s (StrLit a) xs ∙ ty.rolls-StrLit a) (back t Str ys ∙ ty.rolls-Str)
  forms_case s t (StrLit a) (StrLit b) xs ys e = same_base s t (ap is_base_form xs) (back s (StrLit a) xs ∙ (ap (λ n. roll-Ty (StrLit n)) ((bytes_eq-Decides a b).0 e) ∙ sym (back t (StrLit b) ys)))
  forms_case s t (Func f) (Func g) xs ys e =
      let both = and_parts (tuple_below R g.params f.params) (results_below R f.results.tuples g.results.tuples) e in
      functions s t f g (back s (Func f) xs ∙ ty.rolls-Func f) (back t (Func g) ys ∙ ty.rolls-Func g) (tuple_apart R g.params f.params both.0) (results_apart R f.results.tuples g.results.tuples both.1)
  forms_case s t (Rec fs) (Rec gs) xs ys e = records s t fs gs (ap (unfold_form bodies) xs) (ap (unfold_form bodies) ys) (record_apart R fs gs e)
  forms_case s t (Rec fs) (Iface n) xs ys e = records s t fs (slice_index_or bodies n []) (ap (unfold_form bodies) xs) (ap (unfold_form bodies) ys) (record_apart R fs (slice_index_or bodies n []) e)
  forms_case s t (Iface m) (Rec gs) xs ys e = records s t (slice_index_or bodies m []) gs (ap (unfold_form bodies) xs) (ap (unfold_form bodies) ys) (record_apart R (slice_index_or bodies m []) gs e)
  forms_case s t (Iface m) (Iface n) xs ys e = records s t (slice_index_or bodies m []) (slice_index_or bodies n []) (ap (unfold_form bodies) xs) (ap (unfold_form bodies) ys) (record_apart R (slice_index_or bodies m []) (slice_index_or bodies n []) e)
  forms_case s t (Map k v) (Map l w) xs ys e =
      let both = map_apart R k v l w e in
      maps s t k v l w (back s (Map k v) xs ∙ ty.rolls-Map k v) (back t (Map l w) ys ∙ ty.rolls-Map l w) both.0 both.1
  forms_case s t _ _ xs ys e = absurd (false≢true e)

  any_case : (s t : Ty) → (loose && is_any s) ≡ true → In s t
  any_case s t e = let both = and_parts loose (is_any s) e in from_any s t both.0 (any_form_back s (out-Ty s) refl both.1)

  singles_case : (s t : Ty) → IsNoUnion s → IsNoUnion t → is_step s t → In s t
  singles_case s t single_s single_t e =
      elim (or_cases (loose && is_any s) (member_below bodies R s t) (sym (step_singles loose bodies R s t single_s single_t) ∙ e)) as (λ c. In s t) [
        | inl any ↦ any_case s t any
        | inr forms ↦ forms_case s t (out-Ty s) (out-Ty t) refl refl forms
      ]

  union_case : (s t : Ty) (ms : List Ty) → IsNoUnion s → t ≡ ty.Union ms → ((m : Ty) → Contains ms m → is_step s m → In s m) → (b : Bool) → (loose && is_any s) ≡ b → is_step s t → In s t
  union_case s t ms single is each true any e = any_case s t any
  union_case s t ms single is each false strict e =
      let found = any_contains (λ m. step loose bodies R s m) ms (sym (step_to_union loose bodies R s t ms single strict is) ∙ e) in
      to_union s t ms found.0 is single found.1 (each found.0 found.1 found.2)

  -- by the form of the right type
  module _ (s : Ty) (single : IsNoUnion s) {S : Type 0} (f : S → Ty) (each : (m : S) → is_step s (f m) → In s (f m)) where
    right_case : (y : Ty-F S) (t : Ty) → roll-Ty (map-Ty S Ty f y) ≡ t → is_step s t → In s t
    right_case (Union ss) t is e = union_case s t (map f ss) single (sym is ∙ ty.rolls-Union (map f ss))
        (λ m here. let found = contained_map f ss m here in subst (λ m. is_step s m → In s m) found.1 (each found.0)) (loose && is_any s) refl e
    right_case Nil t is e = singles_case s t single (single_unless t Nil (out_of t Nil is) refl) e
    right_case True t is e = singles_case s t single (single_unless t True (out_of t True is) refl) e
    right_case False t is e = singles_case s t single (single_unless t False (out_of t False is) refl) e
    right_case Int t is e = singles_case s t single (single_unless t Int (out_of t Int is) refl) e
    right_case (IntLit n) t is e = singles_case s t single (single_unless t (IntLit n) (out_of t (IntLit n) is) refl) e
    right_case Str t is e = singles_case s t single (single_unless t Str (out_of t Str is) refl) e
    right_case (StrLit b) t is e = singles_case s t single (single_unless t (StrLit b) (out_of t (StrLit b) is) refl) e
    right_case Value t is e = singles_case s t single (single_unless t Value (out_of t Value is) refl) e
    right_case Any t is e = singles_case s t single (single_unless t Any (out_of t Any is) refl) e
    right_case (Func g) t is e = singles_case s t single (single_unless t (map-Ty S Ty f (Func g)) (out_of t (map-Ty S Ty f (Func g)) is) refl) e
    right_case (Rec gs) t is e = singles_case s t single (single_unless t (map-Ty S Ty f (Rec gs)) (out_of t (map-Ty S Ty f (Rec gs)) is) refl) e
    right_case (Map k v) t is e = singles_case s t single (single_unless t (map-Ty S Ty f (Map k v)) (out_of t (map-Ty S Ty f (Map k v)) is) refl) e
    right_case (Iface n) t is e = singles_case s t single (single_unless t (Iface n) (out_of t (Iface n) is) refl) e

  single_case : (s : Ty) → IsNoUnion s → (t : Ty) → is_step s t → In s t
  single_case s single t = ind-Ty (λ t. is_step s t → In s t) (λ x y is e. right_case s single (λ m. m.0) (λ m. m.1) y (roll-Ty x) (ap roll-Ty is) e) t

  -- by the form of the left type
  module _ {S : Type 0} (f : S → Ty) (each : (m : S) (t : Ty) → is_step (f m) t → In (f m) t) where
    left_case : (y : Ty-F S) (s t : Ty) → roll-Ty (map-Ty S Ty f y) ≡ s → is_step s t → In s t
    left_case (Union ss) s t is e =
        let union : s ≡ ty.Union (map f ss) = sym is ∙ ty.rolls-Union (map f ss) in
        from_union s t (map f ss) union (λ m here.
        let found = contained_map f ss m here in
        subst (λ m. is_step m t → In m t) found.1 (λ e. each found.0 t e) (all_contains (λ m. step loose bodies R m t) (map f ss) m (sym (step_from_union loose bodies R s t (map f ss) union) ∙ e) here))
    left_case Nil s t is e = single_case s (single_unless s Nil (out_of s Nil is) refl) t e
    left_case True s t is e = single_case s (single_unless s True (out_of s True is) refl) t e
    left_case False s t is e = single_case s (single_unless s False (out_of s False is) refl) t e
    left_case Int s t is e = single_case s (single_unless s Int (out_of s Int is) refl) t e
    left_case (IntLit n) s t is e = single_case s (single_unless s (IntLit n) (out_of s (IntLit n) is) refl) t e
    left_case Str s t is e = single_case s (single_unless s Str (out_of s Str is) refl) t e
    left_case (StrLit b) s t is e = single_case s (single_unless s (StrLit b) (out_of s (StrLit b) is) refl) t e
    left_case Value s t is e = single_case s (single_unless s Value (out_of s Value is) refl) t e
    left_case Any s t is e = single_case s (single_unless s Any (out_of s Any is) refl) t e
    left_case (Func g) s t is e = single_case s (single_unless s (map-Ty S Ty f (Func g)) (out_of s (map-Ty S Ty f (Func g)) is) refl) t e
    left_case (Rec gs) s t is e = single_case s (single_unless s (map-Ty S Ty f (Rec gs)) (out_of s (map-Ty S Ty f (Rec gs)) is) refl) t e
    left_case (Map k v) s t is e = single_case s (single_unless s (map-Ty S Ty f (Map k v)) (out_of s (map-Ty S Ty f (Map k v)) is) refl) t e
    left_case (Iface n) s t is e = single_case s (single_unless s (Iface n) (out_of s (Iface n) is) refl) t e

  pub step_case : (s t : Ty) → is_step s t → In s t
  step_case s = ind-Ty (λ s. (t : Ty) → is_step s t → In s t) (λ x y is t e. left_case (λ m. m.0) (λ m. m.1) y (roll-Ty x) t (ap roll-Ty is) e) s
