-- The orders at every depth: laws of a preorder, unions, and functions, records and maps taken apart.
use Rattle.std.proofs.Common.{◌≡◌, ℕ, zero, suc, Bool, true, false, ◌&&◌, ◌||◌, List, refl, sym, ap, ◌∙◌, subst, ◌↔◌}
use Rattle.std.specs.Prelude.{Contains, Option, Some}
use Rattle.std.specs.List.{list_any}
use Rattle.std.proofs.lemmas.Bool.{and_parts, and_from, false≢true}
use Rattle.tl_types.specs.declared.types.Ty.{Ty, out-Ty}
use Rattle.tl_types.specs.declared.types.Ty.TheVariants as ty
use Rattle.tl_types.specs.declared.types.Ty.TheOpen.{Ty-F, Union, Func, Rec, Map, Iface}
use Rattle.tl_types.specs.declared.types.FuncOf.{FuncOf}
use Rattle.tl_types.specs.Types.{Field, Bodies, members, unfolded, unfold_form}
use Rattle.tl_types.specs.Unions.{is_any, is_any_form}
use Rattle.tl_types.specs.Below.{named, form_below, tuple_below, results_below, member_below, below, IsBelow, IsSubtype, IsConsistent, IsFlow}
use Rattle.tl_types.specs.Cases.{IsNoUnion, Case, EachPlace, EachTuple, FieldBelow, EachField}
use Rattle.tl_types.specs.Laws.{AtDepth}
use Rattle.tl_types.specs.declared.flow.Flow.{Flow}
use Rattle.tl_types.specs.declared.flow.Flow.TheVariants as flow
use Rattle.tl_types.proofs.Bools.{or_implies, all_implies, any_flat}
use Rattle.tl_types.proofs.Lists.{all_contains, all_from_contains, any_from_contains}
use Rattle.tl_types.proofs.Members.{members_union, is_single_form}
use Rattle.tl_types.proofs.Layers.{form_of, step_from_union, step_singles, member_forms}
use Rattle.tl_types.proofs.Mono.{below_loosens}
use Rattle.tl_types.proofs.Reflexive.{below_self}
use Rattle.tl_types.proofs.Transitive.{below_passes}
use Rattle.tl_types.proofs.Parts.{tuple_apart, tuple_joined, results_apart, results_joined, record_apart, record_joined, map_apart, map_joined}
use Rattle.tl_types.proofs.InCases.{step_case, case_step}

pub below_cases : (loose : Bool) (bodies : Bodies) (n : ℕ) (s t : Ty) → (below loose bodies (suc n) s t ≡ true) ↔ Case loose bodies (AtDepth loose bodies n) s t
below_cases loose bodies n s t = (step_case loose bodies (below loose bodies n) s t, case_step loose bodies (below loose bodies n) s t)

pub is_itself : (loose : Bool) (bodies : Bodies) (t : Ty) → IsBelow loose bodies t t
is_itself loose bodies t = record { to = λ n. below_self loose bodies n t }

pub subtype_passes : (bodies : Bodies) (s t u : Ty) → IsSubtype bodies s t → IsSubtype bodies t u → IsSubtype bodies s u
subtype_passes bodies s t u first second = record { to = λ n. below_passes bodies n s t u (first.to n) (second.to n) }

pub subtype_loosens : (bodies : Bodies) (s t : Ty) → IsSubtype bodies s t → IsConsistent bodies s t
subtype_loosens bodies s t e = record { to = λ n. below_loosens true bodies n s t (e.to n) }

unfold_any : (bodies : Bodies) (x : Ty-F Ty) → is_any_form (unfold_form bodies x) ≡ is_any_form x
unfold_any bodies (Iface n) = refl
unfold_any bodies _ = refl

and_false : (a b : Bool) → b ≡ false → (a && b) ≡ false
and_false true b e = e
and_false false b e = refl

module _ (loose : Bool) (bodies : Bodies) where
  stands : (s : Ty) (x : Ty-F Ty) → unfolded bodies s ≡ x → is_single_form x ≡ true → IsNoUnion s
  stands s x e single ms is = false≢true (sym (ap is_single_form (form_of bodies s (Union ms) (ty.rolls-Union ms ∙ sym is))) ∙ (ap is_single_form e ∙ single))

  -- the step of two types that are no unions, the left one not `any`
  known : (n : ℕ) (s t : Ty) (x y : Ty-F Ty) → unfolded bodies s ≡ x → unfolded bodies t ≡ y → is_single_form x ≡ true → is_single_form y ≡ true → is_any_form x ≡ false → below loose bodies (suc n) s t ≡ form_below (below loose bodies n) x y
  known n s t x y xs ys single_x single_y strict =
      let R = below loose bodies n in
      let no_any : (loose && is_any s) ≡ false = and_false loose (is_any s) (sym (unfold_any bodies (out-Ty s)) ∙ (ap is_any_form xs ∙ strict)) in
      step_singles loose bodies R s t (stands s x xs single_x) (stands t y ys single_y)
      ∙ (ap (λ b. b || member_below bodies R s t) no_any ∙ member_forms loose bodies R s t x y xs ys)

  -- where the form's comparison says something at each depth, so does the order
  apart : (s t : Ty) (x y : Ty-F Ty) → unfolded bodies s ≡ x → unfolded bodies t ≡ y → is_single_form x ≡ true → is_single_form y ≡ true → is_any_form x ≡ false → IsBelow loose bodies s t → (n : ℕ) → form_below (below loose bodies n) x y ≡ true
  apart s t x y xs ys single_x single_y strict e n = sym (known n s t x y xs ys single_x single_y strict) ∙ e.to (suc n)

  at_depth : (s t : Ty) (x y : Ty-F Ty) → unfolded bodies s ≡ x → unfolded bodies t ≡ y → is_single_form x ≡ true → is_single_form y ≡ true → is_any_form x ≡ false → ((n : ℕ) → form_below (below loose bodies n) x y ≡ true) → (n : ℕ) → below loose bodies n s t ≡ true
  at_depth s t x y xs ys single_x single_y strict each zero = refl
  at_depth s t x y xs ys single_x single_y strict each (suc n) = known n s t x y xs ys single_x single_y strict ∙ each n

  joined : (s t : Ty) (x y : Ty-F Ty) → unfolded bodies s ≡ x → unfolded bodies t ≡ y → is_single_form x ≡ true → is_single_form y ≡ true → is_any_form x ≡ false → ((n : ℕ) → form_below (below loose bodies n) x y ≡ true) → IsBelow loose bodies s t
  joined s t x y xs ys single_x single_y strict each = record { to = at_depth s t x y xs ys single_x single_y strict each }

  each_below : (s t : Ty) (ms : List Ty) → s ≡ ty.Union ms → (m : Ty) → Contains ms m → ((n : ℕ) → below loose bodies n s t ≡ true) → (n : ℕ) → below loose bodies n m t ≡ true
  each_below s t ms is m here e zero = refl
  each_below s t ms is m here e (suc n) = all_contains (λ m. below loose bodies (suc n) m t) ms m (sym (step_from_union loose bodies (below loose bodies n) s t ms is) ∙ e (suc n)) here

  all_below : (s t : Ty) (ms : List Ty) → s ≡ ty.Union ms → ((m : Ty) → Contains ms m → IsBelow loose bodies m t) → (n : ℕ) → below loose bodies n s t ≡ true
  all_below s t ms is each zero = refl
  all_below s t ms is each (suc n) = step_from_union loose bodies (below loose bodies n) s t ms is ∙ all_from_contains (λ m. below loose bodies (suc n) m t) ms (λ m here. (each m here).to (suc n))

  pub union_from_each : (s t : Ty) (ms : List Ty) → s ≡ ty.Union ms → IsBelow loose bodies s t ↔ ((m : Ty) → Contains ms m → IsBelow loose bodies m t)
  union_from_each s t ms is = (
    (λ e m here. record { to = each_below s t ms is m here (λ n. e.to n) }),
    (λ each. record { to = all_below s t ms is each }),
  )

  member_at : (s t m : Ty) (ms : List Ty) → t ≡ ty.Union ms → Contains ms m → ((n : ℕ) → below loose bodies n s m ≡ true) → (n : ℕ) → below loose bodies n s t ≡ true
  member_at s t m ms is here e zero = refl
  member_at s t m ms is here e (suc n) =
      let test = member_below bodies (below loose bodies n) in
      all_implies (λ a. (loose && is_any a) || list_any (test a) (members m)) (λ a. (loose && is_any a) || list_any (test a) (members t))
      (λ a. or_implies (loose && is_any a) (list_any (test a) (members m)) (loose && is_any a) (list_any (test a) (members t)) (λ e. e)
      (λ e. ap (list_any (test a)) (members_union t ms is) ∙ (any_flat (test a) members ms ∙ any_from_contains (λ m. list_any (test a) (members m)) ms m here e)))
      (members s) (e (suc n))

  pub union_to_member : (s t m : Ty) (ms : List Ty) → t ≡ ty.Union ms → Contains ms m → IsBelow loose bodies s m → IsBelow loose bodies s t
  union_to_member s t m ms is here e = record { to = member_at s t m ms is here e.to }

  pub functions_apart : (s t : Ty) (f g : FuncOf Ty) → s ≡ ty.Func f → t ≡ ty.Func g
      → IsBelow loose bodies s t ↔ (EachPlace (IsBelow loose bodies) g.params f.params × ((n : ℕ) → EachTuple (AtDepth loose bodies n) f.results.tuples g.results.tuples))
  functions_apart s t f g is it =
      let form_s = form_of bodies s (Func f) (ty.rolls-Func f ∙ sym is) in
      let form_t = form_of bodies t (Func g) (ty.rolls-Func g ∙ sym it) in
      let parts = λ (e : IsBelow loose bodies s t) (n : ℕ). and_parts (tuple_below (below loose bodies n) g.params f.params) (results_below (below loose bodies n) f.results.tuples g.results.tuples) (apart s t (Func f) (Func g) form_s form_t refl refl refl e n) in (
        (λ e. ((λ i. record { to = λ n. tuple_apart (below loose bodies n) g.params f.params (parts e n).0 i }), (λ n. results_apart (below loose bodies n) f.results.tuples g.results.tuples (parts e n).1))),
        (λ both. joined s t (Func f) (Func g) form_s form_t refl refl refl (λ n.
            and_from (tuple_below (below loose bodies n) g.params f.params) (results_below (below loose bodies n) f.results.tuples g.results.tuples)
            (tuple_joined (below loose bodies n) g.params f.params (λ i. (both.0 i).to n)) (results_joined (below loose bodies n) f.results.tuples g.results.tuples (both.1 n)))),
      )

  same_found : (f h : Field) (o : Option Field) → o ≡ Some f → o ≡ Some h → h ≡ f
  same_found f h o one two = cc

  fields_each : (fs gs : List Field) → ((n : ℕ) → EachField (AtDepth loose bodies n) fs gs) → EachField (IsBelow loose bodies) fs gs
  fields_each fs gs each name g is =
      let found = each 0 name g is in
      let at : (n : ℕ) → FieldBelow (AtDepth loose bodies n) found.0 g = λ n. let here = each n name g is in subst (λ f. FieldBelow (AtDepth loose bodies n) f g) (same_found found.0 here.0 (named name fs) found.1 here.1) here.2 in
      (found.0, found.1, record { types = record { to = λ n. (at n).types }; mutable = λ e. (((at 0).mutable e).0, record { to = λ n. ((at n).mutable e).1 }) })

  fields_at : (fs gs : List Field) → EachField (IsBelow loose bodies) fs gs → (n : ℕ) → EachField (AtDepth loose bodies n) fs gs
  fields_at fs gs each n name g is =
      let found = each name g is in
      (found.0, found.1, record { types = found.2.types.to n; mutable = λ e. ((found.2.mutable e).0, (found.2.mutable e).1.to n) })

  pub records_apart : (s t : Ty) (fs gs : List Field) → unfolded bodies s ≡ Rec fs → unfolded bodies t ≡ Rec gs → IsBelow loose bodies s t ↔ EachField (IsBelow loose bodies) fs gs
  records_apart s t fs gs is it = (
    (λ e. fields_each fs gs (λ n. record_apart (below loose bodies n) fs gs (apart s t (Rec fs) (Rec gs) is it refl refl refl e n))),
    (λ each. joined s t (Rec fs) (Rec gs) is it refl refl refl (λ n. record_joined (below loose bodies n) fs gs (fields_at fs gs each n))),
  )

  pub maps_apart : (s t k v l w : Ty) → s ≡ ty.Map k v → t ≡ ty.Map l w → IsBelow loose bodies s t ↔ ((IsBelow loose bodies k l × IsBelow loose bodies l k) × (IsBelow loose bodies v w × IsBelow loose bodies w v))
  maps_apart s t k v l w is it =
      let form_s = form_of bodies s (Map k v) (ty.rolls-Map k v ∙ sym is) in
      let form_t = form_of bodies t (Map l w) (ty.rolls-Map l w ∙ sym it) in
      let parts = λ (e : IsBelow loose bodies s t) (n : ℕ). map_apart (below loose bodies n) k v l w (apart s t (Map k v) (Map l w) form_s form_t refl refl refl e n) in (
        (λ e. ((record { to = λ n. (parts e n).0.0 }, record { to = λ n. (parts e n).0.1 }), (record { to = λ n. (parts e n).1.0 }, record { to = λ n. (parts e n).1.1 }))),
        (λ all. joined s t (Map k v) (Map l w) form_s form_t refl refl refl (λ n. map_joined (below loose bodies n) k v l w (all.0.0.to n, all.0.1.to n) (all.1.0.to n, all.1.1.to n))),
      )

pub one_flow : (bodies : Bodies) (s t : Ty) (f g : Flow) → IsFlow bodies s t f → IsFlow bodies s t g → f ≡ g
one_flow bodies s t flow.Plain flow.Plain one two = refl
one_flow bodies s t flow.Plain flow.Crossing one two = absurd (two.1 one)
one_flow bodies s t flow.Plain flow.No one two = absurd (two (subtype_loosens bodies s t one))
one_flow bodies s t flow.Crossing flow.Plain one two = absurd (one.1 two)
one_flow bodies s t flow.Crossing flow.Crossing one two = refl
one_flow bodies s t flow.Crossing flow.No one two = absurd (two one.0)
one_flow bodies s t flow.No flow.Plain one two = absurd (one (subtype_loosens bodies s t two))
one_flow bodies s t flow.No flow.Crossing one two = absurd (one two.0)
one_flow bodies s t flow.No flow.No one two = refl
