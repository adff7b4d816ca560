-- Plain subtyping passes on: what is below a type is below what that type is below.
use Rattle.std.proofs.Common.{◌≡◌, ℕ, zero, suc, Bool, true, false, ◌&&◌, ◌||◌, not, List, [], ◌∷◌, refl, sym, ap, ◌∙◌, subst, cond, inl, inr}
use Rattle.std.specs.Prelude.{Option, Some, None, bytes_eq}
use Rattle.std.specs.List.{list_any, list_all}
use Rattle.std.proofs.lemmas.Bool.{and_parts, and_from, false≢true, or_cases}
use Rattle.std.proofs.lemmas.Bool.Decides.{Decides-int_eq}
use Rattle.std.proofs.lemmas.Slice.Eq.{bytes_eq-Decides}
use Rattle.tl_types.specs.declared.types.Ty.{Ty}
use Rattle.tl_types.specs.declared.types.Ty.TheOpen.{Ty-F, Nil, True, False, Int, IntLit, Str, StrLit, Value, Any, Func, Rec, Map}
use Rattle.tl_types.specs.declared.types.TupleOf.{TupleOf}
use Rattle.tl_types.specs.declared.types.FuncOf.{FuncOf}
use Rattle.tl_types.specs.Types.{Field, Bodies, members, unfolded}
use Rattle.tl_types.specs.Unions.{tuple_place}
use Rattle.tl_types.specs.Below.{Test, field_below, has_below, named, record_below, tuple_below, results_below, function_below, map_below, form_below, member_below, step, below}
use Rattle.tl_types.proofs.Bools.{or_left, or_right, all_implies}
use Rattle.tl_types.proofs.Places.{place_of_tuple, tuple_of_places}

any_passed : {X : Type 0} (R : X → X → Bool) → ((x y z : X) → R x y ≡ true → R y z ≡ true → R x z ≡ true) → (x y : X) (zs : List X) → R x y ≡ true → list_any (R y) zs ≡ true → list_any (R x) zs ≡ true
any_passed R passes x y [] e any = any
any_passed R passes x y (z ∷ zs) e any =
    elim (or_cases (R y z) (list_any (R y) zs) any) as (λ c. list_any (R x) (z ∷ zs) ≡ true) [
      | inl here ↦ or_left (R x z) (list_any (R x) zs) (passes x y z e here)
      | inr there ↦ or_right (R x z) (list_any (R x) zs) (any_passed R passes x y zs e there)
    ]

any_joined : {X : Type 0} (R : X → X → Bool) → ((x y z : X) → R x y ≡ true → R y z ≡ true → R x z ≡ true) → (x : X) (ys zs : List X)
    → list_any (R x) ys ≡ true → list_all (λ y. list_any (R y) zs) ys ≡ true → list_any (R x) zs ≡ true
any_joined R passes x [] zs e all = absurd (false≢true e)
any_joined R passes x (y ∷ ys) zs e all =
    let both = and_parts (list_any (R y) zs) (list_all (λ y. list_any (R y) zs) ys) all in
    elim (or_cases (R x y) (list_any (R x) ys) e) as (λ c. list_any (R x) zs ≡ true) [
      | inl here ↦ any_passed R passes x y zs here both.0
      | inr there ↦ any_joined R passes x ys zs there both.1
    ]

-- each of the first list has one in the second, and each of the second one in the third
all_any : {X : Type 0} (R : X → X → Bool) → ((x y z : X) → R x y ≡ true → R y z ≡ true → R x z ≡ true) → (xs ys zs : List X)
    → list_all (λ x. list_any (R x) ys) xs ≡ true → list_all (λ y. list_any (R y) zs) ys ≡ true → list_all (λ x. list_any (R x) zs) xs ≡ true
all_any R passes xs ys zs first second = all_implies (λ x. list_any (R x) ys) (λ x. list_any (R x) zs) (λ x e. any_joined R passes x ys zs e second) xs first

named_one : (name : List ℕ) (f : Field) (fs : List Field) (g : Field) (b : Bool) → bytes_eq f.name name ≡ b → named name (f ∷ fs) ≡ Some g → (named name fs ≡ Some g → g.name ≡ name) → g.name ≡ name
named_one name f fs g true same e rest =
    let here : Some f ≡ Some g = sym (ap (λ b. cond b (Some f) (named name fs)) same) ∙ e in
    let equal : f ≡ g = cc in
    sym (ap (λ h. h.name) equal) ∙ (bytes_eq-Decides f.name name).0 same
named_one name f fs g false same e rest = rest (sym (ap (λ b. cond b (Some f) (named name fs)) same) ∙ e)

-- the field of a name has that name, and is the field of its own name
pub named_at : (name : List ℕ) (gs : List Field) (g : Field) → named name gs ≡ Some g → g.name ≡ name
named_at name [] g e = absurd (cc)
named_at name (f ∷ fs) g e = named_one name f fs g (bytes_eq f.name name) refl e (named_at name fs g)

all_named_one : (claim : List ℕ → Bool) (name : List ℕ) (f : Field) (fs : List Field) (g : Field) (b : Bool) → bytes_eq f.name name ≡ b → named name (f ∷ fs) ≡ Some g → claim f.name ≡ true → (named name fs ≡ Some g → claim name ≡ true) → claim name ≡ true
all_named_one claim name f fs g true same e here rest = subst (λ n. claim n ≡ true) ((bytes_eq-Decides f.name name).0 same) here
all_named_one claim name f fs g false same e here rest = rest (sym (ap (λ b. cond b (Some f) (named name fs)) same) ∙ e)

-- what holds of each field holds of the field of a name
pub all_named : (claim : List ℕ → Bool) (name : List ℕ) (gs : List Field) (g : Field) → named name gs ≡ Some g → list_all (λ h. claim h.name) gs ≡ true → claim name ≡ true
all_named claim name [] g e all = absurd (cc)
all_named claim name (f ∷ fs) g e all = all_named_one claim name f fs g (bytes_eq f.name name) refl e (and_parts (claim f.name) (list_all (λ h. claim h.name) fs) all).0 (λ rest. all_named claim name fs g rest (and_parts (claim f.name) (list_all (λ h. claim h.name) fs) all).1)

-- a field that is const on the right asks one way, else both ways
module _ (R : Test) (passes : (s t u : Ty) → R s t ≡ true → R t u ≡ true → R s u ≡ true) where
  consts_pass : (f g h : Field) (fc gc hc : Bool) → (gc || (not fc && R g.ty f.ty)) ≡ true → (hc || (not gc && R h.ty g.ty)) ≡ true → (hc || (not fc && R h.ty f.ty)) ≡ true
  consts_pass f g h fc gc true first second = refl
  consts_pass f g h fc true false first second = absurd (false≢true second)
  consts_pass f g h true false false first second = absurd (false≢true first)
  consts_pass f g h false false false first second = passes h.ty g.ty f.ty second first

  field_passes : (f g h : Field) → field_below R f g ≡ true → field_below R g h ≡ true → field_below R f h ≡ true
  field_passes f g h first second =
      let one = and_parts (R f.ty g.ty) (g.is_const || (not f.is_const && R g.ty f.ty)) first in
      let two = and_parts (R g.ty h.ty) (h.is_const || (not g.is_const && R h.ty g.ty)) second in
      and_from (R f.ty h.ty) (h.is_const || (not f.is_const && R h.ty f.ty)) (passes f.ty g.ty h.ty one.0 two.0) (consts_pass f g h f.is_const g.is_const h.is_const one.1 two.1)

  has_passes : (f g h : Option Field) → ((x : Field) → g ≡ Some x → has_below R f g ≡ true) → has_below R g h ≡ true → has_below R f h ≡ true
  has_passes f g None first second = refl
  has_passes f None (Some h) first second = absurd (false≢true second)
  has_passes None (Some g) (Some h) first second = absurd (false≢true (first g refl))
  has_passes (Some f) (Some g) (Some h) first second = field_passes f g h (first g refl) second

  record_passes : (fs gs hs : List Field) → record_below R fs gs ≡ true → record_below R gs hs ≡ true → record_below R fs hs ≡ true
  record_passes fs gs hs first second = all_implies (λ h. has_below R (named h.name gs) (named h.name hs)) (λ h. has_below R (named h.name fs) (named h.name hs))
      (λ h e. has_passes (named h.name fs) (named h.name gs) (named h.name hs) (λ g is. all_named (λ name. has_below R (named name fs) (named name gs)) h.name gs g is first) e) hs second

  tuple_passes : (p q r : TupleOf Ty) → tuple_below R p q ≡ true → tuple_below R q r ≡ true → tuple_below R p r ≡ true
  tuple_passes p q r first second = tuple_of_places R p r (λ i. passes (tuple_place p i) (tuple_place q i) (tuple_place r i) (place_of_tuple R p q first i) (place_of_tuple R q r second i))

  function_passes : (f g h : FuncOf Ty) → function_below R f g ≡ true → function_below R g h ≡ true → function_below R f h ≡ true
  function_passes f g h first second =
      let one = and_parts (tuple_below R g.params f.params) (results_below R f.results.tuples g.results.tuples) first in
      let two = and_parts (tuple_below R h.params g.params) (results_below R g.results.tuples h.results.tuples) second in
      and_from (tuple_below R h.params f.params) (results_below R f.results.tuples h.results.tuples) (tuple_passes h.params g.params f.params two.0 one.0) (all_any (tuple_below R) tuple_passes f.results.tuples g.results.tuples h.results.tuples one.1 two.1)

  both_pass : (s t u : Ty) → (R s t && R t s) ≡ true → (R t u && R u t) ≡ true → (R s u && R u s) ≡ true
  both_pass s t u first second =
      let one = and_parts (R s t) (R t s) first in
      let two = and_parts (R t u) (R u t) second in
      and_from (R s u) (R u s) (passes s t u one.0 two.0) (passes u t s two.1 one.1)

  map_passes : (k v l w m x : Ty) → map_below R k v l w ≡ true → map_below R l w m x ≡ true → map_below R k v m x ≡ true
  map_passes k v l w m x first second =
      let one = and_parts (R k l && R l k) (R v w && R w v) first in
      let two = and_parts (R l m && R m l) (R w x && R x w) second in
      and_from (R k m && R m k) (R v x && R x v) (both_pass k l m one.0 two.0) (both_pass v w x one.1 two.1)

  -- by the form in the middle
  to_int_lit : (x : Ty-F Ty) (a : _) → form_below R x (IntLit a) ≡ true → form_below R x Int ≡ true
  to_int_lit (IntLit b) a e = refl
  to_int_lit _ a e = absurd (false≢true e)

  to_str_lit : (x : Ty-F Ty) (a : List ℕ) → form_below R x (StrLit a) ≡ true → form_below R x Str ≡ true
  to_str_lit (StrLit b) a e = refl
  to_str_lit _ a e = absurd (false≢true e)

  to_func : (x : Ty-F Ty) (g h : FuncOf Ty) → form_below R x (Func g) ≡ true → function_below R g h ≡ true → form_below R x (Func h) ≡ true
  to_func (Func f) g h first second = function_passes f g h first second
  to_func _ g h first second = absurd (false≢true first)

  to_rec : (x : Ty-F Ty) (gs hs : List Field) → form_below R x (Rec gs) ≡ true → record_below R gs hs ≡ true → form_below R x (Rec hs) ≡ true
  to_rec (Rec fs) gs hs first second = record_passes fs gs hs first second
  to_rec _ gs hs first second = absurd (false≢true first)

  to_map : (x : Ty-F Ty) (l w m v : Ty) → form_below R x (Map l w) ≡ true → map_below R l w m v ≡ true → form_below R x (Map m v) ≡ true
  to_map (Map k u) l w m v first second = map_passes k u l w m v first second
  to_map _ l w m v first second = absurd (false≢true first)

  form_passes : (x y z : Ty-F Ty) → form_below R x y ≡ true → form_below R y z ≡ true → form_below R x z ≡ true
  form_passes x y Value first second = refl
  form_passes x y Any first second = refl
  form_passes x Nil Nil first second = first
  form_passes x True True first second = first
  form_passes x False False first second = first
  form_passes x Int Int first second = first
  form_passes x (IntLit a) Int first second = to_int_lit x a first
  form_passes x (IntLit a) (IntLit b) first second = subst (λ c. form_below R x (IntLit c) ≡ true) ((Decides-int_eq a b).0 second) first
  form_passes x Str Str first second = first
  form_passes x (StrLit a) Str first second = to_str_lit x a first
  form_passes x (StrLit a) (StrLit b) first second = subst (λ c. form_below R x (StrLit c) ≡ true) ((bytes_eq-Decides a b).0 second) first
  form_passes x (Func g) (Func h) first second = to_func x g h first second
  form_passes x (Rec gs) (Rec hs) first second = to_rec x gs hs first second
  form_passes x (Map l w) (Map m v) first second = to_map x l w m v first second
  form_passes x _ _ first second = absurd (false≢true second)

  step_passes : (bodies : Bodies) (s t u : Ty) → step false bodies R s t ≡ true → step false bodies R t u ≡ true → step false bodies R s u ≡ true
  step_passes bodies s t u first second = all_any (member_below bodies R) (λ a b c. form_passes (unfolded bodies a) (unfolded bodies b) (unfolded bodies c)) (members s) (members t) (members u) first second

pub below_passes : (bodies : Bodies) (n : ℕ) (s t u : Ty) → below false bodies n s t ≡ true → below false bodies n t u ≡ true → below false bodies n s u ≡ true
below_passes bodies zero s t u first second = refl
below_passes bodies (suc n) s t u first second = step_passes (below false bodies n) (below_passes bodies n) bodies s t u first second
