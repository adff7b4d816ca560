-- Each type is below itself.
use Rattle.std.proofs.Common.{◌≡◌, ℕ, zero, suc, Bool, true, false, ◌&&◌, ◌||◌, not, List, [], ◌∷◌, refl, ap, ◌∙◌, max, length}
use Rattle.std.specs.Prelude.{Option, Some, None, slice_index_or}
use Rattle.std.specs.List.{list_any, list_all}
use Rattle.std.proofs.lemmas.Bool.{and_from, false≢true}
use Rattle.std.proofs.lemmas.Bool.Decides.{Decides-int_eq}
use Rattle.std.proofs.lemmas.Slice.Eq.{bytes_eq-Decides}
use Rattle.tl_types.specs.declared.types.Ty.{Ty, out-Ty}
use Rattle.tl_types.specs.declared.types.Ty.TheOpen.{Ty-F, Nil, True, False, Int, IntLit, Str, StrLit, Value, Any, Union, Func, Rec, Map, Iface}
use Rattle.tl_types.specs.declared.types.TupleOf.{TupleOf}
use Rattle.tl_types.specs.declared.types.FuncOf.{FuncOf}
use Rattle.tl_types.specs.Types.{Field, Bodies, members, unfold_form}
use Rattle.tl_types.specs.Unions.{is_any, or_nil, tuple_place}
use Rattle.tl_types.specs.Below.{Test, field_below, has_below, named, record_below, places_below, tuple_below, results_below, function_below, map_below, form_below, member_below, step, below}
use Rattle.tl_types.proofs.Bools.{or_right, all_implies, all_within}
use Rattle.tl_types.proofs.Members.{is_single, is_single_form, members_single}

all_true : {X : Type 0} (p : X → Bool) → ((x : X) → p x ≡ true) → (xs : List X) → list_all p xs ≡ true
all_true p each [] = refl
all_true p each (x ∷ xs) = and_from (p x) (list_all p xs) (each x) (all_true p each xs)

const_or_not : (b : Bool) → (b || (not b && true)) ≡ true
const_or_not true = refl
const_or_not false = refl

module _ (R : Test) (self : (t : Ty) → R t t ≡ true) where
  field_self : (f : Field) → field_below R f f ≡ true
  field_self f = and_from (R f.ty f.ty) (f.is_const || (not f.is_const && R f.ty f.ty)) (self f.ty) (ap (λ b. f.is_const || (not f.is_const && b)) (self f.ty) ∙ const_or_not f.is_const)

  has_self : (f : Option Field) → has_below R f f ≡ true
  has_self None = refl
  has_self (Some f) = field_self f

  places_self : (p : TupleOf Ty) (n : ℕ) → places_below R p p n ≡ true
  places_self p zero = refl
  places_self p (suc i) = and_from (places_below R p p i) (R (tuple_place p i) (tuple_place p i)) (places_self p i) (self (tuple_place p i))

  tuple_self : (p : TupleOf Ty) → tuple_below R p p ≡ true
  tuple_self p = and_from (places_below R p p (max (length p.items) (length p.items))) (R (or_nil p.tail) (or_nil p.tail)) (places_self p (max (length p.items) (length p.items))) (self (or_nil p.tail))

  results_self : (ps : List (TupleOf Ty)) → results_below R ps ps ≡ true
  results_self ps = all_within (λ p. true) (tuple_below R) (λ p e. tuple_self p) ps (all_true (λ p. true) (λ p. refl) ps)

  function_self : (f : FuncOf Ty) → function_below R f f ≡ true
  function_self f = and_from (tuple_below R f.params f.params) (results_below R f.results.tuples f.results.tuples) (tuple_self f.params) (results_self f.results.tuples)

  map_self : (k v : Ty) → map_below R k v k v ≡ true
  map_self k v = and_from (R k k && R k k) (R v v && R v v) (and_from (R k k) (R k k) (self k) (self k)) (and_from (R v v) (R v v) (self v) (self v))

  record_self : (fs : List Field) → record_below R fs fs ≡ true
  record_self fs = all_true (λ g. has_below R (named g.name fs) (named g.name fs)) (λ g. has_self (named g.name fs)) fs

  pub form_self : (bodies : Bodies) (x : Ty-F Ty) → is_single_form x ≡ true → form_below R (unfold_form bodies x) (unfold_form bodies x) ≡ true
  form_self bodies (Union ms) single = absurd (false≢true single)
  form_self bodies Nil single = refl
  form_self bodies True single = refl
  form_self bodies False single = refl
  form_self bodies Int single = refl
  form_self bodies (IntLit n) single = (Decides-int_eq n n).1 refl
  form_self bodies Str single = refl
  form_self bodies (StrLit s) single = (bytes_eq-Decides s s).1 refl
  form_self bodies Value single = refl
  form_self bodies Any single = refl
  form_self bodies (Func f) single = function_self f
  form_self bodies (Rec fs) single = record_self fs
  form_self bodies (Map k v) single = map_self k v
  form_self bodies (Iface n) single = record_self (slice_index_or bodies n [])

  step_self : (loose : Bool) (bodies : Bodies) (t : Ty) → step loose bodies R t t ≡ true
  step_self loose bodies t =
      all_implies (λ a. list_any (member_below bodies R a) (members t)) (λ a. (loose && is_any a) || list_any (member_below bodies R a) (members t)) (λ a. or_right (loose && is_any a) (list_any (member_below bodies R a) (members t))) (members t)
      (all_within is_single (member_below bodies R) (λ a single. form_self bodies (out-Ty a) single) (members t) (members_single t))

pub below_self : (loose : Bool) (bodies : Bodies) (n : ℕ) (t : Ty) → below loose bodies n t t ≡ true
below_self loose bodies zero t = refl
below_self loose bodies (suc n) t = step_self (below loose bodies n) (below_self loose bodies n) loose bodies t
