-- What is below by one test is below by any test that holds wherever the first does.
use Rattle.std.proofs.Common.{◌≡◌, ℕ, zero, suc, Bool, true, false, ◌&&◌, ◌||◌, not, List, refl, max, length}
use Rattle.std.specs.Prelude.{Option, Some, None}
use Rattle.std.specs.List.{list_any}
use Rattle.std.proofs.lemmas.Bool.{false≢true}
use Rattle.tl_types.specs.declared.types.Ty.{Ty}
use Rattle.tl_types.specs.declared.types.Ty.TheOpen.{Ty-F, Func, Rec, Map}
use Rattle.tl_types.specs.declared.types.TupleOf.{TupleOf}
use Rattle.tl_types.specs.declared.types.FuncOf.{FuncOf}
use Rattle.tl_types.specs.Types.{Field, Bodies, members, unfolded}
use Rattle.tl_types.specs.Unions.{is_any, or_nil, tuple_place}
use Rattle.tl_types.specs.Below.{Test, field_below, has_below, named, record_below, places_below, tuple_below, results_below, function_below, map_below, form_below, member_below, step, below}
use Rattle.tl_types.proofs.Bools.{and_implies, or_implies, all_implies, any_implies}

abbrev pub Implies : Test → Test → Type 0
Implies A B = (s t : Ty) → A s t ≡ true → B s t ≡ true

module _ (A B : Test) (to : Implies A B) where
  field_mono : (f g : Field) → field_below A f g ≡ true → field_below B f g ≡ true
  field_mono f g = and_implies _ _ _ _ (to f.ty g.ty) (or_implies _ _ _ _ (λ e. e) (and_implies (not f.is_const) (A g.ty f.ty) (not f.is_const) (B g.ty f.ty) (λ e. e) (to g.ty f.ty)))

  has_mono : (f g : Option Field) → has_below A f g ≡ true → has_below B f g ≡ true
  has_mono f None e = refl
  has_mono None (Some g) e = absurd (false≢true e)
  has_mono (Some f) (Some g) e = field_mono f g e

  record_mono : (fs gs : List Field) → record_below A fs gs ≡ true → record_below B fs gs ≡ true
  record_mono fs gs = all_implies (λ g. has_below A (named g.name fs) (named g.name gs)) (λ g. has_below B (named g.name fs) (named g.name gs)) (λ g. has_mono (named g.name fs) (named g.name gs)) gs

  places_mono : (p q : TupleOf Ty) (n : ℕ) → places_below A p q n ≡ true → places_below B p q n ≡ true
  places_mono p q zero e = refl
  places_mono p q (suc i) e = and_implies (places_below A p q i) (A (tuple_place p i) (tuple_place q i)) (places_below B p q i) (B (tuple_place p i) (tuple_place q i)) (places_mono p q i) (to (tuple_place p i) (tuple_place q i)) e

  tuple_mono : (p q : TupleOf Ty) → tuple_below A p q ≡ true → tuple_below B p q ≡ true
  tuple_mono p q = and_implies _ _ _ _ (places_mono p q (max (length p.items) (length q.items))) (to (or_nil p.tail) (or_nil q.tail))

  results_mono : (ps qs : List (TupleOf Ty)) → results_below A ps qs ≡ true → results_below B ps qs ≡ true
  results_mono ps qs = all_implies (λ p. list_any (tuple_below A p) qs) (λ p. list_any (tuple_below B p) qs) (λ p. any_implies (tuple_below A p) (tuple_below B p) (tuple_mono p) qs) ps

  function_mono : (f g : FuncOf Ty) → function_below A f g ≡ true → function_below B f g ≡ true
  function_mono f g = and_implies _ _ _ _ (tuple_mono g.params f.params) (results_mono f.results.tuples g.results.tuples)

  map_mono : (k v l w : Ty) → map_below A k v l w ≡ true → map_below B k v l w ≡ true
  map_mono k v l w = and_implies _ _ _ _ (and_implies (A k l) (A l k) (B k l) (B l k) (to k l) (to l k)) (and_implies (A v w) (A w v) (B v w) (B w v) (to v w) (to w v))

  form_mono : (x y : Ty-F Ty) → form_below A x y ≡ true → form_below B x y ≡ true
  form_mono (Func f) (Func g) e = function_mono f g e
  form_mono (Rec fs) (Rec gs) e = record_mono fs gs e
  form_mono (Map k v) (Map l w) e = map_mono k v l w e
  form_mono _ _ e = e

  pub step_mono : (loose : Bool) (bodies : Bodies) → Implies (step loose bodies A) (step loose bodies B)
  step_mono loose bodies s t = all_implies
      (λ a. (loose && is_any a) || list_any (member_below bodies A a) (members t)) (λ a. (loose && is_any a) || list_any (member_below bodies B a) (members t))
      (λ a. or_implies (loose && is_any a) _ (loose && is_any a) _ (λ e. e) (any_implies (member_below bodies A a) (member_below bodies B a) (λ b. form_mono (unfolded bodies a) (unfolded bodies b)) (members t)))
      (members s)

-- what is below to depth n + 1 is below to depth n
pub below_falls : (loose : Bool) (bodies : Bodies) (n : ℕ) → Implies (below loose bodies (suc n)) (below loose bodies n)
below_falls loose bodies zero s t e = refl
below_falls loose bodies (suc n) s t e = step_mono (below loose bodies (suc n)) (below loose bodies n) (below_falls loose bodies n) loose bodies s t e

-- what is below plainly is below consistently
form_loosens : (loose : Bool) (bodies : Bodies) (R : Test) → Implies (step false bodies R) (step loose bodies R)
form_loosens loose bodies R s t = all_implies (λ a. list_any (member_below bodies R a) (members t)) (λ a. (loose && is_any a) || list_any (member_below bodies R a) (members t)) (λ a. or_implies false _ (loose && is_any a) _ (λ e. absurd (false≢true e)) (λ e. e)) (members s)

pub below_loosens : (loose : Bool) (bodies : Bodies) (n : ℕ) → Implies (below false bodies n) (below loose bodies n)
below_loosens loose bodies zero s t e = refl
below_loosens loose bodies (suc n) s t e = step_mono (below false bodies n) (below loose bodies n) (below_loosens loose bodies n) loose bodies s t (form_loosens loose bodies (below false bodies n) s t e)
