-- Comparisons say yes to more where components compare to more.
use Rattle.std.proofs.Common.{◌≡◌, true, List}
use Rattle.std.proofs.lemmas.Bool.{and_parts, and_from}
use Rattle.tl_types.specs.declared.types.Ty.{Ty}
use Rattle.tl_types.specs.declared.types.Ty.TheOpen.{Ty-F, Func, Rec, Map}
use Rattle.tl_types.specs.declared.types.TupleOf.{TupleOf}
use Rattle.tl_types.specs.declared.types.FuncOf.{FuncOf}
use Rattle.tl_types.specs.Types.{Field, Bodies, members, unfolded}
use Rattle.tl_types.specs.Below.{Test, record_below, tuple_below, results_below, function_below, map_below, form_below, member_below}
use Rattle.tl_types.specs.Cases.{FieldBelow}
use Rattle.std.specs.List.{list_any}
use Rattle.tl_types.proofs.Bools.{any_implies}
use Rattle.tl_types.proofs.Mono.{Implies}
use Rattle.tl_types.proofs.Parts.{Holds, tuple_apart, tuple_joined, results_apart, results_joined, record_apart, record_joined, map_apart, map_joined}

module _ (A B : Test) (to : Implies A B) where
  pub tuple_mono : (p q : TupleOf Ty) → tuple_below A p q ≡ true → tuple_below B p q ≡ true
  tuple_mono p q e = tuple_joined B p q (λ i. to _ _ (tuple_apart A p q e i))

  results_mono : (ps qs : List (TupleOf Ty)) → results_below A ps qs ≡ true → results_below B ps qs ≡ true
  results_mono ps qs e = results_joined B ps qs (λ p here. let found = results_apart A ps qs e p here in (found.0, found.1, λ i. to _ _ (found.2 i)))

  function_mono : (f g : FuncOf Ty) → function_below A f g ≡ true → function_below B f g ≡ true
  function_mono f g e =
      let both = and_parts (tuple_below A g.params f.params) (results_below A f.results.tuples g.results.tuples) e in
      and_from (tuple_below B g.params f.params) (results_below B f.results.tuples g.results.tuples) (tuple_mono g.params f.params both.0) (results_mono f.results.tuples g.results.tuples both.1)

  field_mono : (f g : Field) → FieldBelow (Holds A) f g → FieldBelow (Holds B) f g
  field_mono f g h = record { types = to f.ty g.ty h.types; mutable = λ e. ((h.mutable e).0, to g.ty f.ty (h.mutable e).1) }

  record_mono : (fs gs : List Field) → record_below A fs gs ≡ true → record_below B fs gs ≡ true
  record_mono fs gs e = record_joined B fs gs (λ name g is. let found = record_apart A fs gs e name g is in (found.0, found.1, field_mono found.0 g found.2))

  map_mono : (k v l w : Ty) → map_below A k v l w ≡ true → map_below B k v l w ≡ true
  map_mono k v l w e =
      let all = map_apart A k v l w e in
      map_joined B k v l w (to k l all.0.0, to l k all.0.1) (to v w all.1.0, to w v all.1.1)

  form_mono : (x y : Ty-F Ty) → form_below A x y ≡ true → form_below B x y ≡ true
  form_mono (Func f) (Func g) e = function_mono f g e
  form_mono (Rec fs) (Rec gs) e = record_mono fs gs e
  form_mono (Map k v) (Map l w) e = map_mono k v l w e
  form_mono _ _ e = e

  pub member_mono : (bodies : Bodies) (s t : Ty) → member_below bodies A s t ≡ true → member_below bodies B s t ≡ true
  member_mono bodies s t = form_mono (unfolded bodies s) (unfolded bodies t)

-- the same of a type and the members of another
pub some_mono : (bodies : Bodies) (s t : Ty) (A B : Test) → Implies A B → list_any (member_below bodies A s) (members t) ≡ true → list_any (member_below bodies B s) (members t) ≡ true
some_mono bodies s t A B to = any_implies (member_below bodies A s) (member_below bodies B s) (λ u. member_mono A B to bodies s u) (members t)
