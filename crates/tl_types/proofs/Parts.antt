-- Comparisons of fields, of records and of results, taken apart.
use Rattle.std.proofs.Common.{◌≡◌, Bool, true, false, ◌&&◌, ◌||◌, not, List, refl, ap, ◌∙◌, subst}
use Rattle.std.specs.Prelude.{Option, Some, None}
use Rattle.std.specs.List.{list_any}
use Rattle.std.proofs.lemmas.Bool.{and_parts, and_from, false≢true}
use Rattle.tl_types.specs.declared.types.Ty.{Ty}
use Rattle.tl_types.specs.declared.types.TupleOf.{TupleOf}
use Rattle.tl_types.specs.Types.{Field}
use Rattle.tl_types.specs.Below.{Test, field_below, has_below, named, record_below, tuple_below, results_below, map_below}
use Rattle.tl_types.specs.Cases.{Relation, EachPlace, EachTuple, FieldBelow, EachField}
use Rattle.tl_types.proofs.Lists.{all_contains, all_from_contains, any_contains, any_from_contains}
use Rattle.tl_types.proofs.Places.{place_of_tuple, tuple_of_places}
use Rattle.tl_types.proofs.Transitive.{all_named}

abbrev pub Holds : Test → Relation
Holds R s t = R s t ≡ true

module _ (R : Test) where
  pub tuple_apart : (p q : TupleOf Ty) → tuple_below R p q ≡ true → EachPlace (Holds R) p q
  tuple_apart p q e i = place_of_tuple R p q e i

  pub tuple_joined : (p q : TupleOf Ty) → EachPlace (Holds R) p q → tuple_below R p q ≡ true
  tuple_joined p q each = tuple_of_places R p q each

  pub results_apart : (ps qs : List (TupleOf Ty)) → results_below R ps qs ≡ true → EachTuple (Holds R) ps qs
  results_apart ps qs e p here =
      let found = any_contains (tuple_below R p) qs (all_contains (λ p. list_any (tuple_below R p) qs) ps p e here) in
      (found.0, found.1, tuple_apart p found.0 found.2)

  pub results_joined : (ps qs : List (TupleOf Ty)) → EachTuple (Holds R) ps qs → results_below R ps qs ≡ true
  results_joined ps qs each = all_from_contains (λ p. list_any (tuple_below R p) qs) ps (λ p here. let found = each p here in any_from_contains (tuple_below R p) qs found.0 found.1 (tuple_joined p found.0 found.2))

  mutable_apart : (f g : Field) (fc gc : Bool) → (gc || (not fc && R g.ty f.ty)) ≡ true → gc ≡ false → (fc ≡ false) × Holds R g.ty f.ty
  mutable_apart f g fc true e is = absurd (cc)
  mutable_apart f g true false e is = absurd (false≢true e)
  mutable_apart f g false false e is = (refl, e)

  mutable_joined : (f g : Field) (fc gc : Bool) → (gc ≡ false → (fc ≡ false) × Holds R g.ty f.ty) → (gc || (not fc && R g.ty f.ty)) ≡ true
  mutable_joined f g fc true both = refl
  mutable_joined f g true false both = absurd (cc ((both refl).0))
  mutable_joined f g false false both = (both refl).1

  pub field_apart : (f g : Field) → field_below R f g ≡ true → FieldBelow (Holds R) f g
  field_apart f g e =
      let both = and_parts (R f.ty g.ty) (g.is_const || (not f.is_const && R g.ty f.ty)) e in
      record { types = both.0; mutable = mutable_apart f g f.is_const g.is_const both.1 }

  pub field_joined : (f g : Field) → FieldBelow (Holds R) f g → field_below R f g ≡ true
  field_joined f g h = and_from (R f.ty g.ty) (g.is_const || (not f.is_const && R g.ty f.ty)) h.types (mutable_joined f g f.is_const g.is_const h.mutable)

  has_apart : (f : Option Field) (g : Field) → has_below R f (Some g) ≡ true → (h : Field) × (f ≡ Some h) × FieldBelow (Holds R) h g
  has_apart None g e = absurd (false≢true e)
  has_apart (Some f) g e = (f, refl, field_apart f g e)

  has_joined : (f g : Option Field) → ((y : Field) → g ≡ Some y → (x : Field) × (f ≡ Some x) × FieldBelow (Holds R) x y) → has_below R f g ≡ true
  has_joined f None each = refl
  has_joined f (Some g) each = let found = each g refl in ap (λ x. has_below R x (Some g)) found.1 ∙ field_joined found.0 g found.2

  pub record_apart : (fs gs : List Field) → record_below R fs gs ≡ true → EachField (Holds R) fs gs
  record_apart fs gs e name g is = has_apart (named name fs) g (subst (λ h. has_below R (named name fs) h ≡ true) is (all_named (λ name. has_below R (named name fs) (named name gs)) name gs g is e))

  pub record_joined : (fs gs : List Field) → EachField (Holds R) fs gs → record_below R fs gs ≡ true
  record_joined fs gs each = all_from_contains (λ g. has_below R (named g.name fs) (named g.name gs)) gs (λ g here. has_joined (named g.name fs) (named g.name gs) (each g.name))

  both_apart : (s t : Ty) → (R s t && R t s) ≡ true → Holds R s t × Holds R t s
  both_apart s t e = let both = and_parts (R s t) (R t s) e in (both.0, both.1)

  pub map_apart : (k v l w : Ty) → map_below R k v l w ≡ true → (Holds R k l × Holds R l k) × (Holds R v w × Holds R w v)
  map_apart k v l w e = let both = and_parts (R k l && R l k) (R v w && R w v) e in (both_apart k l both.0, both_apart v w both.1)

  pub map_joined : (k v l w : Ty) → Holds R k l × Holds R l k → Holds R v w × Holds R w v → map_below R k v l w ≡ true
  map_joined k v l w keys values = and_from (R k l && R l k) (R v w && R w v) (and_from (R k l) (R l k) keys.0 keys.1) (and_from (R v w) (R w v) values.0 values.1)
