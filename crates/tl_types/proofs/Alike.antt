-- The test for the same tree holds exactly of equal types.
use Rattle.std.proofs.Common.{◌≡◌, Bool, true, false, ◌&&◌, List, [], ◌∷◌, refl, sym, ap, ◌∙◌, map, ◌↔◌, subst}
use Rattle.std.specs.Prelude.{bytes_eq, IsTrue}
use Rattle.std.proofs.lemmas.Bool.{and_parts, and_from, false≢true, eqb-true, eq-eqb}
use Rattle.std.proofs.lemmas.Bool.Decides.{Decides-int_eq}
use Rattle.std.proofs.lemmas.Slice.Eq.{bytes_eq-Decides}
use Rattle.tl_types.specs.declared.types.Ty.{Ty, out-Ty, roll-Ty, map-Ty, ind-Ty, fold-roll-Ty}
use Rattle.tl_types.specs.declared.types.Ty.TheOpen.{Ty-F, Nil, True, False, Int, IntLit, Str, StrLit, Value, Any, Union, Func, Rec, Map, Iface}
use Rattle.tl_types.specs.declared.types.Ty.TheViews.{the_lemmas}
use Rattle.tl_types.specs.declared.types.FieldOf.{FieldOf}
use Rattle.tl_types.specs.declared.types.TupleOf.{TupleOf}
use Rattle.tl_types.specs.declared.types.FuncOf.{FuncOf}
use Rattle.tl_types.specs.Same.{same_type, form_passes, each_passes, fields_pass, tuple_passes, tuples_pass, bool_eq}

pub roll_out : (t : Ty) → roll-Ty (out-Ty t) ≡ t
roll_out t = search the_lemmas

pub out_roll : (x : Ty-F Ty) → out-Ty (roll-Ty x) ≡ x
out_roll x = search the_lemmas

pub same_rolled : (x : Ty-F Ty) (t : Ty) → same_type (roll-Ty x) t ≡ form_passes (map-Ty Ty (Ty → Bool) same_type x) (out-Ty t)
same_rolled x t = ap (λ p. p t) (fold-roll-Ty (Ty → Bool) (λ x t. form_passes x (out-Ty t)) x)

bool_same : (a b : Bool) → bool_eq a b ≡ true → a ≡ b
bool_same true true e = refl
bool_same false false e = refl
bool_same true false e = absurd (false≢true e)
bool_same false true e = absurd (false≢true e)

bool_self : (a : Bool) → bool_eq a a ≡ true
bool_self true = refl
bool_self false = refl

-- a part that is mapped, at a field and at a tuple
abbrev field_map : {S X : Type 0} → (S → X) → FieldOf S → FieldOf X
field_map f g = record { name = g.name; is_const = g.is_const; ty = f g.ty }

abbrev tuple_map : {S X : Type 0} → (S → X) → TupleOf S → TupleOf X
tuple_map f p = record { items = map f p.items; tail = f p.tail }

-- f gives types of which the test is known to say right
module _ {S : Type 0} (f : S → Ty) (right : (s : S) (t : Ty) → same_type (f s) t ≡ true → f s ≡ t) where
  each_right : (ss : List S) (ts : List Ty) → each_passes (map same_type (map f ss)) ts ≡ true → map f ss ≡ ts
  each_right [] [] e = refl
  each_right [] (t ∷ ts) e = absurd (false≢true e)
  each_right (s ∷ ss) [] e = absurd (false≢true e)
  each_right (s ∷ ss) (t ∷ ts) e =
      let both = and_parts (same_type (f s) t) _ e in
      let head = right s t both.0 in
      let rest = each_right ss ts both.1 in
      cc

  field_right : (g : FieldOf S) (h : FieldOf Ty) → (bytes_eq g.name h.name && (bool_eq g.is_const h.is_const && same_type (f g.ty) h.ty)) ≡ true → field_map f g ≡ h
  field_right g h e =
      let first = and_parts (bytes_eq g.name h.name) _ e in
      let second = and_parts (bool_eq g.is_const h.is_const) _ first.1 in
      let names = (bytes_eq-Decides g.name h.name).0 first.0 in
      let consts = bool_same g.is_const h.is_const second.0 in
      let types = right g.ty h.ty second.1 in
      λ i. record { name = names i; is_const = consts i; ty = types i }

  fields_right : (gs : List (FieldOf S)) (hs : List (FieldOf Ty)) → fields_pass (map (field_map same_type) (map (field_map f) gs)) hs ≡ true → map (field_map f) gs ≡ hs
  fields_right [] [] e = refl
  fields_right [] (h ∷ hs) e = absurd (false≢true e)
  fields_right (g ∷ gs) [] e = absurd (false≢true e)
  fields_right (g ∷ gs) (h ∷ hs) e =
      let both = and_parts (bytes_eq g.name h.name && (bool_eq g.is_const h.is_const && same_type (f g.ty) h.ty)) _ e in
      let head = field_right g h both.0 in
      let rest = fields_right gs hs both.1 in
      cc

  tuple_right : (p : TupleOf S) (q : TupleOf Ty) → tuple_passes (tuple_map same_type (tuple_map f p)) q ≡ true → tuple_map f p ≡ q
  tuple_right p q e =
      let both = and_parts (each_passes (map same_type (map f p.items)) q.items) _ e in
      let items = each_right p.items q.items both.0 in
      let tail = right p.tail q.tail both.1 in
      λ i. record { items = items i; tail = tail i }

  tuples_right : (ps : List (TupleOf S)) (qs : List (TupleOf Ty)) → tuples_pass (map (tuple_map same_type) (map (tuple_map f) ps)) qs ≡ true → map (tuple_map f) ps ≡ qs
  tuples_right [] [] e = refl
  tuples_right [] (q ∷ qs) e = absurd (false≢true e)
  tuples_right (p ∷ ps) [] e = absurd (false≢true e)
  tuples_right (p ∷ ps) (q ∷ qs) e =
      let both = and_parts (tuple_passes (tuple_map same_type (tuple_map f p)) q) _ e in
      let head = tuple_right p q both.0 in
      let rest = tuples_right ps qs both.1 in
      cc

  func_right : (g : FuncOf S) (h : FuncOf Ty) → (tuple_passes (tuple_map same_type (tuple_map f g.params)) h.params && tuples_pass (map (tuple_map same_type) (map (tuple_map f) g.results.tuples)) h.results.tuples) ≡ true → Func (record { params = tuple_map f g.params; results = record { tuples = map (tuple_map f) g.results.tuples } }) ≡ Func h
  func_right g h e =
      let both = and_parts (tuple_passes (tuple_map same_type (tuple_map f g.params)) h.params) _ e in
      let params = tuple_right g.params h.params both.0 in
      let results = tuples_right g.results.tuples h.results.tuples both.1 in
      λ i. Func (record { params = params i; results = record { tuples = results i } })

  form_right : (y : Ty-F S) (z : Ty-F Ty) → form_passes (map-Ty Ty (Ty → Bool) same_type (map-Ty S Ty f y)) z ≡ true → map-Ty S Ty f y ≡ z
  form_right Nil Nil e = refl
  form_right True True e = refl
  form_right False False e = refl
  form_right Int Int e = refl
  form_right (IntLit a) (IntLit b) e = ap IntLit ((Decides-int_eq a b).0 e)
  form_right Str Str e = refl
  form_right (StrLit a) (StrLit b) e = ap StrLit ((bytes_eq-Decides a b).0 e)
  form_right Value Value e = refl
  form_right Any Any e = refl
  form_right (Union ss) (Union ts) e = ap Union (each_right ss ts e)
  form_right (Func g) (Func h) e = func_right g h e
  form_right (Rec gs) (Rec hs) e = ap Rec (fields_right gs hs e)
  form_right (Map k v) (Map l w) e =
      let both = and_parts (same_type (f k) l) _ e in
      let keys = right k l both.0 in
      let values = right v w both.1 in
      λ i. Map (keys i) (values i)
  form_right (Iface m) (Iface n) e = ap Iface (eqb-true m n e)
  form_right _ _ e = absurd (false≢true e)

pub same_right : (s t : Ty) → same_type s t ≡ true → s ≡ t
same_right s = ind-Ty (λ s. (t : Ty) → same_type s t ≡ true → s ≡ t) (λ x y is t e.
    let whole : same_type (roll-Ty x) t ≡ form_passes (map-Ty Ty (Ty → Bool) same_type x) (out-Ty t) = same_rolled x t in
    let form : x ≡ out-Ty t = sym is ∙ form_right (λ s. s.0) (λ s. s.1) y (out-Ty t) (ap (λ w. form_passes (map-Ty Ty (Ty → Bool) same_type w) (out-Ty t)) is ∙ (sym whole ∙ e)) in
    ap roll-Ty form ∙ roll_out t) s

-- f gives types of which each is known to be the same as itself
module _ {S : Type 0} (f : S → Ty) (itself : (s : S) → same_type (f s) (f s) ≡ true) where
  each_self : (ss : List S) → each_passes (map same_type (map f ss)) (map f ss) ≡ true
  each_self [] = refl
  each_self (s ∷ ss) = and_from _ _ (itself s) (each_self ss)

  fields_self : (gs : List (FieldOf S)) → fields_pass (map (field_map same_type) (map (field_map f) gs)) (map (field_map f) gs) ≡ true
  fields_self [] = refl
  fields_self (g ∷ gs) = and_from _ _ (and_from _ _ ((bytes_eq-Decides g.name g.name).1 refl) (and_from _ _ (bool_self g.is_const) (itself g.ty))) (fields_self gs)

  tuple_self : (p : TupleOf S) → tuple_passes (tuple_map same_type (tuple_map f p)) (tuple_map f p) ≡ true
  tuple_self p = and_from _ _ (each_self p.items) (itself p.tail)

  tuples_self : (ps : List (TupleOf S)) → tuples_pass (map (tuple_map same_type) (map (tuple_map f) ps)) (map (tuple_map f) ps) ≡ true
  tuples_self [] = refl
  tuples_self (p ∷ ps) = and_from _ _ (tuple_self p) (tuples_self ps)

  form_self : (y : Ty-F S) → form_passes (map-Ty Ty (Ty → Bool) same_type (map-Ty S Ty f y)) (map-Ty S Ty f y) ≡ true
  form_self Nil = refl
  form_self True = refl
  form_self False = refl
  form_self Int = refl
  form_self (IntLit a) = (Decides-int_eq a a).1 refl
  form_self Str = refl
  form_self (StrLit a) = (bytes_eq-Decides a a).1 refl
  form_self Value = refl
  form_self Any = refl
  form_self (Union ss) = each_self ss
  form_self (Func g) = and_from _ _ (tuple_self g.params) (tuples_self g.results.tuples)
  form_self (Rec gs) = fields_self gs
  form_self (Map k v) = and_from _ _ (itself k) (itself v)
  form_self (Iface n) = eq-eqb n n refl

pub same_self : (t : Ty) → same_type t t ≡ true
same_self t = ind-Ty (λ t. same_type t t ≡ true) (λ x y is.
    let form : form_passes (map-Ty Ty (Ty → Bool) same_type x) x ≡ true = subst (λ w. form_passes (map-Ty Ty (Ty → Bool) same_type w) w ≡ true) is (form_self (λ s. s.0) (λ s. s.1) y) in
    same_rolled x (roll-Ty x) ∙ (ap (form_passes (map-Ty Ty (Ty → Bool) same_type x)) (out_roll x) ∙ form)) t

-- the test, and equality
pub same_decides : (s t : Ty) → (same_type s t ≡ true) ↔ (s ≡ t)
same_decides s t = (same_right s t, λ e. subst (λ u. same_type s u ≡ true) e (same_self s))

same_cases : (r q : Bool) (P : Type 0) → (IsTrue r ↔ P) → ((q ≡ true) ↔ P) → r ≡ q
same_cases true true P rs qs = refl
same_cases false false P rs qs = refl
same_cases true false P rs qs = sym (qs.1 (rs.0 refl))
same_cases false true P rs qs = rs.1 (qs.0 refl)

-- what answers whether two types are equal answers as the test does
pub same_answer : (s t : Ty) (r : Bool) → (IsTrue r ↔ (s ≡ t)) → r ≡ same_type s t
same_answer s t r says = same_cases r (same_type s t) (s ≡ t) says (same_decides s t)
