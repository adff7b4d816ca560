-- Where there are no interfaces, a depth past that of both types decides the orders.
use Rattle.std.proofs.Common.{◌≡◌, ◌↔◌, refl, sym, ap, subst, ◌∙◌, ℕ, zero, suc, ◌+◌, ◌≤◌, Bool, true, false, cond, ◌&&◌, ◌||◌, List, [], ◌∷◌, ◌++◌, map, Some, get_or, ◌⊎◌, inl, inr, arith}
use Rattle.std.specs.Prelude.{max, fold, flat_map, find, filter, not, Contains}
use Rattle.std.specs.List.{list_any, list_all}
use Rattle.std.proofs.lemmas.Bool.{and_parts, and_from, false≢true}
use Rattle.std.proofs.lemmas.List.{map-append}
use Rattle.std.proofs.lemmas.List.Folds.{list_all-append}
use Rattle.tl_types.specs.declared.types.Ty.{Ty, out-Ty, roll-Ty, map-Ty, ind-Ty, fold-roll-Ty}
use Rattle.tl_types.specs.declared.types.Ty.TheOpen.{Ty-F, Nil, Value, Any, Union, Func, Rec, Map, Iface}
use Rattle.tl_types.specs.declared.types.Ty.TheVariants as ty
use Rattle.tl_types.specs.declared.types.FieldOf.{FieldOf}
use Rattle.tl_types.specs.declared.types.TupleOf.{TupleOf}
use Rattle.tl_types.specs.declared.types.FuncOf.{FuncOf}
use Rattle.tl_types.specs.Types.{Field, members, unfold_form, unfolded}
use Rattle.tl_types.specs.Sizes.{in_tuple, components, greatest, type_depth}
use Rattle.tl_types.specs.Same.{same_type}
use Rattle.tl_types.specs.Unions.{is_any, is_value, or_nil, distinct, tuple_place}
use Rattle.tl_types.specs.Below.{Test, record_below, tuple_below, results_below, function_below, map_below, form_below, member_below, step, below, IsBelow}
use Rattle.tl_types.specs.Cases.{FieldBelow}
use Rattle.tl_types.proofs.Alike.{out_roll}
use Rattle.tl_types.proofs.Bools.{and_implies, or_implies, all_flat}
use Rattle.tl_types.proofs.Lists.{all_contains, all_from_contains, any_contains, any_from_contains}
use Rattle.tl_types.proofs.Members.{form_members, members_is, out_of}
use Rattle.tl_types.proofs.Mono.{below_falls}
use Rattle.tl_types.proofs.Parts.{Holds, results_apart, results_joined, record_apart, record_joined, map_apart, map_joined}
use Rattle.tl_types.proofs.Places.{place_of_tuple, tuple_of_places}
use Rattle.tl_types.proofs.UnionLaws.{cases, all_kept, bare, members_left, union_any, union_value}
use Rattle.tl_rules.specs.Orders.{order, AreOrders, plain_order, loose_order}

some_is : {A : Type 0} (a b : A) → Some a ≡ Some b → a ≡ b
some_is a b e = cc

-- ---- one step, by two tests of which the second holds where the first does on good types

module _ (P : Ty → Bool) (closed : (t : Ty) → P t ≡ true → P (or_nil t) ≡ true) (R S : Test)
    (to : (s t : Ty) → P s ≡ true → P t ≡ true → R s t ≡ true → S s t ≡ true) where
  got : (xs : List Ty) (d : Ty) (i : ℕ) → list_all P xs ≡ true → P d ≡ true → P (get_or xs i d) ≡ true
  got [] d i h k = k
  got (x ∷ xs) d zero h k = (and_parts (P x) (list_all P xs) h).0
  got (x ∷ xs) d (suc i) h k = got xs d i (and_parts (P x) (list_all P xs) h).1 k

  place_good : (p : TupleOf Ty) (i : ℕ) → list_all P (in_tuple p) ≡ true → P (tuple_place p i) ≡ true
  place_good p i h =
      let both = and_parts (list_all P p.items) (P p.tail && true) (sym (list_all-append P p.items (p.tail ∷ [])) ∙ h) in
      got p.items (or_nil p.tail) i both.0 (closed p.tail (and_parts (P p.tail) true both.1).0)

  tuple_rel : (p q : TupleOf Ty) → list_all P (in_tuple p) ≡ true → list_all P (in_tuple q) ≡ true → tuple_below R p q ≡ true → tuple_below S p q ≡ true
  tuple_rel p q hp hq e =
      tuple_of_places S p q (λ i. to (tuple_place p i) (tuple_place q i) (place_good p i hp) (place_good q i hq) (place_of_tuple R p q e i))

  tuple_good : (ps : List (TupleOf Ty)) (p : TupleOf Ty) → list_all P (flat_map in_tuple ps) ≡ true → Contains ps p → list_all P (in_tuple p) ≡ true
  tuple_good ps p h here = all_contains (λ q. list_all P (in_tuple q)) ps p (sym (all_flat P in_tuple ps) ∙ h) here

  results_rel : (ps qs : List (TupleOf Ty)) → list_all P (flat_map in_tuple ps) ≡ true → list_all P (flat_map in_tuple qs) ≡ true → results_below R ps qs ≡ true → results_below S ps qs ≡ true
  results_rel ps qs hp hq e =
      results_joined S ps qs (λ p here.
      let found = results_apart R ps qs e p here in
      (found.0, found.1, λ i. to (tuple_place p i) (tuple_place found.0 i) (place_good p i (tuple_good ps p hp here)) (place_good found.0 i (tuple_good qs found.0 hq found.1)) (found.2 i)))

  function_rel : (f g : FuncOf Ty) → list_all P (components (Func f)) ≡ true → list_all P (components (Func g)) ≡ true → function_below R f g ≡ true → function_below S f g ≡ true
  function_rel f g hf hg =
      let df = and_parts (list_all P (in_tuple f.params)) (list_all P (flat_map in_tuple f.results.tuples)) (sym (list_all-append P (in_tuple f.params) (flat_map in_tuple f.results.tuples)) ∙ hf) in
      let dg = and_parts (list_all P (in_tuple g.params)) (list_all P (flat_map in_tuple g.results.tuples)) (sym (list_all-append P (in_tuple g.params) (flat_map in_tuple g.results.tuples)) ∙ hg) in
      and_implies _ _ _ _ (tuple_rel g.params f.params dg.0 df.0) (results_rel f.results.tuples g.results.tuples df.1 dg.1)

  found_good : (q : Field → Bool) (fs : List Field) (f : Field) → list_all P (map (λ (g : Field). g.ty) fs) ≡ true → find q fs ≡ Some f → P f.ty ≡ true
  found_good q [] f h e = let z : ⊥ = cc in absurd z
  found_good q (g ∷ gs) f h e =
      let both = and_parts (P g.ty) (list_all P (map (λ (x : Field). x.ty) gs)) h in
      go (q g) e both.0 (found_good q gs f both.1)
    where
      go : (b : Bool) → cond b (Some g) (find q gs) ≡ Some f → P g.ty ≡ true → (find q gs ≡ Some f → P f.ty ≡ true) → P f.ty ≡ true
      go true s here there = subst (λ (x : Field). P x.ty ≡ true) (some_is g f s) here
      go false s here there = there s

  field_rel : (f g : Field) → P f.ty ≡ true → P g.ty ≡ true → FieldBelow (Holds R) f g → FieldBelow (Holds S) f g
  field_rel f g hf hg h = record {
    types = to f.ty g.ty hf hg h.types;
    mutable = λ e. let m = h.mutable e in (m.0, to g.ty f.ty hg hf m.1);
  }

  record_rel : (fs gs : List Field) → list_all P (components (Rec fs)) ≡ true → list_all P (components (Rec gs)) ≡ true → record_below R fs gs ≡ true → record_below S fs gs ≡ true
  record_rel fs gs hf hg e =
      record_joined S fs gs (λ name g is.
      let found = record_apart R fs gs e name g is in
      (found.0, found.1, field_rel found.0 g (found_good _ fs found.0 hf found.1) (found_good _ gs g hg is) found.2))

  map_rel : (k v l w : Ty) → list_all P (k ∷ v ∷ []) ≡ true → list_all P (l ∷ w ∷ []) ≡ true → map_below R k v l w ≡ true → map_below S k v l w ≡ true
  map_rel k v l w hf hg e =
      let parts = map_apart R k v l w e in
      let kv = and_parts (P k) (P v && true) hf in
      let lw = and_parts (P l) (P w && true) hg in
      let v_good = (and_parts (P v) true kv.1).0 in
      let w_good = (and_parts (P w) true lw.1).0 in
      map_joined S k v l w (to k l kv.0 lw.0 parts.0.0, to l k lw.0 kv.0 parts.0.1) (to v w v_good w_good parts.1.0, to w v w_good v_good parts.1.1)

  form_rel : (x y : Ty-F Ty) → list_all P (components x) ≡ true → list_all P (components y) ≡ true → form_below R x y ≡ true → form_below S x y ≡ true
  form_rel (Func f) (Func g) hx hy e = function_rel f g hx hy e
  form_rel (Rec fs) (Rec gs) hx hy e = record_rel fs gs hx hy e
  form_rel (Map k v) (Map l w) hx hy e = map_rel k v l w hx hy e
  form_rel _ _ hx hy e = e

  -- an interface that isn't there stands for the record without fields
  unfolded_good : (x : Ty-F Ty) → list_all P (components x) ≡ true → list_all P (components (unfold_form [] x)) ≡ true
  unfolded_good (Iface n) h = refl
  unfolded_good x h = h

  step_rel : (loose : Bool) (s t : Ty) → list_all (λ m. list_all P (components (out-Ty m))) (members s) ≡ true → list_all (λ m. list_all P (components (out-Ty m))) (members t) ≡ true
      → step loose [] R s t ≡ true → step loose [] S s t ≡ true
  step_rel loose s t hs ht e =
      all_from_contains (λ a. (loose && is_any a) || list_any (member_below [] S a) (members t)) (members s) (λ a here.
      or_implies (loose && is_any a) (list_any (member_below [] R a) (members t)) (loose && is_any a) (list_any (member_below [] S a) (members t)) (λ z. z)
      (λ z.
      let found = any_contains (member_below [] R a) (members t) z in
      any_from_contains (member_below [] S a) (members t) found.0 found.1
      (form_rel (unfolded [] a) (unfolded [] found.0)
      (unfolded_good (out-Ty a) (all_contains (λ m. list_all P (components (out-Ty m))) (members s) a hs here))
      (unfolded_good (out-Ty found.0) (all_contains (λ m. list_all P (components (out-Ty m))) (members t) found.0 ht found.1))
      found.2))
      (all_contains (λ a. (loose && is_any a) || list_any (member_below [] R a) (members t)) (members s) a e here))

-- ---- types in which components nest at most n deep

abbrev shallow_by : (Ty → Bool) → Ty → Bool
shallow_by P t = list_all (λ m. list_all P (components (out-Ty m))) (members t)

abbrev shallow : ℕ → Ty → Bool
shallow zero t = shallow_by (λ _. false) t
shallow (suc n) t = shallow_by (shallow n) t

all_distinct : (p : Ty → Bool) (ts : List Ty) → list_all p ts ≡ true → list_all p (distinct ts) ≡ true
all_distinct p [] h = refl
all_distinct p (t ∷ ts) h =
    let both = and_parts (p t) (list_all p ts) h in
    and_from (p t) (list_all p (filter (λ u. not (same_type t u)) (distinct ts))) both.0 (all_kept p (λ u. not (same_type t u)) (distinct ts) (all_distinct p ts both.1))

module _ (P : Ty → Bool) where
  abbrev good_one : Ty → Bool
  good_one m = list_all P (components (out-Ty m))

  alone_good : (t : Ty) (x : Ty-F Ty) → roll-Ty x ≡ t → members t ≡ t ∷ [] → list_all P (components x) ≡ true → shallow_by P t ≡ true
  alone_good t x is single h = ap (list_all good_one) single ∙ ap (λ b. b && true) (ap (λ y. list_all P (components y)) (out_of t x is) ∙ h)

  nil_good : shallow_by P ty.Nil ≡ true
  nil_good = alone_good ty.Nil Nil ty.rolls-Nil refl refl

  or_nil_good : (t : Ty) → shallow_by P t ≡ true → shallow_by P (or_nil t) ≡ true
  or_nil_good t h = split (cases (list_any is_any flat)) (cases (list_any is_value flat))
    where
      flat : List Ty
      flat = flat_map members (t ∷ ty.Nil ∷ [])

      all_flat_good : list_all good_one flat ≡ true
      all_flat_good = all_flat good_one members (t ∷ ty.Nil ∷ []) ∙ and_from (shallow_by P t) (shallow_by P ty.Nil && true) h (ap (λ b. b && true) nil_good)

      split : (list_any is_any flat ≡ true) ⊎ (list_any is_any flat ≡ false) → (list_any is_value flat ≡ true) ⊎ (list_any is_value flat ≡ false) → shallow_by P (or_nil t) ≡ true
      split (inl any) v = ap (shallow_by P) (union_any (t ∷ ty.Nil ∷ []) any) ∙ alone_good ty.Any Any ty.rolls-Any refl refl
      split (inr any) (inl v) = ap (shallow_by P) (union_value (t ∷ ty.Nil ∷ []) any v) ∙ alone_good ty.Value Value ty.rolls-Value refl refl
      split (inr any) (inr v) = ap (list_all good_one) (members_left (t ∷ ty.Nil ∷ []) any v) ∙ all_distinct good_one (filter (bare flat) flat) (all_kept good_one (bare flat) flat all_flat_good)

shallow_or_nil : (n : ℕ) (t : Ty) → shallow n t ≡ true → shallow n (or_nil t) ≡ true
shallow_or_nil zero t h = or_nil_good (λ _. false) t h
shallow_or_nil (suc n) t h = or_nil_good (shallow n) t h

-- one depth more says the same of them
rise : (loose : Bool) (n : ℕ) (s t : Ty) → shallow n s ≡ true → shallow n t ≡ true → below loose [] (suc n) s t ≡ true → below loose [] (suc (suc n)) s t ≡ true
rise loose zero s t hs ht e = step_rel (λ _. false) (λ u h. absurd (false≢true h)) (below loose [] zero) (below loose [] (suc zero)) (λ u v h k f. absurd (false≢true h)) loose s t hs ht e
rise loose (suc n) s t hs ht e = step_rel (shallow n) (shallow_or_nil n) (below loose [] (suc n)) (below loose [] (suc (suc n))) (rise loose n) loose s t hs ht e

-- ---- they nest at most as deep as the type is

tuple_comp : {A B : Type 0} (f : A → B) (p : TupleOf A) → map f p.items ++ f p.tail ∷ [] ≡ map f (in_tuple p)
tuple_comp f p = sym (map-append f p.items (p.tail ∷ []))

tuples_comp : {A B : Type 0} (f : A → B) (ps : List (TupleOf A)) → flat_map in_tuple (map (λ (p : TupleOf A). record { items = map f p.items; tail = f p.tail }) ps) ≡ map f (flat_map in_tuple ps)
tuples_comp f [] = refl
tuples_comp f (p ∷ ps) =
    ap (λ z. z ++ flat_map in_tuple (map (λ (q : TupleOf _). record { items = map f q.items; tail = f q.tail }) ps)) (tuple_comp f p)
    ∙ (ap (λ z. map f (in_tuple p) ++ z) (tuples_comp f ps) ∙ sym (map-append f (in_tuple p) (flat_map in_tuple ps)))

fields_comp : {A B : Type 0} (f : A → B) (fs : List (FieldOf A)) → map (λ (g : FieldOf B). g.ty) (map (λ (g : FieldOf A). record { name = g.name; is_const = g.is_const; ty = f g.ty }) fs) ≡ map f (map (λ (g : FieldOf A). g.ty) fs)
fields_comp f [] = refl
fields_comp f (g ∷ gs) = ap (λ z. f g.ty ∷ z) (fields_comp f gs)

map_comp : {A B : Type 0} (f : A → B) (x : Ty-F A) → components (map-Ty A B f x) ≡ map f (components x)
map_comp f (Union ts) = refl
map_comp f (Func g) =
    ap (λ z. z ++ flat_map in_tuple (map (λ (q : TupleOf _). record { items = map f q.items; tail = f q.tail }) g.results.tuples)) (tuple_comp f g.params)
    ∙ (ap (λ z. map f (in_tuple g.params) ++ z) (tuples_comp f g.results.tuples) ∙ sym (map-append f (in_tuple g.params) (flat_map in_tuple g.results.tuples)))
map_comp f (Rec fs) = fields_comp f fs
map_comp f (Map k v) = refl
map_comp f x = refl

depth_rolled : (x : Ty-F Ty) → type_depth (roll-Ty x) ≡ 1 + greatest (map type_depth (components x))
depth_rolled x = fold-roll-Ty ℕ (λ x. 1 + greatest (components x)) x ∙ ap (λ ns. 1 + greatest ns) (map_comp type_depth x)

fold_above : (ns : List ℕ) (a k : ℕ) → fold max a ns ≤ k → a ≤ k
fold_above [] a k h = h
fold_above (n ∷ ns) a k h = let up = fold_above ns (max a n) k h in omega (arith, up)

module _ {S : Type 0} (f : S → Ty) (good : (s : S) (n : ℕ) → type_depth (f s) ≤ n → shallow n (f s) ≡ true) where
  each_good : (ss : List S) (a k : ℕ) → fold max a (map type_depth (map f ss)) ≤ k → list_all (shallow k) (map f ss) ≡ true
  each_good [] a k h = refl
  each_good (s ∷ ss) a k h =
      let up = fold_above (map type_depth (map f ss)) (max a (type_depth (f s))) k h in
      and_from (shallow k (f s)) (list_all (shallow k) (map f ss)) (good s k (omega (arith, up))) (each_good ss (max a (type_depth (f s))) k h)

  union_good : (ss : List S) (a k : ℕ) → fold max a (map type_depth (map f ss)) ≤ k → list_all (good_one (shallow k)) (flat_map members (map f ss)) ≡ true
  union_good [] a k h = refl
  union_good (s ∷ ss) a k h =
      let up = fold_above (map type_depth (map f ss)) (max a (type_depth (f s))) k h in
      list_all-append (good_one (shallow k)) (members (f s)) (flat_map members (map f ss))
      ∙ and_from (shallow (suc k) (f s)) (list_all (good_one (shallow k)) (flat_map members (map f ss))) (good s (suc k) (omega (arith, up))) (union_good ss (max a (type_depth (f s))) k h)

  single_good : (y : Ty-F S) (k : ℕ) → form_members (roll-Ty (map-Ty S Ty f y)) (map-Ty S Ty f y) ≡ roll-Ty (map-Ty S Ty f y) ∷ [] → greatest (map type_depth (components (map-Ty S Ty f y))) ≤ k
      → shallow (suc k) (roll-Ty (map-Ty S Ty f y)) ≡ true
  single_good y k one h =
      let t = roll-Ty (map-Ty S Ty f y) in
      let few : greatest (map type_depth (map f (components y))) ≤ k = subst (λ cs. greatest (map type_depth cs) ≤ k) (map_comp f y) h in
      alone_good (shallow k) t (map-Ty S Ty f y) refl (members_is t ∙ (ap (form_members t) (out_roll (map-Ty S Ty f y)) ∙ one))
      (ap (list_all (shallow k)) (map_comp f y) ∙ each_good (components y) 0 k few)

  rolled_good : (y : Ty-F S) (k : ℕ) → greatest (map type_depth (components (map-Ty S Ty f y))) ≤ k → shallow (suc k) (roll-Ty (map-Ty S Ty f y)) ≡ true
  rolled_good (Union ss) k h =
      let t = roll-Ty (Union (map f ss)) in
      ap (list_all (good_one (shallow k))) (members_is t ∙ ap (form_members t) (out_roll (Union (map f ss)))) ∙ union_good ss 0 k h
  rolled_good y k h = single_good y k refl h

  level_form : (y : Ty-F S) (n : ℕ) → type_depth (roll-Ty (map-Ty S Ty f y)) ≤ n → shallow n (roll-Ty (map-Ty S Ty f y)) ≡ true
  level_form y zero h = let d = depth_rolled (map-Ty S Ty f y) in absurd (omega (arith, h, d))
  level_form y (suc k) h = let d = depth_rolled (map-Ty S Ty f y) in rolled_good y k (omega (arith, h, d))

level : (t : Ty) (n : ℕ) → type_depth t ≤ n → shallow n t ≡ true
level t =
    ind-Ty (λ t. (n : ℕ) → type_depth t ≤ n → shallow n t ≡ true)
    (λ x y is. subst (λ z. (n : ℕ) → type_depth (roll-Ty z) ≤ n → shallow n (roll-Ty z) ≡ true) is (level_form (λ s. s.0) (λ s. s.1) y)) t

-- ---- the orders are decided

module _ (loose : Bool) (s t : Ty) where
  reach : (k n : ℕ) → type_depth s ≤ n → type_depth t ≤ n → below loose [] (suc n) s t ≡ true → (m : ℕ) → m ≡ suc n + k → below loose [] m s t ≡ true
  reach zero n hs ht e m is = let here : suc n ≡ m = omega (arith, is) in subst (λ z. below loose [] z s t ≡ true) here e
  reach (suc k) n hs ht e m is = reach k (suc n) (omega (arith, hs)) (omega (arith, ht)) (rise loose n s t (level s n hs) (level t n ht) e) m (omega (arith, is))

  lower : (k m n : ℕ) → n ≡ m + k → below loose [] n s t ≡ true → below loose [] m s t ≡ true
  lower zero m n is e = let here : n ≡ m = omega (arith, is) in subst (λ z. below loose [] z s t ≡ true) here e
  lower (suc k) m n is e = let here : n ≡ suc (m + k) = omega (arith, is) in lower k m (m + k) refl (below_falls loose [] (m + k) s t (subst (λ z. below loose [] z s t ≡ true) here e))

  decided : (order loose s t ≡ true) ↔ IsBelow loose [] s t
  decided =
      let n = max (type_depth s) (type_depth t) in (
        (λ e. record { to = λ m. lower (suc n) m (m + suc n) refl (reach m n (omega arith) (omega arith) e (m + suc n) (omega arith)) }),
        (λ h. h.to (suc n)),
      )

pub are_orders : AreOrders [] plain_order loose_order
are_orders = record { subtype = decided false; consistent = decided true }
