-- The size and the depth of a type by its form, and of what stands in one.
use Rattle.std.proofs.Common.{◌≡◌, ℕ, ◌+◌, List, [], ◌∷◌, ◌++◌, refl, sym, ap, ◌∙◌, map, arith}
use Rattle.std.specs.Prelude.{sum, sum_by, max, flat_map, fold}
use Rattle.std.proofs.lemmas.List.Sums.{sum_by-append, sum_by-cons, sum-map, sum_by_push, fold-append}
use Rattle.std.proofs.lemmas.List.Folds.{fold-map}
use Rattle.tl_types.specs.declared.types.Ty.{Ty, roll-Ty, map-Ty, fold-roll-Ty}
use Rattle.tl_types.specs.declared.types.Ty.TheOpen.{Ty-F, Union, Func, Rec, Map}
use Rattle.tl_types.specs.declared.types.Ty.TheVariants as ty
use Rattle.tl_types.specs.declared.types.FieldOf.{FieldOf}
use Rattle.tl_types.specs.declared.types.TupleOf.{TupleOf}
use Rattle.tl_types.specs.declared.types.FuncOf.{FuncOf}
use Rattle.tl_types.specs.Sizes.{type_size, type_depth, components, in_tuple, greatest}
use Rattle.tl_types.specs.Parts.{size_func, depth_func, deepest}

abbrev field_map : {S X : Type 0} → (S → X) → FieldOf S → FieldOf X
field_map f g = record { name = g.name; is_const = g.is_const; ty = f g.ty }

abbrev tuple_map : {S X : Type 0} → (S → X) → TupleOf S → TupleOf X
tuple_map f p = record { items = map f p.items; tail = f p.tail }

-- sums

module _ (f : Ty → ℕ) where
  sum_tuple : (p : TupleOf Ty) → sum (in_tuple (tuple_map f p)) ≡ sum_by f p.items + f p.tail
  sum_tuple p = sum_by_push (λ n. n) (map f p.items) (f p.tail) ∙ ap (λ n. n + f p.tail) (sum-map f p.items)

  sum_tuples : (ps : List (TupleOf Ty)) → sum (flat_map in_tuple (map (tuple_map f) ps)) ≡ sum_by (λ p. sum_by f p.items + f p.tail) ps
  sum_tuples [] = refl
  sum_tuples (p ∷ ps) =
      sum_by-append (λ n. n) (in_tuple (tuple_map f p)) (flat_map in_tuple (map (tuple_map f) ps))
      ∙ (ap (λ n. n + sum (flat_map in_tuple (map (tuple_map f) ps))) (sum_tuple p)
      ∙ (ap (λ n. (sum_by f p.items + f p.tail) + n) (sum_tuples ps)
      ∙ sym (sum_by-cons (λ p. sum_by f p.items + f p.tail) p ps)))

  sum_func : (g : FuncOf Ty) → sum (components (map-Ty Ty ℕ f (Func g))) ≡ (sum_by f g.params.items + f g.params.tail) + sum_by (λ p. sum_by f p.items + f p.tail) g.results.tuples
  sum_func g =
      sum_by-append (λ n. n) (in_tuple (tuple_map f g.params)) (flat_map in_tuple (map (tuple_map f) g.results.tuples))
      ∙ (ap (λ n. n + sum (flat_map in_tuple (map (tuple_map f) g.results.tuples))) (sum_tuple g.params)
      ∙ ap (λ n. (sum_by f g.params.items + f g.params.tail) + n) (sum_tuples g.results.tuples))

  sum_fields : (fs : List (FieldOf Ty)) → sum (map (λ g. g.ty) (map (field_map f) fs)) ≡ sum_by (λ g. f g.ty) fs
  sum_fields fs = fold-map (λ a n. a + n) (λ g. g.ty) 0 (map (field_map f) fs) ∙ fold-map (λ a g. a + g.ty) (field_map f) 0 fs

size_rolled : (x : Ty-F Ty) → type_size (roll-Ty x) ≡ 1 + sum (components (map-Ty Ty ℕ type_size x))
size_rolled x = fold-roll-Ty ℕ (λ x. 1 + sum (components x)) x

pub size_union : (t : Ty) (ms : List Ty) → t ≡ ty.Union ms → type_size t ≡ 1 + sum_by type_size ms
size_union t ms is = ap type_size (is ∙ sym (ty.rolls-Union ms)) ∙ (size_rolled (Union ms) ∙ ap (λ n. 1 + n) (sum-map type_size ms))

pub size_of_func : (t : Ty) (f : FuncOf Ty) → t ≡ ty.Func f → type_size t ≡ 1 + size_func f
size_of_func t f is = ap type_size (is ∙ sym (ty.rolls-Func f)) ∙ (size_rolled (Func f) ∙ ap (λ n. 1 + n) (sum_func type_size f))

pub size_rec : (t : Ty) (fs : List (FieldOf Ty)) → t ≡ ty.Rec fs → type_size t ≡ 1 + sum_by (λ f. type_size f.ty) fs
size_rec t fs is = ap type_size (is ∙ sym (ty.rolls-Rec fs)) ∙ (size_rolled (Rec fs) ∙ ap (λ n. 1 + n) (sum_fields type_size fs))

pub size_map : (t k v : Ty) → t ≡ ty.Map k v → type_size t ≡ 1 + (type_size k + type_size v)
size_map t k v is = ap type_size (is ∙ sym (ty.rolls-Map k v)) ∙ (size_rolled (Map k v) ∙ omega arith)

-- depths

deep_from : {X : Type 0} (f : X → ℕ) (a : ℕ) (xs : List X) → fold (λ s x. max s (f x)) a xs ≡ max a (deepest f xs)
deep_from f a [] = omega arith
deep_from f a (x ∷ xs) =
    let here = deep_from f (max a (f x)) xs in
    let there = deep_from f (max 0 (f x)) xs in
    omega (arith, here, there)

deep_append : {X : Type 0} (f : X → ℕ) (xs ys : List X) → deepest f (xs ++ ys) ≡ max (deepest f xs) (deepest f ys)
deep_append f xs ys = fold-append (λ s x. max s (f x)) 0 xs ys ∙ deep_from f (deepest f xs) ys

pub deep_cons : {X : Type 0} (f : X → ℕ) (x : X) (xs : List X) → deepest f (x ∷ xs) ≡ max (f x) (deepest f xs)
deep_cons f x xs = deep_from f (max 0 (f x)) xs ∙ ap (λ n. max n (deepest f xs)) (omega arith)

deep_map : {X : Type 0} (f : X → ℕ) (xs : List X) → greatest (map f xs) ≡ deepest f xs
deep_map f xs = fold-map max f 0 xs

module _ (f : Ty → ℕ) where
  deep_tuple : (p : TupleOf Ty) → greatest (in_tuple (tuple_map f p)) ≡ max (deepest f p.items) (f p.tail)
  deep_tuple p = deep_append (λ n. n) (map f p.items) (f p.tail ∷ []) ∙ (ap (λ n. max n (max 0 (f p.tail))) (deep_map f p.items) ∙ ap (max (deepest f p.items)) (omega arith))

  deep_tuples : (ps : List (TupleOf Ty)) → greatest (flat_map in_tuple (map (tuple_map f) ps)) ≡ deepest (λ p. max (deepest f p.items) (f p.tail)) ps
  deep_tuples [] = refl
  deep_tuples (p ∷ ps) =
      deep_append (λ n. n) (in_tuple (tuple_map f p)) (flat_map in_tuple (map (tuple_map f) ps))
      ∙ (ap (λ n. max n (greatest (flat_map in_tuple (map (tuple_map f) ps)))) (deep_tuple p)
      ∙ (ap (max (max (deepest f p.items) (f p.tail))) (deep_tuples ps)
      ∙ sym (deep_cons (λ p. max (deepest f p.items) (f p.tail)) p ps)))

  deep_func : (g : FuncOf Ty) → greatest (components (map-Ty Ty ℕ f (Func g))) ≡ max (max (deepest f g.params.items) (f g.params.tail)) (deepest (λ p. max (deepest f p.items) (f p.tail)) g.results.tuples)
  deep_func g =
      deep_append (λ n. n) (in_tuple (tuple_map f g.params)) (flat_map in_tuple (map (tuple_map f) g.results.tuples))
      ∙ (ap (λ n. max n (greatest (flat_map in_tuple (map (tuple_map f) g.results.tuples)))) (deep_tuple g.params)
      ∙ ap (max (max (deepest f g.params.items) (f g.params.tail))) (deep_tuples g.results.tuples))

  deep_fields : (fs : List (FieldOf Ty)) → greatest (map (λ g. g.ty) (map (field_map f) fs)) ≡ deepest (λ g. f g.ty) fs
  deep_fields fs = fold-map max (λ g. g.ty) 0 (map (field_map f) fs) ∙ fold-map (λ a g. max a g.ty) (field_map f) 0 fs

depth_rolled : (x : Ty-F Ty) → type_depth (roll-Ty x) ≡ 1 + greatest (components (map-Ty Ty ℕ type_depth x))
depth_rolled x = fold-roll-Ty ℕ (λ x. 1 + greatest (components x)) x

pub depth_union : (t : Ty) (ms : List Ty) → t ≡ ty.Union ms → type_depth t ≡ 1 + deepest type_depth ms
depth_union t ms is = ap type_depth (is ∙ sym (ty.rolls-Union ms)) ∙ (depth_rolled (Union ms) ∙ ap (λ n. 1 + n) (deep_map type_depth ms))

pub depth_of_func : (t : Ty) (f : FuncOf Ty) → t ≡ ty.Func f → type_depth t ≡ 1 + depth_func f
depth_of_func t f is = ap type_depth (is ∙ sym (ty.rolls-Func f)) ∙ (depth_rolled (Func f) ∙ ap (λ n. 1 + n) (deep_func type_depth f))

pub depth_rec : (t : Ty) (fs : List (FieldOf Ty)) → t ≡ ty.Rec fs → type_depth t ≡ 1 + deepest (λ f. type_depth f.ty) fs
depth_rec t fs is = ap type_depth (is ∙ sym (ty.rolls-Rec fs)) ∙ (depth_rolled (Rec fs) ∙ ap (λ n. 1 + n) (deep_fields type_depth fs))

pub depth_map : (t k v : Ty) → t ≡ ty.Map k v → type_depth t ≡ 1 + max (type_depth k) (type_depth v)
depth_map t k v is = ap type_depth (is ∙ sym (ty.rolls-Map k v)) ∙ (depth_rolled (Map k v) ∙ omega arith)
