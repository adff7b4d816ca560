-- Where more names have types, what had a type has the same.
use Rattle.std.proofs.Common.{◌≡◌, ℕ, List, [], ◌∷◌, map, refl, ap, ◌∙◌, sym, subst}
use Rattle.std.specs.Prelude.{Option, Some, None}
use Rattle.std.specs.Option.{option_map, option_and_then}
use Rattle.lua_tree.specs.declared.annotation.TypeExpr.{TypeExpr}
use Rattle.lua_tree.specs.declared.annotation.TypeExpr.TheFolds.{map-TypeExpr, map-TypeField, map-TypeResults, map-TypeTuple, ind-TypeExpr, fold-roll-TypeExpr, fold-roll-TypeField, fold-roll-TypeResults, fold-roll-TypeTuple}
use Rattle.lua_tree.specs.declared.annotation.TypeExpr.TheViews.{roll-TypeExpr, roll-TypeField, roll-TypeResults, roll-TypeTuple}
use Rattle.lua_tree.specs.declared.annotation.TypeExpr.TheOpen as written
use Rattle.lua_tree.specs.declared.annotation.TypeExpr.TheOpen.{TypeExpr-F, TypeField-F, TypeResults-F, TypeTuple-F}
use Rattle.lua_tree.specs.declared.annotation.TypeField.{TypeField}
use Rattle.lua_tree.specs.declared.annotation.TypeResults.{TypeResults}
use Rattle.lua_tree.specs.declared.annotation.TypeTuple.{TypeTuple}
use Rattle.tl_types.specs.declared.types.Ty.{Ty}
use Rattle.tl_types.specs.declared.types.Ty.TheVariants as ty
use Rattle.tl_types.specs.Types.{Field}
use Rattle.tl_types.specs.Unions.{union_form, or_nil}
use Rattle.tl_types.specs.declared.types.TupleOf.{TupleOf}
use Rattle.tl_types.specs.declared.types.ResultsOf.{ResultsOf}
use Rattle.type_reader.specs.Names.{Names}
use Rattle.type_reader.specs.Types.{both, every, func_type, tuple_type, type_of, field_of, results_of, tuple_of, TupleType, expr_at, field_at, results_at, tuple_at, limited}

-- what is there stays
abbrev pub Keeps : {A : Type 0} → Option A → Option A → Type 0
Keeps {A} x y = (a : A) → x ≡ Some a → y ≡ Some a

keeps_same : {A : Type 0} (x : Option A) → Keeps x x
keeps_same x a e = e

keeps_then : {A B : Type 0} (f : A → Option B) (x y : Option A) → Keeps x y → Keeps (option_and_then f x) (option_and_then f y)
keeps_then f None y k b e = cc
keeps_then f (Some a) y k b e = ap (option_and_then f) (k a refl) ∙ e

keeps_map : {A B : Type 0} (f : A → B) (x y : Option A) → Keeps x y → Keeps (option_map f x) (option_map f y)
keeps_map f None y k b e = cc
keeps_map f (Some a) y k b e = ap (option_map f) (k a refl) ∙ e

keeps_both : {A B C : Type 0} (f : A → B → C) (x y : Option A) (u v : Option B) → Keeps x y → Keeps u v → Keeps (both f x u) (both f y v)
keeps_both f None y u v k l c e = cc
keeps_both f (Some a) y None v k l c e = cc
keeps_both f (Some a) y (Some b) v k l c e = ap (λ o. both f o v) (k a refl) ∙ ap (λ o. both f (Some a) o) (l b refl) ∙ e

module _ {E A : Type 0} (f g : E → Option A) (k : (x : E) → Keeps (f x) (g x)) where
  keeps_every : (xs : List E) → Keeps (every (map f xs)) (every (map g xs))
  keeps_every [] = keeps_same (Some [])
  keeps_every (x ∷ xs) = keeps_both (λ y ys. y ∷ ys) (f x) (g x) (every (map f xs)) (every (map g xs)) (k x) (keeps_every xs)

map_two : {A B C : Type 0} (h : B → C) (g : A → B) (xs : List A) → map h (map g xs) ≡ map (λ x. h (g x)) xs
map_two h g [] = refl
map_two h g (x ∷ xs) = ap (λ r. h (g x) ∷ r) (map_two h g xs)

-- over the parts that are given
module _ {E B A : Type 0} (f g : B → Option A) (part : E → B) (k : (x : E) → Keeps (f (part x)) (g (part x))) where
  keeps_parts : (xs : List E) → Keeps (every (map f (map part xs))) (every (map g (map part xs)))
  keeps_parts xs a e =
      ap every (map_two g part xs) ∙ keeps_every (λ x. f (part x)) (λ x. g (part x)) k xs a (sym (ap every (map_two f part xs)) ∙ e)

-- one function more behind
module _ {E B C A : Type 0} (f g : B → C) (h : C → Option A) (part : E → B) (k : (x : E) → Keeps (h (f (part x))) (h (g (part x)))) where
  keeps_parts_of : (xs : List E) → Keeps (every (map h (map f (map part xs)))) (every (map h (map g (map part xs))))
  keeps_parts_of xs a e =
      ap every (map_two h g (map part xs)) ∙ keeps_parts (λ b. h (f b)) (λ b. h (g b)) part k xs a (sym (ap every (map_two h f (map part xs))) ∙ e)

-- n has at least the types of m
abbrev pub MoreTyped : Names → Names → Type 0
MoreTyped m n = (parts : List (List ℕ)) (name : List ℕ) → Keeps (m.ty parts name) (n.ty parts name)

module _ (m n : Names) (more : MoreTyped m n) where
  abbrev P0 : TypeExpr → Type 0
  P0 e = Keeps (type_of m e) (type_of n e)

  abbrev P1 : TypeField → Type 0
  P1 e = Keeps (field_of m e) (field_of n e)

  abbrev P2 : TypeResults → Type 0
  P2 e = Keeps (results_of m e) (results_of n e)

  abbrev P3 : TypeTuple → Type 0
  P3 e = (absent : Ty) → Keeps (tuple_of m e absent) (tuple_of n e absent)

  module _ (E0 E1 E2 E3 : Type 0) (g0 : E0 → TypeExpr) (g1 : E1 → TypeField) (g2 : E2 → TypeResults) (g3 : E3 → TypeTuple)
      (p0 : (e : E0) → P0 (g0 e)) (p1 : (e : E1) → P1 (g1 e)) (p2 : (e : E2) → P2 (g2 e)) (p3 : (e : E3) → P3 (g3 e)) where
    expr_keeps : (y : TypeExpr-F E0 E1 E2 E3) → Keeps (expr_at m (map-TypeExpr _ _ _ _ _ _ _ _ (type_of m) (field_of m) (results_of m) (tuple_of m) (map-TypeExpr _ _ _ _ _ _ _ _ g0 g1 g2 g3 y))) (expr_at n (map-TypeExpr _ _ _ _ _ _ _ _ (type_of n) (field_of n) (results_of n) (tuple_of n) (map-TypeExpr _ _ _ _ _ _ _ _ g0 g1 g2 g3 y)))
    expr_keeps (written.Nil p) = keeps_same (Some ty.Nil)
    expr_keeps (written.Bool p b) = λ a e. e
    expr_keeps (written.Int p i) = λ a e. e
    expr_keeps (written.Str p s) = λ a e. e
    expr_keeps (written.Named p parts name) = keeps_then limited (m.ty parts name) (n.ty parts name) (more parts name)
    expr_keeps (written.Paren p t) = p0 t
    expr_keeps (written.Array p t) = keeps_then (λ v. limited (ty.Map ty.Int v)) (type_of m (g0 t)) (type_of n (g0 t)) (p0 t)
    expr_keeps (written.Map p k v) =
        keeps_then (λ o. o) (both (λ x y. limited (ty.Map x y)) (type_of m (g0 k)) (type_of m (g0 v))) (both (λ x y. limited (ty.Map x y)) (type_of n (g0 k)) (type_of n (g0 v)))
        (keeps_both (λ x y. limited (ty.Map x y)) (type_of m (g0 k)) (type_of n (g0 k)) (type_of m (g0 v)) (type_of n (g0 v)) (p0 k) (p0 v))
    expr_keeps (written.Record p fs) =
        keeps_then (λ gs. limited (ty.Rec gs)) (every (map (field_of m) (map g1 fs))) (every (map (field_of n) (map g1 fs))) (keeps_parts (field_of m) (field_of n) g1 p1 fs)
    expr_keeps (written.Optional p t) = keeps_then (λ x. limited (or_nil x)) (type_of m (g0 t)) (type_of n (g0 t)) (p0 t)
    expr_keeps (written.Function p ps rs) =
        keeps_then (λ f. limited (ty.Func f)) (both func_type (tuple_of m (g3 ps) ty.Value) (results_of m (g2 rs))) (both func_type (tuple_of n (g3 ps) ty.Value) (results_of n (g2 rs)))
        (keeps_both func_type (tuple_of m (g3 ps) ty.Value) (tuple_of n (g3 ps) ty.Value) (results_of m (g2 rs)) (results_of n (g2 rs)) (p3 ps ty.Value) (p2 rs))
    expr_keeps (written.Union p ts) =
        keeps_then (λ us. limited (union_form us)) (every (map (type_of m) (map g0 ts))) (every (map (type_of n) (map g0 ts))) (keeps_parts (type_of m) (type_of n) g0 p0 ts)

    field_keeps : (y : TypeField-F E0 E1 E2 E3) → Keeps (field_at (map-TypeField _ _ _ _ _ _ _ _ (type_of m) (field_of m) (results_of m) (tuple_of m) (map-TypeField _ _ _ _ _ _ _ _ g0 g1 g2 g3 y))) (field_at (map-TypeField _ _ _ _ _ _ _ _ (type_of n) (field_of n) (results_of n) (tuple_of n) (map-TypeField _ _ _ _ _ _ _ _ g0 g1 g2 g3 y)))
    field_keeps y = keeps_map (λ t. record { name = y.name.text; is_const = y.is_const; ty = t }) (type_of m (g0 y.ty)) (type_of n (g0 y.ty)) (p0 y.ty)

    results_keep : (y : TypeResults-F E0 E1 E2 E3) → Keeps (results_at (map-TypeResults _ _ _ _ _ _ _ _ (type_of m) (field_of m) (results_of m) (tuple_of m) (map-TypeResults _ _ _ _ _ _ _ _ g0 g1 g2 g3 y))) (results_at (map-TypeResults _ _ _ _ _ _ _ _ (type_of n) (field_of n) (results_of n) (tuple_of n) (map-TypeResults _ _ _ _ _ _ _ _ g0 g1 g2 g3 y)))
    results_keep y =
        keeps_map (λ (ts : List (TupleOf Ty)). record { tuples = ts }) (every (map (λ (t : TupleType). t ty.Nil) (map (tuple_of m) (map g3 y.tuples)))) (every (map (λ (t : TupleType). t ty.Nil) (map (tuple_of n) (map g3 y.tuples))))
        (keeps_parts_of (tuple_of m) (tuple_of n) (λ (t : TupleType). t ty.Nil) g3 (λ e. p3 e ty.Nil) y.tuples)

    tuple_keeps_at : (items : List E0) (tail : Option E0) (absent : Ty) → let y : TypeTuple-F E0 E1 E2 E3 = record { items = items; tail = tail } in Keeps (tuple_at (map-TypeTuple _ _ _ _ _ _ _ _ (type_of m) (field_of m) (results_of m) (tuple_of m) (map-TypeTuple _ _ _ _ _ _ _ _ g0 g1 g2 g3 y)) absent) (tuple_at (map-TypeTuple _ _ _ _ _ _ _ _ (type_of n) (field_of n) (results_of n) (tuple_of n) (map-TypeTuple _ _ _ _ _ _ _ _ g0 g1 g2 g3 y)) absent)
    tuple_keeps_at items None absent =
        keeps_both tuple_type (every (map (type_of m) (map g0 items))) (every (map (type_of n) (map g0 items))) (Some absent) (Some absent) (keeps_parts (type_of m) (type_of n) g0 p0 items) (keeps_same (Some absent))
    tuple_keeps_at items (Some t) absent =
        keeps_both tuple_type (every (map (type_of m) (map g0 items))) (every (map (type_of n) (map g0 items))) (type_of m (g0 t)) (type_of n (g0 t)) (keeps_parts (type_of m) (type_of n) g0 p0 items) (p0 t)

    tuple_keeps : (y : TypeTuple-F E0 E1 E2 E3) → (absent : Ty) → Keeps (tuple_at (map-TypeTuple _ _ _ _ _ _ _ _ (type_of m) (field_of m) (results_of m) (tuple_of m) (map-TypeTuple _ _ _ _ _ _ _ _ g0 g1 g2 g3 y)) absent) (tuple_at (map-TypeTuple _ _ _ _ _ _ _ _ (type_of n) (field_of n) (results_of n) (tuple_of n) (map-TypeTuple _ _ _ _ _ _ _ _ g0 g1 g2 g3 y)) absent)
    tuple_keeps y absent = tuple_keeps_at y.items y.tail absent

  abbrev S0 : Type 0
  S0 = (e : TypeExpr) × P0 e

  abbrev S1 : Type 0
  S1 = (e : TypeField) × P1 e

  abbrev S2 : Type 0
  S2 = (e : TypeResults) × P2 e

  abbrev S3 : Type 0
  S3 = (e : TypeTuple) × P3 e

  abbrev A1 : Type 0
  A1 = Option Ty

  abbrev A2 : Type 0
  A2 = Option Field

  abbrev A3 : Type 0
  A3 = Option (ResultsOf Ty)

  expr_step : (x : TypeExpr-F TypeExpr TypeField TypeResults TypeTuple) (y : TypeExpr-F S0 S1 S2 S3) → map-TypeExpr _ _ _ _ _ _ _ _ (λ e. e.0) (λ e. e.0) (λ e. e.0) (λ e. e.0) y ≡ x → P0 (roll-TypeExpr x)
  expr_step x y is =
      subst (λ o. Keeps o (type_of n (roll-TypeExpr x))) (sym (fold-roll-TypeExpr A1 A2 A3 TupleType (expr_at m) field_at results_at tuple_at x))
      (subst (λ o. Keeps (expr_at m (map-TypeExpr _ _ _ _ _ _ _ _ (type_of m) (field_of m) (results_of m) (tuple_of m) x)) o) (sym (fold-roll-TypeExpr A1 A2 A3 TupleType (expr_at n) field_at results_at tuple_at x))
      (subst (λ z. Keeps (expr_at m (map-TypeExpr _ _ _ _ _ _ _ _ (type_of m) (field_of m) (results_of m) (tuple_of m) z)) (expr_at n (map-TypeExpr _ _ _ _ _ _ _ _ (type_of n) (field_of n) (results_of n) (tuple_of n) z))) is
      (expr_keeps _ _ _ _ (λ e. e.0) (λ e. e.0) (λ e. e.0) (λ e. e.0) (λ e. e.1) (λ e. e.1) (λ e. e.1) (λ e. e.1) y)))

  field_step : (x : TypeField-F TypeExpr TypeField TypeResults TypeTuple) (y : TypeField-F S0 S1 S2 S3) → map-TypeField _ _ _ _ _ _ _ _ (λ e. e.0) (λ e. e.0) (λ e. e.0) (λ e. e.0) y ≡ x → P1 (roll-TypeField x)
  field_step x y is =
      subst (λ o. Keeps o (field_of n (roll-TypeField x))) (sym (fold-roll-TypeField A1 A2 A3 TupleType (expr_at m) field_at results_at tuple_at x))
      (subst (λ o. Keeps (field_at (map-TypeField _ _ _ _ _ _ _ _ (type_of m) (field_of m) (results_of m) (tuple_of m) x)) o) (sym (fold-roll-TypeField A1 A2 A3 TupleType (expr_at n) field_at results_at tuple_at x))
      (subst (λ z. Keeps (field_at (map-TypeField _ _ _ _ _ _ _ _ (type_of m) (field_of m) (results_of m) (tuple_of m) z)) (field_at (map-TypeField _ _ _ _ _ _ _ _ (type_of n) (field_of n) (results_of n) (tuple_of n) z))) is
      (field_keeps _ _ _ _ (λ e. e.0) (λ e. e.0) (λ e. e.0) (λ e. e.0) (λ e. e.1) (λ e. e.1) (λ e. e.1) (λ e. e.1) y)))

  results_step : (x : TypeResults-F TypeExpr TypeField TypeResults TypeTuple) (y : TypeResults-F S0 S1 S2 S3) → map-TypeResults _ _ _ _ _ _ _ _ (λ e. e.0) (λ e. e.0) (λ e. e.0) (λ e. e.0) y ≡ x → P2 (roll-TypeResults x)
  results_step x y is =
      subst (λ o. Keeps o (results_of n (roll-TypeResults x))) (sym (fold-roll-TypeResults A1 A2 A3 TupleType (expr_at m) field_at results_at tuple_at x))
      (subst (λ o. Keeps (results_at (map-TypeResults _ _ _ _ _ _ _ _ (type_of m) (field_of m) (results_of m) (tuple_of m) x)) o) (sym (fold-roll-TypeResults A1 A2 A3 TupleType (expr_at n) field_at results_at tuple_at x))
      (subst (λ z. Keeps (results_at (map-TypeResults _ _ _ _ _ _ _ _ (type_of m) (field_of m) (results_of m) (tuple_of m) z)) (results_at (map-TypeResults _ _ _ _ _ _ _ _ (type_of n) (field_of n) (results_of n) (tuple_of n) z))) is
      (results_keep _ _ _ _ (λ e. e.0) (λ e. e.0) (λ e. e.0) (λ e. e.0) (λ e. e.1) (λ e. e.1) (λ e. e.1) (λ e. e.1) y)))

  tuple_step : (x : TypeTuple-F TypeExpr TypeField TypeResults TypeTuple) (y : TypeTuple-F S0 S1 S2 S3) → map-TypeTuple _ _ _ _ _ _ _ _ (λ e. e.0) (λ e. e.0) (λ e. e.0) (λ e. e.0) y ≡ x → P3 (roll-TypeTuple x)
  tuple_step x y is =
      subst (λ (o : TupleType). (absent : Ty) → Keeps (o absent) (tuple_of n (roll-TypeTuple x) absent)) (sym (fold-roll-TypeTuple A1 A2 A3 TupleType (expr_at m) field_at results_at tuple_at x))
      (subst (λ (o : TupleType). (absent : Ty) → Keeps (tuple_at (map-TypeTuple _ _ _ _ _ _ _ _ (type_of m) (field_of m) (results_of m) (tuple_of m) x) absent) (o absent)) (sym (fold-roll-TypeTuple A1 A2 A3 TupleType (expr_at n) field_at results_at tuple_at x))
      (subst (λ z. (absent : Ty) → Keeps (tuple_at (map-TypeTuple _ _ _ _ _ _ _ _ (type_of m) (field_of m) (results_of m) (tuple_of m) z) absent) (tuple_at (map-TypeTuple _ _ _ _ _ _ _ _ (type_of n) (field_of n) (results_of n) (tuple_of n) z) absent)) is
      (tuple_keeps _ _ _ _ (λ e. e.0) (λ e. e.0) (λ e. e.0) (λ e. e.0) (λ e. e.1) (λ e. e.1) (λ e. e.1) (λ e. e.1) y)))

  pub types_stay : (e : TypeExpr) → Keeps (type_of m e) (type_of n e)
  types_stay = ind-TypeExpr P0 P1 P2 P3 expr_step field_step results_step tuple_step
