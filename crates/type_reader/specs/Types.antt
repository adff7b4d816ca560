-- The type that is written, where names have their types: None where a name has none, or where a type is too large.
use Rattle.std.specs.Prelude.{ℕ, Bool, cond, List, [], ◌∷◌, ◌++◌, map, Option, Some, None, is_some}
use Rattle.std.specs.List.{list_all, flat_map}
use Rattle.std.specs.Option.{option_map, option_and_then, option_map_or}
use Rattle.lua_tree.specs.declared.annotation.TypeExpr.{TypeExpr, fold-TypeExpr}
use Rattle.lua_tree.specs.declared.annotation.TypeExpr.TheOpen as written
use Rattle.lua_tree.specs.declared.annotation.TypeExpr.TheOpen.{TypeExpr-F, TypeField-F, TypeResults-F, TypeTuple-F}
use Rattle.lua_tree.specs.declared.annotation.TypeField.{TypeField, fold-TypeField}
use Rattle.lua_tree.specs.declared.annotation.TypeResults.{TypeResults, fold-TypeResults}
use Rattle.lua_tree.specs.declared.annotation.TypeTuple.{TypeTuple, fold-TypeTuple}
use Rattle.tl_types.specs.declared.types.Ty.{Ty}
use Rattle.tl_types.specs.declared.types.Ty.TheVariants as ty
use Rattle.tl_types.specs.declared.types.TupleOf.{TupleOf}
use Rattle.tl_types.specs.declared.types.ResultsOf.{ResultsOf}
use Rattle.tl_types.specs.declared.types.FuncOf.{FuncOf}
use Rattle.tl_types.specs.Types.{Field}
use Rattle.tl_types.specs.Sizes.{is_within}
use Rattle.tl_types.specs.Unions.{union_form, or_nil}
use Rattle.type_reader.specs.Names.{Names}

-- the type itself, where it keeps within both limits
abbrev pub limited : Ty → Option Ty
limited t = cond (is_within t) (Some t) None

abbrev pub both : {A B C : Type 0} → (A → B → C) → Option A → Option B → Option C
both f x y = option_and_then (λ a. option_map (f a) y) x

-- all of them, where each is there
abbrev pub every : {A : Type 0} → List (Option A) → Option (List A)
every [] = Some []
every (x ∷ xs) = both (λ y ys. y ∷ ys) x (every xs)

-- the tail that is written, else the one that stands for none
abbrev pub tail_or : Ty → Option (Option Ty) → Option Ty
tail_or absent None = Some absent
tail_or absent (Some t) = t

-- a tuple, after the tail that it has where none is written
abbrev pub TupleType : Type 0
TupleType = Ty → Option (TupleOf Ty)

abbrev pub tuple_type : List Ty → Ty → TupleOf Ty
tuple_type ts t = record { items = ts; tail = t }

abbrev pub func_type : TupleOf Ty → ResultsOf Ty → FuncOf Ty
func_type p r = record { params = p; results = r }

abbrev pub expr_at : Names → TypeExpr-F (Option Ty) (Option Field) (Option (ResultsOf Ty)) TupleType → Option Ty
expr_at names (written.Nil p) = Some ty.Nil
expr_at names (written.Bool p b) = Some (cond b ty.True ty.False)
expr_at names (written.Int p n) = Some (ty.IntLit n)
expr_at names (written.Str p s) = Some (ty.StrLit s)
expr_at names (written.Named p parts name) = option_and_then limited (names.ty parts name)
expr_at names (written.Paren p t) = t
expr_at names (written.Array p t) = option_and_then (λ v. limited (ty.Map ty.Int v)) t
expr_at names (written.Map p k v) = option_and_then (λ m. m) (both (λ x y. limited (ty.Map x y)) k v)
expr_at names (written.Record p fs) = option_and_then (λ gs. limited (ty.Rec gs)) (every fs)
expr_at names (written.Optional p t) = option_and_then (λ x. limited (or_nil x)) t
-- parameters without a tail take every value
expr_at names (written.Function p ps rs) = option_and_then (λ f. limited (ty.Func f)) (both func_type (ps ty.Value) rs)
expr_at names (written.Union p ts) = option_and_then (λ us. limited (union_form us)) (every ts)

abbrev pub field_at : TypeField-F (Option Ty) (Option Field) (Option (ResultsOf Ty)) TupleType → Option Field
field_at f = option_map (λ t. record { name = f.name.text; is_const = f.is_const; ty = t }) f.ty

-- results without a tail give no further value
abbrev pub results_at : TypeResults-F (Option Ty) (Option Field) (Option (ResultsOf Ty)) TupleType → Option (ResultsOf Ty)
results_at r = option_map (λ ts. record { tuples = ts }) (every (map (λ t. t ty.Nil) r.tuples))

abbrev pub tuple_at : TypeTuple-F (Option Ty) (Option Field) (Option (ResultsOf Ty)) TupleType → TupleType
tuple_at t absent = both tuple_type (every t.items) (tail_or absent t.tail)

abbrev pub type_of : Names → TypeExpr → Option Ty
type_of names = fold-TypeExpr (Option Ty) (Option Field) (Option (ResultsOf Ty)) TupleType (expr_at names) field_at results_at tuple_at

abbrev pub field_of : Names → TypeField → Option Field
field_of names = fold-TypeField (Option Ty) (Option Field) (Option (ResultsOf Ty)) TupleType (expr_at names) field_at results_at tuple_at

abbrev pub results_of : Names → TypeResults → Option (ResultsOf Ty)
results_of names = fold-TypeResults (Option Ty) (Option Field) (Option (ResultsOf Ty)) TupleType (expr_at names) field_at results_at tuple_at

abbrev pub tuple_of : Names → TypeTuple → TupleType
tuple_of names = fold-TypeTuple (Option Ty) (Option Field) (Option (ResultsOf Ty)) TupleType (expr_at names) field_at results_at tuple_at

abbrev pub fields_of : Names → List TypeField → Option (List Field)
fields_of names fs = every (map (field_of names) fs)

-- the record of an interface
abbrev pub record_of : Names → List TypeField → Option Ty
record_of names fs = option_and_then (λ gs. limited (ty.Rec gs)) (fields_of names fs)

-- the results of a body stand as the function with these results and no listed parameter
abbrev pub body_type : ResultsOf Ty → Option Ty
body_type r = limited (ty.Func (func_type (tuple_type [] ty.Value) r))

abbrev pub body_of : Names → TypeResults → Option Ty
body_of names r = option_and_then body_type (results_of names r)

-- ---- the names that are used

-- a use of a type name
pub record Used : Type 0 where
  pub parts : List (List ℕ)
  pub name : List ℕ

abbrev pub Uses : Type 0
Uses = List Used

abbrev pub all : List Uses → Uses
all xs = flat_map (λ x. x) xs

abbrev pub optional : Option Uses → Uses
optional x = option_map_or (λ y. y) x []

abbrev pub expr_uses : TypeExpr-F Uses Uses Uses Uses → Uses
expr_uses (written.Nil p) = []
expr_uses (written.Bool p b) = []
expr_uses (written.Int p n) = []
expr_uses (written.Str p s) = []
expr_uses (written.Named p parts name) = record { parts = parts; name = name } ∷ []
expr_uses (written.Paren p t) = t
expr_uses (written.Array p t) = t
expr_uses (written.Map p k v) = k ++ v
expr_uses (written.Record p fs) = all fs
expr_uses (written.Optional p t) = t
expr_uses (written.Function p ps rs) = ps ++ rs
expr_uses (written.Union p ts) = all ts

abbrev pub field_uses : TypeField-F Uses Uses Uses Uses → Uses
field_uses f = f.ty

abbrev pub results_uses : TypeResults-F Uses Uses Uses Uses → Uses
results_uses r = all r.tuples

abbrev pub tuple_uses : TypeTuple-F Uses Uses Uses Uses → Uses
tuple_uses t = all t.items ++ optional t.tail

abbrev pub uses_of : TypeExpr → Uses
uses_of = fold-TypeExpr Uses Uses Uses Uses expr_uses field_uses results_uses tuple_uses

abbrev pub uses_of_field : TypeField → Uses
uses_of_field = fold-TypeField Uses Uses Uses Uses expr_uses field_uses results_uses tuple_uses

abbrev pub uses_of_results : TypeResults → Uses
uses_of_results = fold-TypeResults Uses Uses Uses Uses expr_uses field_uses results_uses tuple_uses

abbrev pub uses_of_tuple : TypeTuple → Uses
uses_of_tuple = fold-TypeTuple Uses Uses Uses Uses expr_uses field_uses results_uses tuple_uses

-- each of them has a type
abbrev pub are_typed : Names → Uses → Bool
are_typed names us = list_all (λ u. is_some (names.ty u.parts u.name)) us
