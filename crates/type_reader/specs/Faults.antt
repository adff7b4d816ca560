-- The first fault of what is written, in order of reading: a field that is repeated, a name that isn't known, a key type that can't be one.
use Rattle.std.specs.Prelude.{ℕ, Bool, true, false, cond, not, List, [], ◌∷◌, ◌++◌, map, Option, Some, None}
use Rattle.std.specs.List.{list_all, list_any}
use Rattle.std.specs.Option.{option_or, option_map_or}
use Rattle.std.specs.Str.{bytes_eq}
use Rattle.tl_base.specs.declared.place.Pos.{Pos}
use Rattle.tl_base.specs.declared.refusal.Refusal.{Refusal}
use Rattle.tl_base.specs.declared.refusal.RefusalCode.{RefusalCode}
use Rattle.tl_base.specs.declared.refusal.RefusalCode.TheVariants as code
use Rattle.lua_tree.specs.declared.annotation.TypeExpr.{TypeExpr, fold-TypeExpr}
use Rattle.lua_tree.specs.declared.annotation.TypeExpr.TheOpen as written
use Rattle.lua_tree.specs.declared.annotation.TypeExpr.TheOpen.{TypeExpr-F, TypeField-F, TypeResults-F, TypeTuple-F}
use Rattle.lua_tree.specs.declared.annotation.TypeField.{TypeField, fold-TypeField}
use Rattle.lua_tree.specs.declared.annotation.TypeResults.{TypeResults, fold-TypeResults}
use Rattle.lua_tree.specs.declared.annotation.TypeTuple.{TypeTuple, fold-TypeTuple}
use Rattle.tl_types.specs.declared.types.Ty.{Ty, out-Ty}
use Rattle.tl_types.specs.declared.types.Ty.TheOpen.{Ty-F, True, False, Int, IntLit, Str, StrLit}
use Rattle.tl_types.specs.Types.{members}
use Rattle.type_reader.specs.Names.{Names}

abbrev pub Fault : Type 0
Fault = Option Refusal

abbrev pub at : RefusalCode → Pos → Refusal
at c p = record { code = c; pos = p }

-- a fault where it stands
abbrev pub fault_where : Bool → RefusalCode → Pos → Fault
fault_where b c p = cond b (Some (at c p)) None

-- the first fault of those
abbrev pub first_of : List Fault → Fault
first_of [] = None
first_of (f ∷ fs) = option_or f (first_of fs)

-- what a key may be: a union of `integer`, `string`, `boolean` and literals
abbrev pub is_key_form : Ty-F Ty → Bool
is_key_form True = true
is_key_form False = true
is_key_form Int = true
is_key_form (IntLit n) = true
is_key_form Str = true
is_key_form (StrLit s) = true
is_key_form x = false

abbrev pub is_key : Ty → Bool
is_key t = list_all (λ m. is_key_form (out-Ty m)) (members t)

-- a name without a type has its fault elsewhere
abbrev pub is_key_name : Option Ty → Bool
is_key_name None = true
is_key_name (Some t) = is_key t

-- what is told of a type: its place, its first fault, and whether it may be a key
pub record Told : Type 0 where
  pub place : Pos
  pub fault : Fault
  pub key : Bool

-- a field: its place, its name, and the first fault of its type
pub record ToldField : Type 0 where
  pub place : Pos
  pub name : List ℕ
  pub fault : Fault

-- each field after those of these names
abbrev pub fields_fault : List (List ℕ) → List ToldField → Fault
fields_fault before [] = None
fields_fault before (f ∷ fs) =
    option_or (fault_where (list_any (bytes_eq f.name) before) code.Y3 f.place) (option_or f.fault (fields_fault (before ++ f.name ∷ []) fs))

abbrev pub no_key : Pos → Fault → Told
no_key p f = record { place = p; fault = f; key = false }

abbrev pub a_key : Pos → Told
a_key p = record { place = p; fault = None; key = true }

-- the faults of a key stand before that it can't be one
abbrev pub key_fault : Told → Fault
key_fault k = option_or k.fault (fault_where (not k.key) code.Y4 k.place)

abbrev pub tail_fault : Option Told → Fault
tail_fault t = option_map_or (λ x. x.fault) t None

abbrev pub expr_at : Names → TypeExpr-F Told ToldField Fault Fault → Told
expr_at names (written.Nil p) = no_key p None
expr_at names (written.Bool p b) = a_key p
expr_at names (written.Int p n) = a_key p
expr_at names (written.Str p s) = a_key p
expr_at names (written.Named p parts name) =
    record { place = p; fault = fault_where (not (names.has parts name)) code.Y2 p; key = is_key_name (names.ty parts name) }
expr_at names (written.Paren p t) = record t { place = p }
expr_at names (written.Array p t) = no_key p t.fault
expr_at names (written.Map p k v) = no_key p (option_or (key_fault k) v.fault)
expr_at names (written.Record p fs) = no_key p (fields_fault [] fs)
expr_at names (written.Optional p t) = no_key p t.fault
expr_at names (written.Function p ps rs) = no_key p (option_or ps rs)
expr_at names (written.Union p ts) = record { place = p; fault = first_of (map (λ t. t.fault) ts); key = list_all (λ t. t.key) ts }

abbrev pub field_at : TypeField-F Told ToldField Fault Fault → ToldField
field_at f = record { place = f.pos; name = f.name.text; fault = f.ty.fault }

abbrev pub results_at : TypeResults-F Told ToldField Fault Fault → Fault
results_at r = first_of r.tuples

abbrev pub tuple_at : TypeTuple-F Told ToldField Fault Fault → Fault
tuple_at t = option_or (first_of (map (λ x. x.fault) t.items)) (tail_fault t.tail)

abbrev pub told_of : Names → TypeExpr → Told
told_of names = fold-TypeExpr Told ToldField Fault Fault (expr_at names) field_at results_at tuple_at

abbrev pub told_of_field : Names → TypeField → ToldField
told_of_field names = fold-TypeField Told ToldField Fault Fault (expr_at names) field_at results_at tuple_at

abbrev pub results_fault : Names → TypeResults → Fault
results_fault names = fold-TypeResults Told ToldField Fault Fault (expr_at names) field_at results_at tuple_at

abbrev pub tuple_fault : Names → TypeTuple → Fault
tuple_fault names = fold-TypeTuple Told ToldField Fault Fault (expr_at names) field_at results_at tuple_at

abbrev pub type_fault : Names → TypeExpr → Fault
type_fault names e = (told_of names e).fault

abbrev pub record_fault : Names → List TypeField → Fault
record_fault names fs = fields_fault [] (map (told_of_field names) fs)
