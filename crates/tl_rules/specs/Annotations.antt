-- The types that are written in a module: so far the six names alone.
use Rattle.std.specs.Prelude.{ℕ, cond, List, [], Option, Some, None, bytes_eq, codes}
use Rattle.tl_base.specs.declared.refusal.RefusalCode.TheVariants as code
use Rattle.lua_tree.specs.declared.annotation.TypeExpr.{TypeExpr, Nil, Named}
use Rattle.tl_types.specs.declared.types.Ty.{Ty}
use Rattle.tl_types.specs.declared.types.Ty.TheVariants as ty
use Rattle.tl_types.specs.Unions.{boolean}
use Rattle.tl_rules.specs.Checked.{Checked, fine, fault}
use Rattle.tl_rules.specs.Places.{type_place}

-- `nil` is a word of its own
abbrev pub type_named : List ℕ → Option Ty
type_named name =
    cond (bytes_eq name (codes "boolean")) (Some boolean) (
    cond (bytes_eq name (codes "integer")) (Some ty.Int) (
    cond (bytes_eq name (codes "string")) (Some ty.Str) (
    cond (bytes_eq name (codes "value")) (Some ty.Value) (
    cond (bytes_eq name (codes "any")) (Some ty.Any) None))))

-- none where there is no rule for what is written
abbrev pub type_written : TypeExpr → Option Ty
type_written (Nil p) = Some ty.Nil
type_written (Named p [] name) = type_named name
type_written t = None

abbrev pub ruled_type : Option Ty → TypeExpr → Checked (Option Ty)
ruled_type (Some t) written = fine (Some t)
ruled_type None written = fault code.X1 (type_place written)

-- the type that a local is declared with, if one is written
abbrev pub annotation : Option TypeExpr → Checked (Option Ty)
annotation None = fine None
annotation (Some written) = ruled_type (type_written written) written
