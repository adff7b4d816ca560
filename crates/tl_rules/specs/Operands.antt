-- The operands of operators, and the types of what operators give.
use Rattle.std.specs.Prelude.{Bool, true, false, cond, ◌||◌}
use Rattle.std.specs.List.{list_any, list_all}
use Rattle.tl_base.specs.declared.crossing.CrossKind.TheVariants as cross
use Rattle.tl_base.specs.declared.refusal.RefusalCode.TheVariants as code
use Rattle.lua_tree.specs.declared.syntax.BinaryOperator.{BinaryOperator}
use Rattle.lua_tree.specs.declared.syntax.BinaryOperator.TheVariants as operator
use Rattle.lua_tree.specs.Tree as tree
use Rattle.lua_tree.specs.Tree.{Exp}
use Rattle.lua_tree.specs.Places.{place_of}
use Rattle.tl_types.specs.declared.types.Ty.{Ty, out-Ty}
use Rattle.tl_types.specs.declared.types.Ty.TheVariants as ty
use Rattle.tl_types.specs.declared.types.Ty.TheOpen.{Ty-F, Int, IntLit}
use Rattle.tl_types.specs.Types.{members}
use Rattle.tl_types.specs.Unions.{is_any, is_value}
use Rattle.tl_rules.specs.declared.operand.Fit.{Fit}
use Rattle.tl_rules.specs.declared.operand.Fit.TheVariants as fit
use Rattle.tl_rules.specs.Checked.{Checked, fine, fault}

-- the operators with a rule: those of integers that give an integer, so far three of them
abbrev pub is_ruled : BinaryOperator → Bool
is_ruled operator.Add = true
is_ruled operator.Subtract = true
is_ruled operator.Multiply = true
is_ruled o = false

abbrev pub is_integer_form : Ty-F Ty → Bool
is_integer_form Int = true
is_integer_form (IntLit n) = true
is_integer_form x = false

abbrev pub is_integer : Ty → Bool
is_integer t = is_integer_form (out-Ty t)

-- by whether the type is `any`, whether it is `value`, and whether all and whether some of its members fit
abbrev pub fit_by : (any value all some : Bool) → Fit
fit_by true value all some = fit.Unknown
fit_by false true all some = fit.Opaque
fit_by false false true some = fit.All
fit_by false false false true = fit.Some
fit_by false false false false = fit.No

-- how a type fits where an integer is wanted
abbrev pub integer_fit : Ty → Fit
integer_fit t = fit_by (is_any t) (is_value t) (list_all is_integer (members t)) (list_any is_integer (members t))

abbrev pub operand_by : Fit → Exp → Checked Exp
operand_by fit.Unknown e = fine (tree.marked cross.Operand e)
operand_by fit.Opaque e = fault code.F14 (place_of e)
operand_by fit.All e = fine e
-- a union of which some members fit has no rule yet
operand_by fit.Some e = fault code.X1 (place_of e)
operand_by fit.No e = fault code.F2 (place_of e)

-- an operand of an operation on integers
abbrev pub operand : Ty → Exp → Checked Exp
operand t e = operand_by (integer_fit t) e

-- the type of an operation on integers
abbrev pub operation_type : Ty → Ty → Ty
operation_type t u = cond (is_any t || is_any u) ty.Any ty.Int
