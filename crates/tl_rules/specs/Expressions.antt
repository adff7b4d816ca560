-- The typing rules of expressions, by recursion on the tree: an environment and a tree give a type, the environment afterwards and the marked
-- tree, or the first premise that fails. Typing follows the order of evaluation. Marks in the given tree say nothing: the rules set them.
-- A form that no clause names has no rule yet.
use Rattle.std.specs.Prelude.{ℕ, Bool, true, false, List, Option, Some, None}
use Rattle.std.specs.List.{slice_get}
use Rattle.tl_base.specs.declared.place.Pos.{Pos}
use Rattle.tl_base.specs.declared.refusal.RefusalCode.TheVariants as code
use Rattle.lua_tree.specs.declared.scoped.Use.{Use}
use Rattle.lua_tree.specs.declared.syntax.BinaryOperator.{BinaryOperator}
use Rattle.lua_tree.specs.Tree as tree
use Rattle.lua_tree.specs.Tree.{Exp}
use Rattle.lua_tree.specs.Places.{place_of}
use Rattle.tl_types.specs.declared.types.Ty.{Ty}
use Rattle.tl_types.specs.declared.types.Ty.TheVariants as ty
use Rattle.tl_rules.specs.declared.local.Local.{Local}
use Rattle.tl_rules.specs.Locals.{Env, number_of, local_in}
use Rattle.tl_rules.specs.Operands.{is_ruled, operand, operation_type}
use Rattle.tl_rules.specs.Checked.{Checked, fine, fault, then_check, where_ruled}

pub record TypedExp : Type 0 where
  pub ty : Ty
  pub env : Env
  pub tree : Exp

abbrev pub truth_type : Bool → Ty
truth_type true = ty.True
truth_type false = ty.False

-- both operands are typed before the rule looks at the first, then at the second
abbrev pub operation : Pos → BinaryOperator → TypedExp → TypedExp → Checked TypedExp
operation p o a b =
    then_check (operand a.ty a.tree) (λ l. then_check (operand b.ty b.tree) (λ r.
    fine (record { ty = operation_type a.ty b.ty; env = b.env; tree = tree.binary p o l r })))

-- a local has the type of the value that it holds
abbrev pub named_by : Option Local → Env → Pos → ℕ → List ℕ → Checked TypedExp
named_by (Some l) env p u s = fine (record { ty = l.current; env = env; tree = tree.name p u s })
named_by None env p u s = fault code.X1 p

-- uses says what each use of a name means, by its number
module _ (uses : List Use) where
  abbrev pub check_exp : Env → Exp → Checked TypedExp
  check_exp env (tree.nothing p) = fine (record { ty = ty.Nil; env = env; tree = tree.nothing p })
  check_exp env (tree.truth p b) = fine (record { ty = truth_type b; env = env; tree = tree.truth p b })
  check_exp env (tree.integer p n) = fine (record { ty = ty.IntLit n; env = env; tree = tree.integer p n })
  check_exp env (tree.text p s) = fine (record { ty = ty.StrLit s; env = env; tree = tree.text p s })
  check_exp env (tree.name p u s) = named_by (local_in env (number_of (slice_get uses u))) env p u s
  check_exp env (tree.paren p e) = then_check (check_exp env e) (λ v. fine (record v { tree = tree.paren p v.tree }))
  check_exp env (tree.binary p o a b) =
      where_ruled (is_ruled o) p (then_check (check_exp env a) (λ l. then_check (check_exp l.env b) (λ r. operation p o l r)))
  check_exp env (tree.mark k e) = check_exp env e
  check_exp env e = fault code.X1 (place_of e)
