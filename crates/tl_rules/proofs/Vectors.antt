-- Worked modules, by computation.
use Rattle.std.proofs.Common.{◌≡◌, refl, ℕ, pos, true, false, List, [], ◌∷◌, Option, Some, codes}
use Rattle.tl_base.specs.declared.place.Pos.{Pos}
use Rattle.tl_base.specs.declared.place.ModuleKind.TheVariants.{Typed as TypedModule}
use Rattle.tl_base.specs.declared.crossing.CrossKind.TheVariants as cross
use Rattle.tl_base.specs.declared.refusal.RefusalCode.TheVariants as code
use Rattle.lua_tree.specs.declared.annotation.TypeExpr.{TypeExpr}
use Rattle.lua_tree.specs.declared.annotation.TypeExpr.TheVariants as written
use Rattle.lua_tree.specs.declared.names.LibName.TheVariants as lib
use Rattle.lua_tree.specs.declared.scoped.Use.{Use}
use Rattle.lua_tree.specs.declared.scoped.Use.TheVariants as means
use Rattle.lua_tree.specs.declared.syntax.BinaryOperator.TheVariants as op
use Rattle.lua_tree.specs.Tree.{Exp, Exps, Stat, Block, nothing, integer, text, name, paren, binary, mark, one_of, call, none, more, run, declare, assign, target, no_target, next, finish, returns}
use Rattle.tl_types.specs.declared.types.Ty.{out-Ty}
use Rattle.tl_types.specs.declared.types.Ty.TheBlock.{hidden-the_row-Ty-0}
use Rattle.tl_types.specs.Below.{below}
use Rattle.tl_rules.specs.Checked.{Checked, fine, fault}
use Rattle.tl_rules.specs.Statements.{check_module}

abbrev at : ℕ → ℕ → Pos
at l c = record { «module» = 0; line = l; column = c }

-- types without components are compared in one step
abbrev checked : List Use → Block → Checked Block
checked uses b = check_module uses (below false [] 1) (below true [] 1) TypedModule b

abbrev named_type : Pos → List ℕ → TypeExpr
named_type p n = written.Named p [] n

abbrev local : Pos → Option TypeExpr → Exp → Stat
local p t e = declare p (record { name = record { pos = p; text = codes "x" }; ty = t } ∷ []) (more e none)

abbrev printing : Pos → ℕ → Exps → Stat
printing p u es = run p (one_of (call p (name p u (codes "print")) es))

abbrev store : Pos → ℕ → Exp → Stat
store p u e = assign p (target (name p u (codes "x")) no_target) (more e none)

abbrev print_use : Use
print_use = means.Lib lib.Print

-- local n: integer = "s"
row_flow : checked [] (next (local (at 1 1) (Some (named_type (at 1 10) (codes "integer"))) (text (at 1 20) (codes "s"))) finish) ≡ fault code.F1 (at 1 20)
unfolding out-Ty denote.Hole.Carrier.out
row_flow = refl

-- print("x" + nil)
row_operand : checked (print_use ∷ []) (next (printing (at 1 1) 0 (more (binary (at 1 7) op.Add (text (at 1 7) (codes "x")) (nothing (at 1 13))) none)) finish) ≡ fault code.F2 (at 1 7)
unfolding out-Ty denote.Hole.Carrier.out
row_operand = refl

-- local x: integer = 1; x = "s"
row_assigned : checked (means.Local 0 ∷ []) (next (local (at 1 1) (Some (named_type (at 1 10) (codes "integer"))) (integer (at 1 20) (pos 1))) (next (store (at 2 1) 0 (text (at 2 5) (codes "s"))) finish)) ≡ fault code.F1 (at 2 5)
unfolding out-Ty denote.Hole.Carrier.out
row_assigned = refl

-- local x: value = 1; x = "s"; print(x + 1)
row_current : checked (means.Local 0 ∷ print_use ∷ means.Local 0 ∷ [])
    (next (local (at 1 1) (Some (named_type (at 1 10) (codes "value"))) (integer (at 1 18) (pos 1))) (next (store (at 2 1) 0 (text (at 2 5) (codes "s"))) (
    next (printing (at 3 1) 1 (more (binary (at 3 7) op.Add (name (at 3 7) 2 (codes "x")) (integer (at 3 11) (pos 1))) none)) finish)))
    ≡ fault code.F2 (at 3 7)
unfolding out-Ty denote.Hole.Carrier.out
row_current = refl

-- local x: boolean = nil
row_boolean : checked [] (next (local (at 1 1) (Some (named_type (at 1 10) (codes "boolean"))) (nothing (at 1 20))) finish) ≡ fault code.F1 (at 1 20)
unfolding out-Ty denote.Hole.Carrier.out hidden-the_row-Ty-0 denote.Hole.Carrier.hidden
row_boolean = refl

-- local x: number = 1; a name without a rule
row_name : checked [] (next (local (at 1 1) (Some (named_type (at 1 10) (codes "number"))) (integer (at 1 19) (pos 1))) finish) ≡ fault code.X1 (at 1 10)
row_name = refl

-- print(print()) and return
row_form : checked (print_use ∷ print_use ∷ []) (next (printing (at 1 1) 0 (more (one_of (call (at 1 7) (name (at 1 7) 1 (codes "print")) none)) none)) finish) ≡ fault code.X1 (at 1 7)
row_form = refl

row_return : checked [] (returns (at 1 1) none) ≡ fault code.X1 (at 1 1)
row_return = refl

-- local x: any = nil; print((x) + 1)
row_nil : checked (print_use ∷ means.Local 0 ∷ [])
    (next (local (at 1 1) (Some (named_type (at 1 10) (codes "any"))) (nothing (at 1 16))) (next (printing (at 2 1) 0 (more (binary (at 2 7) op.Add (paren (at 2 7) (name (at 2 8) 1 (codes "x"))) (integer (at 2 13) (pos 1))) none)) finish))
    ≡ fine (next (local (at 1 1) (Some (named_type (at 1 10) (codes "any"))) (nothing (at 1 16))) (next (printing (at 2 1) 0 (more (binary (at 2 7) op.Add (mark cross.Operand (paren (at 2 7) (name (at 2 8) 1 (codes "x")))) (integer (at 2 13) (pos 1))) none)) finish))
unfolding out-Ty denote.Hole.Carrier.out
row_nil = refl

-- local a: any = 4; local n: integer = a + 1; print(n - 1)
row_marks : checked (means.Local 0 ∷ print_use ∷ means.Local 1 ∷ [])
    (next (local (at 1 1) (Some (named_type (at 1 10) (codes "any"))) (integer (at 1 16) (pos 4))) (next (local (at 2 1) (Some (named_type (at 2 10) (codes "integer"))) (binary (at 2 20) op.Add (name (at 2 20) 0 (codes "a")) (integer (at 2 24) (pos 1)))) (
    next (printing (at 3 1) 1 (more (binary (at 3 7) op.Subtract (name (at 3 7) 2 (codes "n")) (integer (at 3 11) (pos 1))) none)) finish)))
    ≡ fine (next (local (at 1 1) (Some (named_type (at 1 10) (codes "any"))) (integer (at 1 16) (pos 4))) (next (local (at 2 1) (Some (named_type (at 2 10) (codes "integer"))) (mark cross.Place (binary (at 2 20) op.Add (mark cross.Operand (name (at 2 20) 0 (codes "a"))) (integer (at 2 24) (pos 1))))) (
    next (printing (at 3 1) 1 (more (binary (at 3 7) op.Subtract (name (at 3 7) 2 (codes "n")) (integer (at 3 11) (pos 1))) none)) finish)))
unfolding out-Ty denote.Hole.Carrier.out
row_marks = refl
