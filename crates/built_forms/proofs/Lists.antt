-- Lists of values and of targets by their lengths.
use Rattle.std.proofs.Common.{◌≡◌, refl, false, ◌≤◌, List, [], ◌∷◌, length, arith}
use Rattle.lua_tree.specs.declared.scoped.Use.{Use}
use Rattle.lua_tree.specs.declared.syntax.Expr.{Expr}
use Rattle.lua_tree.specs.Tree as tree
use Rattle.lua_tree.specs.Tree.{Exp, Exps, push}
use Rattle.lua_tree.specs.View.{exp_of, exps_of, targets_of}
use Rattle.built_forms.specs.Forms.{are_straight_values, is_one_value, are_arguments, is_one_local}

push_two : (uses : List Use) (d e : Exp) (es : Exps) → is_one_value uses (push d (push e es)) ≡ false
push_two uses (tree.one_of m) (tree.one_of n) tree.none = refl
push_two uses (tree.one_of m) (tree.one_of n) es = refl
push_two uses (tree.one_of m) e es = refl
push_two uses d (tree.one_of n) tree.none = refl
push_two uses d (tree.one_of n) es = refl
push_two uses d e es = refl

pub two_or_more : (uses : List Use) (es : List Expr) → 2 ≤ length es → is_one_value uses (exps_of es) ≡ false
two_or_more uses [] h = absurd (omega arith)
two_or_more uses (d ∷ []) h = absurd (omega arith)
two_or_more uses (d ∷ (e ∷ es)) h = push_two uses (exp_of d) (exp_of e) (exps_of es)

pub two_targets : (uses : List Use) (ts : List Expr) → 2 ≤ length ts → is_one_local uses (targets_of ts) ≡ false
two_targets uses [] h = absurd (omega arith)
two_targets uses (d ∷ []) h = absurd (omega arith)
two_targets uses (d ∷ (e ∷ es)) h = refl

push_arguments : (uses : List Use) (e : Exp) (es : Exps) → are_arguments uses (push e es) ≡ are_straight_values uses (push e es)
push_arguments uses (tree.one_of m) tree.none = refl
push_arguments uses (tree.one_of m) es = refl
push_arguments uses e es = refl

pub some_arguments : (uses : List Use) (es : List Expr) → 1 ≤ length es → are_arguments uses (exps_of es) ≡ are_straight_values uses (exps_of es)
some_arguments uses [] h = absurd (omega arith)
some_arguments uses (e ∷ es) h = push_arguments uses (exp_of e) (exps_of es)
