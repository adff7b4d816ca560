-- The trees of the statements that the check makes.
use Rattle.std.proofs.Common.{◌≡◌, ap, ◌∙◌, List, [], ◌∷◌}
use Rattle.tl_base.specs.declared.place.Pos.{Pos}
use Rattle.lua_tree.specs.declared.annotation.Typed.{Typed}
use Rattle.lua_tree.specs.declared.syntax.Expr.{Expr}
use Rattle.lua_tree.specs.declared.syntax.Expr.TheVariants as e
use Rattle.lua_tree.specs.declared.syntax.Stat.TheVariants as s
use Rattle.lua_tree.specs.Tree as tree
use Rattle.lua_tree.specs.View.{exp_of, exps_of, stat_of}
use Rattle.lua_tree.proofs.Views.{exp_of-Call, stat_of-Assign, stat_of-Call, stat_of-Local}
use Rattle.tl_rules.specs.Statements.{alone}

pub made_local : (p : Pos) (n : Typed) (ns : List Typed) (v : Expr) (vs : List Expr) → ns ≡ n ∷ [] → vs ≡ v ∷ [] → stat_of (s.Local p ns vs) ≡ tree.declare p (n ∷ []) (alone (exp_of v))
made_local p n ns v vs h k = rw h (rw k (stat_of-Local p (n ∷ []) (v ∷ [])))

pub made_assign : (p : Pos) (t : Expr) (ts : List Expr) (v : Expr) (vs : List Expr) → ts ≡ t ∷ [] → vs ≡ v ∷ []
    → stat_of (s.Assign p ts vs) ≡ tree.assign p (tree.target (exp_of t) tree.no_target) (alone (exp_of v))
made_assign p t ts v vs h k = rw h (rw k (stat_of-Assign p (t ∷ []) (v ∷ [])))

pub made_call : (p place : Pos) (f : Expr) (es : List Expr) → stat_of (s.Call p (e.Call place f es)) ≡ tree.run p (tree.one_of (tree.call place (exp_of f) (exps_of es)))
made_call p place f es = stat_of-Call p (e.Call place f es) ∙ ap (tree.run p) (exp_of-Call place f es)
