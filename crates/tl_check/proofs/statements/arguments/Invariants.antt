use Rattle.std.proofs.Common.{◌≡◌, map}
use Rattle.lua_tree.specs.View.{exp_of, exps_of}
use Rattle.tl_rules.specs.Orders.{plain_order, loose_order}
use Rattle.tl_rules.specs.Statements.{check_arguments}
use Rattle.tl_check.proofs.Loops.{after_exps}
use Rattle.tl_check.proofs.statements.arguments.Given as goal

abbrev pub invariant-loop-expr : goal.invariant-loop-expr
invariant-loop-expr l =
    after_exps l.uses (map exp_of l.done) (check_arguments l.uses plain_order loose_order l.env (exps_of l.expr-iterator.rest.items)) ≡ check_arguments l.uses plain_order loose_order l.env (exps_of l.fn.exprs)
