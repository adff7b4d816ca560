use Rattle.std.proofs.Common.{rules, ◌∙◌}
use Rattle.std.proofs.lemmas.Result.{err_from_is_err_and}
use Rattle.tl_check.proofs.Loops.{none_left, exps_start, exps_step, exps_stop, exps_done}
use Rattle.tl_check.proofs.statements.arguments.Goals as goal

pub loop-expr-init : goal.loop-expr-init
loop-expr-init c =
    exps_start c.args.uses.now c.args.env.now c.new-done.result c.into_iter-expr-iterator.result.rest.items c.args.exprs c.new-done.ensures
    (c.into_iter-expr-iterator.ensures.into_iter_gives.0 ∙ c.into_vec-expr-items.ensures)

pub loop-expr-preserved : goal.loop-expr-preserved
loop-expr-preserved c =
    exps_step c.args.uses.now c.args.env.now c.loop-expr.done c.push.new.self c.loop-expr.expr-iterator.rest.items c.next.new.self.rest.items c.in-Some.expr _
    c.in_ok-tree.field-0 c.in-Some.ensures.steps.0 (search rules) (search rules) c.loop-expr.invariant

pub returns-in_err-tree : goal.returns-in_err-tree
returns-in_err-tree c =
    let p = err_from_is_err_and c.from_residual.result c.from_residual.ensures.1 in rw (p.1, p.2)
    (exps_stop c.args.uses.now c.args.env.now c.loop-expr.done c.loop-expr.expr-iterator.rest.items c.next.new.self.rest.items c.in-Some.expr _ _
    c.in-Some.ensures.steps.0 c.loop-expr.invariant c.in_err-tree.ensures)

pub returns : goal.returns
returns c =
    exps_done c.args.uses.now c.args.env.now c.loop-expr.done c.loop-expr.expr-iterator.rest.items _ (none_left _ _ c.in-None.ensures.steps.0 c.loop-expr.expr-iterator.rest.ok.0) c.loop-expr.invariant
