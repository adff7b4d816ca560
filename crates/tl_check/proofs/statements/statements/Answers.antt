use Rattle.std.proofs.Common.{◌∙◌, None}
use Rattle.std.proofs.lemmas.Result.{err_from_is_err_and}
use Rattle.tl_check.proofs.Loops.{none_left, stats_start, stats_step, stats_stop, stats_done}
use Rattle.tl_check.proofs.statements.statements.Goals as goal

pub loop-stat-init : goal.loop-stat-init
loop-stat-init c =
    stats_start c.args.uses.now c.args.env.now.items None c.new-done.result c.into_iter-stat-iterator.result.rest.items c.args.stats c.new-done.ensures
    (c.into_iter-stat-iterator.ensures.into_iter_gives.0 ∙ c.into_vec-stat-items.ensures)

pub loop-stat-preserved : goal.loop-stat-preserved
loop-stat-preserved c =
    stats_step c.args.uses.now c.loop-stat.env.items c.statement.new.env.items None c.loop-stat.done c.push.new.self c.loop-stat.stat-iterator.rest.items c.next.new.self.rest.items c.in-Some.stat c.in_ok-typed.typed _
    c.in-Some.ensures.steps.0 c.in_ok-push.ensures.ok c.in_ok-typed.ensures c.loop-stat.invariant

pub returns-in_err-typed : goal.returns-in_err-typed
returns-in_err-typed c =
    let p = err_from_is_err_and c.from_residual.result c.from_residual.ensures.1 in rw (p.1, p.2)
    (stats_stop c.args.uses.now c.loop-stat.env.items c.statement.new.env.items None c.loop-stat.done c.loop-stat.stat-iterator.rest.items c.next.new.self.rest.items c.in-Some.stat _ _
    c.in-Some.ensures.steps.0 c.loop-stat.invariant c.in_err-typed.ensures)

pub returns : goal.returns
returns c =
    stats_done c.args.uses.now c.loop-stat.env.items c.loop-stat.done c.loop-stat.stat-iterator.rest.items _ (none_left _ _ c.in-None.ensures.steps.0 c.loop-stat.stat-iterator.rest.ok.0) c.loop-stat.invariant
