use Rattle.std.proofs.lemmas.Result.{err_from_is_err_and}
use Rattle.tl_check.proofs.Loops.{block_stops, block_returns, block_done}
use Rattle.tl_check.proofs.statements.block.Goals as goal

pub returns-in_err-stats : goal.returns-in_err-stats
returns-in_err-stats c =
    let p = err_from_is_err_and c.from_residual.result c.from_residual.ensures.1 in rw (p.1, p.2)
    (block_stops c.args.uses.now c.args.env.now.items c.statements.new.env.items c.args.block _ c.in_err-stats.ensures)

pub returns-in-Some : goal.returns-in-Some
returns-in-Some c =
    rw c.refused_at.ensures (block_returns c.args.uses.now c.args.env.now.items c.statements.new.env.items c.args.block c.in_ok-stats.stats c.in-Some.last c.in-Some.is c.in_ok-stats.ensures)

pub returns-in-None : goal.returns-in-None
returns-in-None c = block_done c.args.uses.now c.args.env.now.items c.statements.new.env.items c.args.block c.in_ok-stats.stats c.in-None.is c.in_ok-stats.ensures
