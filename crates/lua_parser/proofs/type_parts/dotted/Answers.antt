use Rattle.std.proofs.Common.{refl}
use Rattle.std.proofs.lemmas.Result.{err_from_is_err_and}
use Rattle.lua_parser.specs.Machine.Plan.{Item}
use Rattle.lua_parser.proofs.TypeSteps as steps
use Rattle.lua_parser.proofs.type_parts.dotted.Goals as goal

pub loop-last-init : goal.loop-last-init
loop-last-init c = steps.name_begins c.args.first _ _ c.new-parts.ensures

pub returns-in_err-meets : goal.returns-in_err-meets
returns-in_err-meets c = let p = err_from_is_err_and c.from_residual.result c.from_residual.ensures.1 in rw (p.1, p.2) (steps.fails_in (steps.naming c.args.first.pos _) c.loop-last.invariant (steps.meets_fails (Item.more_of_name _) _ _ _ c.in_err-meets.ensures))

pub returns-in_err-next : goal.returns-in_err-next
returns-in_err-next c = let p = err_from_is_err_and c.from_residual-in_err-next.result c.from_residual-in_err-next.ensures.1 in rw (p.1, p.2) (let h = rw c.if-branch.true at c.in_ok-meets.ensures in steps.takes_name_fails _ _ (steps.name_wants c.args.first.pos _ _ h.0 c.loop-last.invariant h.1) c.in_err-next.ensures)

pub returns-in_err-push : goal.returns-in_err-push
returns-in_err-push c = let p = err_from_is_err_and c.from_residual-in_err-push.result c.from_residual-in_err-push.ensures.1 in rw (p.1, p.2) (steps.fails_memory refl)

pub loop-last-preserved : goal.loop-last-preserved
loop-last-preserved c = let h = rw c.if-branch.true at c.in_ok-meets.ensures in steps.name_more c.args.first.pos _ _ _ h.0 _ c.loop-last.invariant h.1 c.in_ok-next.ensures c.in_ok-push.ensures.ok

pub returns : goal.returns
returns c = let h = rw c.if-branch.false at c.in_ok-meets.ensures in steps.name_over c.args.first.pos _ _ c.loop-last.invariant h
