use Rattle.std.proofs.Common.{refl, arith}
use Rattle.std.proofs.lemmas.Result.{err_from_is_err_and}
use Rattle.lua_parser.specs.Machine.Plan.{Item}
use Rattle.lua_parser.proofs.TypeSteps as steps
use Rattle.lua_parser.proofs.type_parts.marked.Goals as goal

pub returns-in_err-meets : goal.returns-in_err-meets
returns-in_err-meets c = let p = err_from_is_err_and c.from_residual.result c.from_residual.ensures.1 in rw (p.1, p.2) (steps.meets_fails (Item.maybe_mark c.args.ty) _ _ _ c.in_err-meets.ensures)

pub returns-then-not-branch : goal.returns-then-not-branch
returns-then-not-branch c = let h = rw c.if-not-branch.true at c.in_ok-meets.ensures in steps.stayed h.0 (steps.no_mark c.args.ty _ h.1 h.2)

pub returns-in_err-closes : goal.returns-in_err-closes
returns-in_err-closes c = let p = err_from_is_err_and c.from_residual-in_err-closes.result c.from_residual-in_err-closes.ensures.1 in rw (p.1, p.2) (steps.fails_deep c.in_err-closes.ensures)

pub returns-in_err-new : goal.returns-in_err-new
returns-in_err-new c = let p = err_from_is_err_and c.from_residual-in_err-new.result c.from_residual-in_err-new.ensures.1 in rw (p.1, p.2) (steps.fails_memory refl)

pub returns : goal.returns
returns c = let h = rw c.if-not-branch.false at c.in_ok-meets.ensures in steps.gives (steps.stayed c.in_ok-closes.ensures (steps.leads_less 0 (steps.took h.1 (steps.mark_leads c.args.ty h.0 _)) (omega arith))) (cc (c.place-pos.ensures, c.in_ok-new.ensures))
