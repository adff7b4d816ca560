use Rattle.std.proofs.Common.{arith}
use Rattle.std.proofs.lemmas.Result.{err_from_is_err_and}
use Rattle.lua_parser.specs.Grammar.Types.{InItself, InTuple, InType}
use Rattle.lua_parser.specs.Machine.Plan.{Item, ended}
use Rattle.lua_parser.proofs.TypeSteps as steps
use Rattle.lua_parser.proofs.type_parts.joins.Goals as goal

pub returns-in_err-meets-in-InItself : goal.returns-in_err-meets-in-InItself
returns-in_err-meets-in-InItself c = let p = err_from_is_err_and c.from_residual.result c.from_residual.ensures.1 in rw (p.1, p.2, c.in-InItself.is) (steps.meets_fails (Item.more_of_union (ended InItself)) _ _ _ c.in_err-meets-in-InItself.ensures)

pub returns-in-Joined : goal.returns-in-Joined
returns-in-Joined c = rw c.in-Joined.is (steps.joined_leads _)

pub returns-then-branch : goal.returns-then-branch
returns-then-branch c = rw c.in-InItself.is (let h = rw c.if-branch.true at c.in_ok-meets-in-InItself.ensures in steps.leads_less 0 (steps.took h.1 (steps.bar_leads h.0 _)) (omega arith))

pub returns-else-branch : goal.returns-else-branch
returns-else-branch c = rw c.in-InItself.is (let h = rw c.if-branch.false at c.in_ok-meets-in-InItself.ensures in steps.stayed h.0 (steps.no_bar InItself _ h.1 h.2))

pub returns-in-InTuple : goal.returns-in-InTuple
returns-in-InTuple c = rw c.in-InTuple.is (steps.closed_turns InTuple _ _ (λ e. cc) c.closed.ensures)

pub returns-in-InType : goal.returns-in-InType
returns-in-InType c = rw c.in-InType.is (steps.closed_turns InType _ _ (λ e. cc) c.closed-in-InType.ensures)
