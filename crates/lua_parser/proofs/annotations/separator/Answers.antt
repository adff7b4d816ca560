use Rattle.std.proofs.Common.{sym, ap, ◌∙◌, arith}
use Rattle.std.proofs.lemmas.Result.{err_from_is_err_and}
use Rattle.lua_lexer.specs.declared.token.Symbol.TheVariants as s
use Rattle.lua_parser.specs.Words.{sign}
use Rattle.lua_parser.specs.Machine.Plan.{Item, read}
use Rattle.lua_parser.specs.Outcomes.{head_is}
use Rattle.lua_parser.proofs.TypeSteps as steps
use Rattle.lua_parser.proofs.annotations.separator.Goals as goal

pub returns-in_err-meets : goal.returns-in_err-meets
returns-in_err-meets c = let p = err_from_is_err_and c.from_residual.result c.from_residual.ensures.1 in rw (p.1, p.2) (steps.meets_fails Item.maybe_separator _ _ _ c.in_err-meets.ensures)

pub returns-then-branch : goal.returns-then-branch
returns-then-branch c = let h = rw c.if-branch.true at c.in_ok-meets.ensures in steps.leads_less 0 (steps.took h.1 (steps.comma_separates h.0 _)) (omega arith)

pub returns-in_err-meets-2 : goal.returns-in_err-meets-2
returns-in_err-meets-2 c = let p = err_from_is_err_and c.from_residual-in_err-meets-2.result c.from_residual-in_err-meets-2.ensures.1 in rw (p.1, p.2) (let h = rw c.if-branch.false at c.in_ok-meets.ensures in steps.fails_at (steps.stayed h.0 (steps.leads_same (read Item.maybe_separator) _)) (steps.meets_fails Item.maybe_separator _ _ _ c.in_err-meets-2.ensures))

pub returns-then-branch-2 : goal.returns-then-branch-2
returns-then-branch-2 c = let h = rw c.if-branch.false at c.in_ok-meets.ensures in (let g = rw c.if-branch-2.true at c.in_ok-meets-2.ensures in steps.leads_less 0 (steps.took (sym h.0 ∙ g.1) (steps.semicolon_separates g.0 _)) (omega arith))

pub returns : goal.returns
returns c = let h = rw c.if-branch.false at c.in_ok-meets.ensures in (let g = rw c.if-branch-2.false at c.in_ok-meets-2.ensures in steps.stayed (g.0 ∙ h.0) (steps.nothing_separates _ h.1 (ap (head_is (sign s.Semicolon)) (sym h.0) ∙ g.1) h.2))
