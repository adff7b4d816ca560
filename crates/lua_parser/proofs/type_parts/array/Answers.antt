use Rattle.std.proofs.Common.{refl}
use Rattle.std.proofs.lemmas.Result.{err_from_is_err_and}
use Rattle.lua_tree.specs.declared.annotation.TypeExpr.TheVariants as t
use Rattle.lua_lexer.specs.declared.token.Symbol.TheVariants as s
use Rattle.lua_parser.specs.Words.{sign}
use Rattle.lua_parser.specs.TypeReadings.{end_of_array}
use Rattle.lua_parser.proofs.TypeSteps as steps
use Rattle.lua_parser.proofs.type_parts.array.Goals as goal

pub returns-in_err-want : goal.returns-in_err-want
returns-in_err-want c = let p = err_from_is_err_and c.from_residual.result c.from_residual.ensures.1 in rw (p.1, p.2) (steps.want_fails (sign s.CloseBrace) (λ k _. k (t.Array c.args.pos c.args.ty)) (steps.leads_same (end_of_array c.args.pos c.args.ty) _) c.in_err-want.ensures)

pub returns-in_err-closes : goal.returns-in_err-closes
returns-in_err-closes c = let p = err_from_is_err_and c.from_residual-in_err-closes.result c.from_residual-in_err-closes.ensures.1 in rw (p.1, p.2) (steps.fails_deep c.in_err-closes.ensures)

pub returns-in_err-new : goal.returns-in_err-new
returns-in_err-new c = let p = err_from_is_err_and c.from_residual-in_err-new.result c.from_residual-in_err-new.ensures.1 in rw (p.1, p.2) (steps.fails_memory refl)

pub returns : goal.returns
returns c = steps.gives (steps.stayed c.in_ok-closes.ensures (steps.leads_want (sign s.CloseBrace) (λ k. k (t.Array c.args.pos c.args.ty)) (steps.leads_same (end_of_array c.args.pos c.args.ty) _) c.in_ok-want.ensures)) (cc c.in_ok-new.ensures)
