use Rattle.std.proofs.lemmas.Result.{err_from_is_err_and}
use Rattle.lua_parser.proofs.TypeSteps as steps
use Rattle.lua_parser.proofs.type_parts.parenthesised.Goals as goal

pub returns-in_err-ty : goal.returns-in_err-ty
returns-in_err-ty c = λ h. let p = err_from_is_err_and c.from_residual.result c.from_residual.ensures.1 in rw (p.1, p.2) (steps.enclosed_fails c.args.pos c.args.inside _ _ c.in_err-ty.ensures h.1)

pub returns-in_err-closes : goal.returns-in_err-closes
returns-in_err-closes c = λ h. let p = err_from_is_err_and c.from_residual-in_err-closes.result c.from_residual-in_err-closes.ensures.1 in rw (p.1, p.2) (steps.fails_deep c.in_err-closes.ensures)

pub returns-in_err-ty-2 : goal.returns-in_err-ty-2
returns-in_err-ty-2 c = λ h. let p = err_from_is_err_and c.from_residual-in_err-ty-2.result c.from_residual-in_err-ty-2.ensures.1 in rw (p.1, p.2) (steps.fails_in steps.in_itself (steps.stayed c.in_ok-closes.ensures (steps.enclosed_leads c.args.pos c.args.inside c.in_ok-ty.ty _ c.in_ok-ty.ensures h.1 h.2)) c.in_err-ty-2.ensures)

pub returns : goal.returns
returns c = λ h. steps.leads_part steps.in_itself (steps.stayed c.in_ok-closes.ensures (steps.enclosed_leads c.args.pos c.args.inside c.in_ok-ty.ty _ c.in_ok-ty.ensures h.1 h.2)) c.in_ok-ty-2.ensures
