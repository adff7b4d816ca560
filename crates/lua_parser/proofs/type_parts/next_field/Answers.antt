use Rattle.std.proofs.Common.{[], arith}
use Rattle.std.proofs.lemmas.Result.{err_from_is_err_and}
use Rattle.lua_lexer.specs.declared.token.Symbol.TheVariants as s
use Rattle.lua_parser.specs.Words.{sign}
use Rattle.lua_parser.proofs.TypeSteps as steps
use Rattle.lua_parser.proofs.type_parts.next_field.Goals as goal

pub returns-in_err-want : goal.returns-in_err-want
returns-in_err-want c = let p = err_from_is_err_and c.from_residual.result c.from_residual.ensures.1 in rw (p.1, p.2) (let h = c.if-not-eat.ensures in steps.want_fails (sign s.CloseBrace) (λ k _. k []) (steps.stayed h.0 (steps.fields_end_leads _ h.1)) c.in_err-want.ensures)

pub returns-then-not-eat : goal.returns-then-not-eat
returns-then-not-eat c = let h = c.if-not-eat.ensures in steps.leads_want (sign s.CloseBrace) (λ k. k []) (steps.stayed h.0 (steps.fields_end_leads _ h.1)) c.in_ok-want.ensures

pub returns-then-eat : goal.returns-then-eat
returns-then-eat c = let h = c.if-not-eat.ensures in (let g = c.if-eat.ensures in steps.leads_less 1 (steps.leads_on (steps.took h.1 (steps.comma_fields h.0 _)) (steps.took g.1 (steps.brace_ends g.0 _))) (omega arith))

pub returns-in_err-name : goal.returns-in_err-name
returns-in_err-name c = let p = err_from_is_err_and c.from_residual-in_err-name.result c.from_residual-in_err-name.ensures.1 in rw (p.1, p.2) (steps.takes_name_fails _ _ (steps.leads_on (steps.took c.if-not-eat.ensures.1 (steps.comma_fields c.if-not-eat.ensures.0 _)) (steps.stayed c.if-eat.ensures.0 (steps.field_wants _ c.if-eat.ensures.1))) c.in_err-name.ensures)

pub returns-in_err-field : goal.returns-in_err-field
returns-in_err-field c = let p = err_from_is_err_and c.from_residual-in_err-field.result c.from_residual-in_err-field.ensures.1 in rw (p.1, p.2) (steps.fails_in steps.then_fields (steps.leads_name c.in_ok-name.name steps.field_after (steps.leads_on (steps.took c.if-not-eat.ensures.1 (steps.comma_fields c.if-not-eat.ensures.0 _)) (steps.stayed c.if-eat.ensures.0 (steps.field_wants _ c.if-eat.ensures.1))) c.in_ok-name.ensures) c.in_err-field.ensures)

pub returns : goal.returns
returns c = steps.leads_less 1 (steps.leads_part steps.then_fields (steps.leads_name c.in_ok-name.name steps.field_after (steps.leads_on (steps.took c.if-not-eat.ensures.1 (steps.comma_fields c.if-not-eat.ensures.0 _)) (steps.stayed c.if-eat.ensures.0 (steps.field_wants _ c.if-eat.ensures.1))) c.in_ok-name.ensures) c.in_ok-field.ensures) (omega arith)
