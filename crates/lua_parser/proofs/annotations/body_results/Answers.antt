use Rattle.std.proofs.Common.{refl, sym, ap, arith, append-nil}
use Rattle.std.proofs.lemmas.Result.{err_from_is_err_and}
use Rattle.lua_lexer.specs.declared.token.Symbol.TheVariants as s
use Rattle.lua_parser.specs.Words.{sign}
use Rattle.lua_parser.specs.Grammar.Types.{results}
use Rattle.lua_parser.specs.Machine.Plan.{Item, read}
use Rattle.lua_parser.specs.Machine.Steps.{tuple_then}
use Rattle.lua_parser.proofs.TypeSteps as steps
use Rattle.lua_parser.proofs.annotations.body_results.Goals as goal

pub returns-in_err-ty : goal.returns-in_err-ty
returns-in_err-ty c = let p = err_from_is_err_and c.from_residual.result c.from_residual.ensures.1 in rw (p.1, p.2) (steps.fails_in steps.only_result (let h = c.if-not-eat.ensures in steps.stayed h.0 (steps.body_result_leads _ h.1)) c.in_err-ty.ensures)

pub returns-in_err-single : goal.returns-in_err-single
returns-in_err-single c = let p = err_from_is_err_and c.from_residual-in_err-single.result c.from_residual-in_err-single.ensures.1 in rw (p.1, p.2) (steps.fails_memory refl)

pub returns-then-not-eat : goal.returns-then-not-eat
returns-then-not-eat c = steps.gives (steps.leads_part steps.only_result (let h = c.if-not-eat.ensures in steps.stayed h.0 (steps.body_result_leads _ h.1)) c.in_ok-ty.ensures) (sym c.in_ok-single.ensures)

pub returns-in_err-inside : goal.returns-in_err-inside
returns-in_err-inside c = let p = err_from_is_err_and c.from_residual-in_err-inside.result c.from_residual-in_err-inside.ensures.1 in rw (p.1, p.2) (let h = c.if-not-eat.ensures in steps.fails_in (steps.one_body c.pos-pos.result) (steps.at_head (sign s.OpenParen) (read Item.body_results) steps.first_body steps.body_results_lead _ _ _ h.0 c.pos-pos.ensures h.1) (steps.tuple_fails _ s.CloseParen _ c.in_err-inside.ensures))

pub loop-tuples-init : goal.loop-tuples-init
loop-tuples-init c = let h = c.if-not-eat.ensures in steps.bodies_begin c.pos-pos.result _ c.new-tuples.ensures (steps.at_head (sign s.OpenParen) (read Item.body_results) steps.first_body steps.body_results_lead _ _ _ h.0 c.pos-pos.ensures h.1)

pub returns-in_err-types : goal.returns-in_err-types
returns-in_err-types c = let p = err_from_is_err_and c.from_residual-in_err-types.result c.from_residual-in_err-types.ensures.1 in rw (p.1, p.2) (steps.fails_in (steps.more_bodies c.pos-pos.result c.loop-tuples.tuples) c.loop-tuples.invariant c.in_err-types.ensures)

pub returns-in_err-push : goal.returns-in_err-push
returns-in_err-push c = let p = err_from_is_err_and c.from_residual-in_err-push.result c.from_residual-in_err-push.ensures.1 in rw (p.1, p.2) (steps.fails_memory refl)

pub returns-in_err-meets : goal.returns-in_err-meets
returns-in_err-meets c = let p = err_from_is_err_and c.from_residual-in_err-meets.result c.from_residual-in_err-meets.ensures.1 in rw (p.1, p.2) (steps.fails_in (steps.bodies c.pos-pos.result c.push.new.self) (steps.bodies_pushed c.pos-pos.result c.loop-tuples.tuples c.push.new.self _ _ (steps.leads_part (steps.more_bodies c.pos-pos.result c.loop-tuples.tuples) c.loop-tuples.invariant c.in_ok-types.ensures) c.tuple_of.ensures c.in_ok-push.ensures.ok) (steps.meets_fails Item.more_body_results _ _ _ c.in_err-meets.ensures))

pub returns-then-not-branch : goal.returns-then-not-branch
returns-then-not-branch c = let h = rw c.if-not-branch.true at c.in_ok-meets.ensures in steps.gives (steps.leads_less 1 (steps.leads_part (steps.bodies c.pos-pos.result c.push.new.self) (steps.bodies_pushed c.pos-pos.result c.loop-tuples.tuples c.push.new.self _ _ (steps.leads_part (steps.more_bodies c.pos-pos.result c.loop-tuples.tuples) c.loop-tuples.invariant c.in_ok-types.ensures) c.tuple_of.ensures c.in_ok-push.ensures.ok) (steps.stayed h.0 (steps.body_end_leads _ h.1 h.2))) (omega arith)) (ap (results c.pos-pos.result) (append-nil c.push.new.self))

pub returns-in_err-want : goal.returns-in_err-want
returns-in_err-want c = let p = err_from_is_err_and c.from_residual-in_err-want.result c.from_residual-in_err-want.ensures.1 in rw (p.1, p.2) (steps.want_fails (sign s.OpenParen) (λ k _. tuple_then (steps.more_bodies c.pos-pos.result c.push.new.self k)) (let g = rw c.if-not-branch.false at c.in_ok-meets.ensures in steps.leads_part (steps.bodies c.pos-pos.result c.push.new.self) (steps.bodies_pushed c.pos-pos.result c.loop-tuples.tuples c.push.new.self _ _ (steps.leads_part (steps.more_bodies c.pos-pos.result c.loop-tuples.tuples) c.loop-tuples.invariant c.in_ok-types.ensures) c.tuple_of.ensures c.in_ok-push.ensures.ok) (steps.took g.1 (steps.body_bar_leads g.0 _))) c.in_err-want.ensures)

pub loop-tuples-preserved : goal.loop-tuples-preserved
loop-tuples-preserved c = steps.leads_less 1 (steps.leads_want (sign s.OpenParen) (λ k. tuple_then (steps.more_bodies c.pos-pos.result c.push.new.self k)) (let g = rw c.if-not-branch.false at c.in_ok-meets.ensures in steps.leads_part (steps.bodies c.pos-pos.result c.push.new.self) (steps.bodies_pushed c.pos-pos.result c.loop-tuples.tuples c.push.new.self _ _ (steps.leads_part (steps.more_bodies c.pos-pos.result c.loop-tuples.tuples) c.loop-tuples.invariant c.in_ok-types.ensures) c.tuple_of.ensures c.in_ok-push.ensures.ok) (steps.took g.1 (steps.body_bar_leads g.0 _))) c.in_ok-want.ensures) (omega arith)
