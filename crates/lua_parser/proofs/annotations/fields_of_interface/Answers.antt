use Rattle.std.proofs.Common.{refl, arith, append-nil}
use Rattle.std.proofs.lemmas.Result.{err_from_is_err_and}
use Rattle.lua_parser.proofs.TypeSteps as steps
use Rattle.lua_parser.proofs.annotations.fields_of_interface.Goals as goal

pub loop-alloc-init : goal.loop-alloc-init
loop-alloc-init c = steps.interface_starts _ _ c.new-fields.ensures

pub returns-in_err-name : goal.returns-in_err-name
returns-in_err-name c = let h = rw c.loop-alloc-test.true at c.eat_word.ensures in (let p = err_from_is_err_and c.from_residual.result c.from_residual.ensures.1 in rw (p.1, p.2) (steps.takes_name_fails _ _ (steps.leads_part (steps.fields_with c.loop-alloc.fields) c.loop-alloc.invariant (steps.stayed h.0 (steps.interface_wants _ h.1))) c.in_err-name.ensures))

pub returns-in_err-start : goal.returns-in_err-start
returns-in_err-start c = let h = rw c.loop-alloc-test.true at c.eat_word.ensures in (let p = err_from_is_err_and c.from_residual-in_err-start.result c.from_residual-in_err-start.ensures.1 in rw (p.1, p.2) (steps.fails_in (steps.field_with c.loop-alloc.fields) (steps.leads_name c.in_ok-name.name (steps.named_with c.loop-alloc.fields) (steps.leads_part (steps.fields_with c.loop-alloc.fields) c.loop-alloc.invariant (steps.stayed h.0 (steps.interface_wants _ h.1))) c.in_ok-name.ensures) c.in_err-start.ensures))

pub returns-in_err-ty : goal.returns-in_err-ty
returns-in_err-ty c = let h = rw c.loop-alloc-test.true at c.eat_word.ensures in (let p = err_from_is_err_and c.from_residual-in_err-ty.result c.from_residual-in_err-ty.ensures.1 in rw (p.1, p.2) (steps.fails_in (steps.typed_with c.loop-alloc.fields c.in_ok-start.start) (steps.leads_part (steps.field_with c.loop-alloc.fields) (steps.leads_name c.in_ok-name.name (steps.named_with c.loop-alloc.fields) (steps.leads_part (steps.fields_with c.loop-alloc.fields) c.loop-alloc.invariant (steps.stayed h.0 (steps.interface_wants _ h.1))) c.in_ok-name.ensures) c.in_ok-start.ensures) c.in_err-ty.ensures))

pub returns-in_err-push : goal.returns-in_err-push
returns-in_err-push c = let p = err_from_is_err_and c.from_residual-in_err-push.result c.from_residual-in_err-push.ensures.1 in rw (p.1, p.2) (steps.fails_memory refl)

pub returns-in_err-separator : goal.returns-in_err-separator
returns-in_err-separator c = let h = rw c.loop-alloc-test.true at c.eat_word.ensures in (let p = err_from_is_err_and c.from_residual-in_err-separator.result c.from_residual-in_err-separator.ensures.1 in rw (p.1, p.2) (steps.fails_in (steps.behind_separator c.push.new.self) (steps.separated c.loop-alloc.fields c.push.new.self _ _ (steps.leads_part (steps.typed_with c.loop-alloc.fields c.in_ok-start.start) (steps.leads_part (steps.field_with c.loop-alloc.fields) (steps.leads_name c.in_ok-name.name (steps.named_with c.loop-alloc.fields) (steps.leads_part (steps.fields_with c.loop-alloc.fields) c.loop-alloc.invariant (steps.stayed h.0 (steps.interface_wants _ h.1))) c.in_ok-name.ensures) c.in_ok-start.ensures) c.in_ok-ty.ensures) c.field_of.ensures c.in_ok-push.ensures.ok) c.in_err-separator.ensures))

pub loop-alloc-preserved : goal.loop-alloc-preserved
loop-alloc-preserved c = let h = rw c.loop-alloc-test.true at c.eat_word.ensures in (steps.leads_less 0 (steps.leads_part (steps.behind_separator c.push.new.self) (steps.separated c.loop-alloc.fields c.push.new.self _ _ (steps.leads_part (steps.typed_with c.loop-alloc.fields c.in_ok-start.start) (steps.leads_part (steps.field_with c.loop-alloc.fields) (steps.leads_name c.in_ok-name.name (steps.named_with c.loop-alloc.fields) (steps.leads_part (steps.fields_with c.loop-alloc.fields) c.loop-alloc.invariant (steps.stayed h.0 (steps.interface_wants _ h.1))) c.in_ok-name.ensures) c.in_ok-start.ensures) c.in_ok-ty.ensures) c.field_of.ensures c.in_ok-push.ensures.ok) c.in_ok-separator.ensures) (omega arith))

pub returns : goal.returns
returns c = let h = rw c.loop-alloc-test.false at c.eat_word.ensures in (steps.gives (steps.leads_less 1 (steps.leads_part (steps.fields_with c.loop-alloc.fields) c.loop-alloc.invariant (steps.took h.1 (steps.interface_ends h.0 _))) (omega arith)) (append-nil c.loop-alloc.fields))
