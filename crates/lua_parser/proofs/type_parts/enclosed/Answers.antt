use Rattle.std.proofs.Common.{refl, sym, ap, ◌∙◌}
use Rattle.std.proofs.lemmas.Result.{err_from_is_err_and}
use Rattle.lua_tree.specs.declared.annotation.TypeExpr.TheVariants as t
use Rattle.lua_parser.proofs.TypeSteps as steps
use Rattle.lua_parser.proofs.type_parts.enclosed.Goals as goal

pub returns-then-is_some : goal.returns-then-is_some
returns-then-is_some c = λ k. steps.tail_stuck _ _ _ k c.if-is_some.ensures

pub same-items : goal.same-items
same-items c = refl

pub returns-then-len-ne1 : goal.returns-then-len-ne1
returns-then-len-ne1 c = λ k. steps.many_stuck _ _ _ k (λ e. c.if-len-ne1.true (c.len.ensures ∙ e))

pub returns-in_err-new-in-Some : goal.returns-in_err-new-in-Some
returns-in_err-new-in-Some c = let p = err_from_is_err_and c.from_residual.result c.from_residual.ensures.1 in rw (p.1, p.2) (tt)

pub returns-in-Some : goal.returns-in-Some
returns-in-Some c = (c.in-Some.ty, steps.one_of _ _ _ (sym c.len.ensures ∙ c.if-len-ne1.false) (sym c.into_vec-types.ensures ∙ c.in-Some.ensures.items), steps.no_tail _ c.if-is_some.ensures, ap (t.Paren c.args.pos) c.in_ok-new-in-Some.ensures)

pub returns : goal.returns
returns c = λ k. steps.empty_stuck _ _ c.into_vec-types.result.items _ k (sym c.len.ensures ∙ c.if-len-ne1.false) (sym c.into_vec-types.ensures) (sym c.into_vec-types.result.ok.0 ∙ c.in-None.ensures.cases.0)
