use Rattle.std.proofs.Common.{◌≡◌, ap, ◌∙◌}
use Rattle.std.proofs.lemmas.Result.{err_from_is_err_and}
use Rattle.lua_tree.specs.declared.syntax.Expr.TheVariants as expr
use Rattle.lua_tree.specs.declared.syntax.Stat.TheVariants as stat
use Rattle.tl_rules.specs.Checked.{fine}
use Rattle.tl_check.specs.Answers.{stat_view}
use Rattle.tl_check.proofs.Combined.{run_uncalled, run_unargued, run_made}
use Rattle.tl_check.proofs.statements.call.Goals as goal

pub returns-in_err-called-in-Call : goal.returns-in_err-called-in-Call
returns-in_err-called-in-Call c =
    let p = err_from_is_err_and c.from_residual.result c.from_residual.ensures.1 in rw (p.1, p.2)
    (run_uncalled c.args.uses.now c.args.env.now c.args.pos c.in-Call.place c.args.expr c.in-Call.callee c.into_inner.result c.in-Call.values _ c.in-Call.is c.into_inner.ensures c.in_err-called-in-Call.ensures)

pub returns-in_err-values-in-Call : goal.returns-in_err-values-in-Call
returns-in_err-values-in-Call c =
    let p = err_from_is_err_and c.from_residual-in_err-values-in-Call.result c.from_residual-in_err-values-in-Call.ensures.1 in rw (p.1, p.2)
    (run_unargued c.args.uses.now c.args.env.now c.args.pos c.in-Call.place c.args.expr c.in-Call.callee c.in_ok-called-in-Call.called c.in-Call.values _ c.in-Call.is (rw c.into_inner.ensures at c.in_ok-called-in-Call.ensures) c.in_err-values-in-Call.ensures)

pub returns-in_ok-boxed-in-Call : goal.returns-in_ok-boxed-in-Call
returns-in_ok-boxed-in-Call c =
    run_made c.args.uses.now c.args.env.now c.args.pos c.in-Call.place c.args.expr c.in-Call.callee c.in_ok-called-in-Call.called c.in-Call.values c.in_ok-values-in-Call.values c.in-Call.is (rw c.into_inner.ensures at c.in_ok-called-in-Call.ensures) c.in_ok-values-in-Call.ensures
    ∙ ap (λ z. fine (stat_view c.args.env.now (stat.Call c.args.pos (expr.Call c.in-Call.place z c.in_ok-values-in-Call.values)))) (let e : c.in_ok-called-in-Call.called ≡ c.in_ok-boxed-in-Call.boxed = cc c.in_ok-boxed-in-Call.ensures in e)
