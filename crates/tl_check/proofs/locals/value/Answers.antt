use Rattle.std.proofs.lemmas.Result.{err_from_is_err_and}
use Rattle.lua_tree.specs.View.{exp_of}
use Rattle.tl_check.proofs.Combined.{value_untyped, value_flows}
use Rattle.tl_check.proofs.locals.value.Goals as goal

pub returns-in_err-typed : goal.returns-in_err-typed
returns-in_err-typed c =
    let p = err_from_is_err_and c.from_residual.result c.from_residual.ensures.1 in rw (p.1, p.2)
    (value_untyped c.args.uses.now c.args.env.now c.args.to.now (exp_of c.args.expr) _ c.in_err-typed.ensures)

pub returns : goal.returns
returns c = value_flows c.args.uses.now c.args.env.now c.args.to.now (exp_of c.args.expr) c.in_ok-typed.typed c.flow_into.result c.in_ok-typed.ensures c.flow_into.ensures
