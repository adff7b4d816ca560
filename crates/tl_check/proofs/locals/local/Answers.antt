use Rattle.std.proofs.lemmas.Result.{err_from_is_err_and}
use Rattle.tl_check.proofs.Combined.{undeclared, declares}
use Rattle.lua_tree.specs.View.{exps_of}
use Rattle.tl_check.proofs.locals.local.Goals as goal

pub returns-in_err-name : goal.returns-in_err-name
returns-in_err-name c =
    let p = err_from_is_err_and c.from_residual.result c.from_residual.ensures.1 in rw (p.1, p.2)
    (undeclared c.args.uses.now c.args.env.now.items c.args.env.now.items c.args.pos c.args.names (exps_of c.args.values) _ c.in_err-name.ensures)

pub returns : goal.returns
returns c =
    declares c.args.uses.now c.args.env.now.items c.declare.new.env.items c.args.pos c.args.names c.in_ok-name.name (exps_of c.args.values) c.declare.result c.in_ok-name.ensures c.declare.ensures
