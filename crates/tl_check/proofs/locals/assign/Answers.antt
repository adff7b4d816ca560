use Rattle.std.proofs.lemmas.Result.{err_from_is_err_and}
use Rattle.tl_check.proofs.Combined.{untargeted, stores}
use Rattle.lua_tree.specs.View.{exps_of}
use Rattle.tl_check.proofs.locals.assign.Goals as goal

pub returns-in_err-target : goal.returns-in_err-target
returns-in_err-target c =
    let p = err_from_is_err_and c.from_residual.result c.from_residual.ensures.1 in rw (p.1, p.2)
    (untargeted c.args.uses.now c.args.env.now.items c.args.env.now.items c.args.pos c.args.targets (exps_of c.args.values) _ c.in_err-target.ensures)

pub returns : goal.returns
returns c =
    stores c.args.uses.now c.args.env.now.items c.store.new.env.items c.args.pos c.args.targets c.in_ok-target.target (exps_of c.args.values) c.store.result c.in_ok-target.ensures c.store.ensures
