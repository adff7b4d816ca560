use Rattle.std.proofs.lemmas.Result.{err_from_is_err_and}
use Rattle.lua_tree.specs.View.{exp_of, exps_of}
use Rattle.tl_check.proofs.Combined.{store_untargeted, store_unvalued, store_untyped, store_puts}
use Rattle.tl_check.proofs.locals.store.Goals as goal

pub returns-in_err-local : goal.returns-in_err-local
returns-in_err-local c =
    let p = err_from_is_err_and c.from_residual.result c.from_residual.ensures.1 in rw (p.1, p.2)
    (store_untargeted c.args.uses.now c.args.env.now.items c.args.env.now.items c.args.pos (exp_of c.args.target) (exps_of c.args.values) _ c.in_err-local.ensures)

pub returns-in_err-expr : goal.returns-in_err-expr
returns-in_err-expr c =
    let p = err_from_is_err_and c.from_residual-in_err-expr.result c.from_residual-in_err-expr.ensures.1 in rw (p.1, p.2)
    (store_unvalued c.args.uses.now c.args.env.now.items c.args.env.now.items c.args.pos (exp_of c.args.target) (exps_of c.args.values) c.in_ok-local.local _ c.in_ok-local.ensures c.in_err-expr.ensures)

pub returns-in_err-typed : goal.returns-in_err-typed
returns-in_err-typed c =
    let p = err_from_is_err_and c.from_residual-in_err-typed.result c.from_residual-in_err-typed.ensures.1 in rw (p.1, p.2)
    (store_untyped c.args.uses.now c.args.env.now.items c.args.env.now.items c.as_slice.result.now c.args.pos (exp_of c.args.target) (exps_of c.args.values) c.in_ok-local.local c.in_ok-expr.expr _
    c.as_slice.ensures.value c.in_ok-local.ensures c.in_ok-expr.ensures c.in_err-typed.ensures)

pub returns : goal.returns
returns c =
    store_puts c.args.uses.now c.args.env.now.items c.put.new.env.items c.args.pos (exp_of c.args.target) (exps_of c.args.values) c.in_ok-local.local c.in_ok-expr.expr c.in_ok-typed.typed c.put.result
    c.in_ok-local.ensures c.in_ok-expr.ensures (rw c.as_slice.ensures.value at c.in_ok-typed.ensures) (c.put.ensures c.args.uses.now)
