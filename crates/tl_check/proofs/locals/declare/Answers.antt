use Rattle.std.proofs.lemmas.Result.{err_from_is_err_and}
use Rattle.lua_tree.specs.View.{exps_of}
use Rattle.tl_check.proofs.Combined.{local_unread, local_unvalued, local_unbegun, local_begins}
use Rattle.tl_check.proofs.locals.declare.Goals as goal

pub returns-in_err-declared : goal.returns-in_err-declared
returns-in_err-declared c =
    let p = err_from_is_err_and c.from_residual.result c.from_residual.ensures.1 in rw (p.1, p.2)
    (local_unread c.args.uses.now c.args.env.now.items c.args.env.now.items c.args.pos c.args.name (exps_of c.args.values) _ c.in_err-declared.ensures)

pub returns-in_err-expr : goal.returns-in_err-expr
returns-in_err-expr c =
    let p = err_from_is_err_and c.from_residual-in_err-expr.result c.from_residual-in_err-expr.ensures.1 in rw (p.1, p.2)
    (local_unvalued c.args.uses.now c.args.env.now.items c.args.env.now.items c.args.pos c.args.name (exps_of c.args.values) c.in_ok-declared.declared _ c.in_ok-declared.ensures c.in_err-expr.ensures)

pub returns-in_err-local : goal.returns-in_err-local
returns-in_err-local c =
    let p = err_from_is_err_and c.from_residual-in_err-local.result c.from_residual-in_err-local.ensures.1 in rw (p.1, p.2)
    (local_unbegun c.args.uses.now c.args.env.now.items c.args.env.now.items c.as_slice.result.now c.args.pos c.args.name (exps_of c.args.values) c.in_ok-declared.declared c.in_ok-expr.expr _
    c.as_slice.ensures.value c.in_ok-declared.ensures c.in_ok-expr.ensures c.in_err-local.ensures)

pub returns : goal.returns
returns c =
    local_begins c.args.uses.now c.args.env.now.items c.bind.new.env.items c.args.pos c.args.name (exps_of c.args.values) c.in_ok-declared.declared c.in_ok-expr.expr c.in_ok-local.field-0 c.in_ok-names.names c.in_ok-values.values
    c.in_ok-declared.ensures c.in_ok-expr.ensures (rw c.as_slice.ensures.value at c.in_ok-local.ensures) (cc c.in_ok-bind.ensures) c.in_ok-names.ensures (cc c.in_ok-values.ensures)
