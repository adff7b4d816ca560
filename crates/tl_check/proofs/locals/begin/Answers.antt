use Rattle.std.proofs.Common.{ap, Err}
use Rattle.std.proofs.lemmas.Result.{err_from_is_err_and}
use Rattle.lua_tree.specs.View.{exp_of}
use Rattle.tl_check.proofs.Combined.{begun_unvalued, begun_untyped, begun_large, begun_declared, begun_general}
use Rattle.tl_check.proofs.locals.begin.Goals as goal

pub returns-in_err-typed-in-Some : goal.returns-in_err-typed-in-Some
returns-in_err-typed-in-Some c =
    let p = err_from_is_err_and c.from_residual.result c.from_residual.ensures.1 in rw (p.1, p.2)
    (begun_unvalued c.args.uses.now c.args.env.now c.args.declared c.in-Some.to (exp_of c.args.expr) _ c.in-Some.is c.in_err-typed-in-Some.ensures)

pub returns-in_err-typed-in-None : goal.returns-in_err-typed-in-None
returns-in_err-typed-in-None c =
    let p = err_from_is_err_and c.from_residual-in_err-typed-in-None.result c.from_residual-in_err-typed-in-None.ensures.1 in rw (p.1, p.2)
    (begun_untyped c.args.uses.now c.args.env.now c.args.declared (exp_of c.args.expr) _ c.in-None.is c.in_err-typed-in-None.ensures)

pub returns-in-Err-TooLarge : goal.returns-in-Err-TooLarge
returns-in-Err-TooLarge c =
    rw c.refused.ensures
    (begun_large c.args.uses.now c.args.env.now c.args.declared (exp_of c.args.expr) c.in_ok-typed-in-None.typed c.in-None.is c.in_ok-typed-in-None.ensures (c.in-Err-TooLarge.ensures.large (ap Err c.in-Err-TooLarge.field-0-is)))

pub returns-in_ok-typed-in-Some : goal.returns-in_ok-typed-in-Some
returns-in_ok-typed-in-Some c =
    begun_declared c.args.uses.now c.args.env.now c.args.declared c.in-Some.to (exp_of c.args.expr) c.in_ok-typed-in-Some.typed c.holding.result c.in-Some.is c.in_ok-typed-in-Some.ensures c.holding.ensures

pub returns-in-Ok : goal.returns-in-Ok
returns-in-Ok c =
    begun_general c.args.uses.now c.args.env.now c.args.declared c.in-Ok.ty (exp_of c.args.expr) c.in_ok-typed-in-None.typed c.holding-in-None.result c.in-None.is c.in_ok-typed-in-None.ensures
    c.in-Ok.ensures.within c.in-Ok.ensures.value c.holding-in-None.ensures
