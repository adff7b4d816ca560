use Rattle.std.proofs.lemmas.Result.{err_from_is_err_and}
use Rattle.lua_parser.specs.Machine.Plan.{Item}
use Rattle.lua_parser.proofs.TypeSteps as steps
use Rattle.lua_parser.proofs.annotations.annotation.Goals as goal

pub returns-in_err-meets_colon : goal.returns-in_err-meets_colon
returns-in_err-meets_colon c = let p = err_from_is_err_and c.from_residual.result c.from_residual.ensures.1 in rw (p.1, p.2) (steps.fails_in_kind c.args.kind Item.annotation _ _ _ c.in_err-meets_colon.ensures)

pub returns-then-not-branch : goal.returns-then-not-branch
returns-then-not-branch c = let h = rw c.if-not-branch.true at c.in_ok-meets_colon.ensures in steps.no_annotation c.args.kind _ _ h

pub returns-in_err-ty : goal.returns-in_err-ty
returns-in_err-ty c = let p = err_from_is_err_and c.from_residual-in_err-ty.result c.from_residual-in_err-ty.ensures.1 in rw (p.1, p.2) (let h = rw c.if-not-branch.false at c.in_ok-meets_colon.ensures in steps.annotation_fails c.args.kind _ _ _ _ h c.in_err-ty.ensures)

pub returns : goal.returns
returns c = let h = rw c.if-not-branch.false at c.in_ok-meets_colon.ensures in steps.annotation_reads c.args.kind _ _ _ _ h c.in_ok-ty.ensures
