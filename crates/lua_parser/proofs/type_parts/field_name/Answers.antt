use Rattle.std.proofs.lemmas.Result.{err_from_is_err_and}
use Rattle.lua_parser.proofs.TypeSteps as steps
use Rattle.lua_parser.proofs.type_parts.field_name.Goals as goal

pub returns-in_err-field : goal.returns-in_err-field
returns-in_err-field c = let p = err_from_is_err_and c.from_residual.result c.from_residual.ensures.1 in rw (p.1, p.2) (steps.field_fails c.args.name _ _ _ c.in_err-field.ensures)

pub returns-in-Field : goal.returns-in-Field
returns-in-Field c = steps.field_leads c.args.name _ _ _ (rw c.in-Field.is at c.in_ok-field.ensures)

pub returns-in-Other : goal.returns-in-Other
returns-in-Other c = steps.other_fails c.args.name _ _ _ (rw c.in-Other.is at c.in_ok-field.ensures)
