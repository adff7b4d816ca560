use Rattle.lua_values.proofs.Tables.{get-set_same, get-set_other}
use Rattle.lua_values.proofs.laws.tables_give_what_was_stored.Goals as goal

pub returns-clause-same : goal.returns-clause-same
returns-clause-same c = get-set_same

pub returns-clause-other : goal.returns-clause-other
returns-clause-other c = get-set_other
