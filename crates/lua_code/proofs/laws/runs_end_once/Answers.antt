use Rattle.lua_code.proofs.Ends.{runs_on, one_end}
use Rattle.lua_code.proofs.laws.runs_end_once.Goals as goal

pub returns-clause-more : goal.returns-clause-more
returns-clause-more c = runs_on

pub returns-clause-one : goal.returns-clause-one
returns-clause-one c = one_end
