use Rattle.lua_parser.proofs.Laws.{has_code, one_code}
use Rattle.lua_parser.proofs.theorems.one_code.Goals as goal

pub returns-clause-code : goal.returns-clause-code
returns-clause-code c = has_code

pub returns-clause-no_other : goal.returns-clause-no_other
returns-clause-no_other c front rest a b f g = one_code f g
