use Rattle.lua_parser.proofs.TooDeep.{one_too_deep}
use Rattle.lua_parser.proofs.theorems.at_most_one_too_deep.Goals as goal

pub returns : goal.returns
returns c m kind ts p q x y = one_too_deep x y
