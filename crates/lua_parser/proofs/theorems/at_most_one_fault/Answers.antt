use Rattle.lua_parser.proofs.Laws.{one_fault}
use Rattle.lua_parser.proofs.theorems.at_most_one_fault.Goals as goal

pub returns : goal.returns
returns c kind ts p q f g = one_fault f g
