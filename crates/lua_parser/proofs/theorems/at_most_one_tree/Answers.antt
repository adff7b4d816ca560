use Rattle.lua_parser.proofs.Laws.{one_tree}
use Rattle.lua_parser.proofs.theorems.at_most_one_tree.Goals as goal

pub returns : goal.returns
returns c kind ts a b x y = one_tree x y
