use Rattle.lua_parser.proofs.Laws.{no_tree_at_fault}
use Rattle.lua_parser.proofs.theorems.no_fault_in_a_tree.Goals as goal

pub returns : goal.returns
returns c kind ts rest b d f = no_tree_at_fault d f
