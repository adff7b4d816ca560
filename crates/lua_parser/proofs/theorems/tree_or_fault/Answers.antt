use Rattle.lua_parser.proofs.Laws.{tree_or_fault}
use Rattle.lua_parser.proofs.theorems.tree_or_fault.Goals as goal

pub returns : goal.returns
returns c = tree_or_fault
