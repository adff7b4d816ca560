use Rattle.lua_tree.proofs.LexicalTrees.{exprs_keep}
use Rattle.lua_scope.proofs.laws.an_expression_declares_nothing.Goals as goal

pub returns : goal.returns
returns c = λ e. (exprs_keep e).0
