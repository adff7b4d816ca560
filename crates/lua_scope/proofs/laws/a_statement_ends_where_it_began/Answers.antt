use Rattle.lua_tree.proofs.LexicalTrees.{stats_open}
use Rattle.lua_scope.proofs.laws.a_statement_ends_where_it_began.Goals as goal

pub returns : goal.returns
returns c = stats_open
