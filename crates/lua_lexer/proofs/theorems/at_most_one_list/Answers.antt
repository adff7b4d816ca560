use Rattle.lua_lexer.proofs.Laws.{lexed_once}
use Rattle.lua_lexer.proofs.theorems.at_most_one_list.Goals as goal

pub returns : goal.returns
returns c = λ file text a b f g. lexed_once f g
