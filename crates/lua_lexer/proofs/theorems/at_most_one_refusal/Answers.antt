use Rattle.lua_lexer.proofs.Laws.{refused_once}
use Rattle.lua_lexer.proofs.theorems.at_most_one_refusal.Goals as goal

pub returns : goal.returns
returns c = λ file text p q f g. refused_once f g
