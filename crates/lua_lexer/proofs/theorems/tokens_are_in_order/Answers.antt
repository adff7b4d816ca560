use Rattle.lua_lexer.proofs.Order.{in_order}
use Rattle.lua_lexer.proofs.theorems.tokens_are_in_order.Goals as goal

pub returns : goal.returns
returns c = λ file text a f. in_order f
