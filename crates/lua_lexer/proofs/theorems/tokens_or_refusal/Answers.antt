use Rattle.lua_lexer.proofs.Laws.{lexed_or_refused}
use Rattle.lua_lexer.proofs.theorems.tokens_or_refusal.Goals as goal

pub returns : goal.returns
returns c = λ file text a p f g. lexed_or_refused f g
