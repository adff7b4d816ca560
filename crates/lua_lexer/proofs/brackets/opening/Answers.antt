use Rattle.lua_lexer.proofs.Fences.{never_opens, opens_at}
use Rattle.lua_lexer.proofs.Maps.{match_map}
use Rattle.lua_lexer.proofs.brackets.opening.Goals as goal

pub returns-then-byte-eq91 : goal.returns-then-byte-eq91
returns-then-byte-eq91 c = match_map c.fence.result (never_opens c.in-Some.ensures) (λ f k. opens_at c.in-Some.ensures c.if-byte-eq91.true k) c.fence.ensures
