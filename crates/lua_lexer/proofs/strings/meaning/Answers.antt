use Rattle.lua_lexer.proofs.Maps.{ok_map}
use Rattle.lua_lexer.specs.Brackets.{Meant}
use Rattle.lua_lexer.proofs.strings.meaning.Goals as goal

pub returns-in-None : goal.returns-in-None
returns-in-None c = ok_map c.unified.result (λ out f. Meant.whole c.in-None.ensures f) c.unified.ensures

pub returns-in-Some : goal.returns-in-Some
returns-in-Some c = ok_map c.unified-in-Some.result (λ out f. Meant.dropped c.in-Some.ensures f) c.unified-in-Some.ensures
