use Rattle.lua_lexer.specs.Tokens.{Lexed, Refused}
use Rattle.tlua_top.specs.Defined.{OfTokens}
use Rattle.tlua_top.proofs.Phases.{goes_on}
use Rattle.tlua_top.proofs.accept.of_source.Goals as goal

pub returns-in-Ok : goal.returns-in-Ok
returns-in-Ok c = λ input.
    goes_on c.args.file.now (Refused 0 c.args.source.now) (Lexed 0 c.args.source.now) (OfTokens c.args.file.now input c.args.kind c.args.source.now) input c.of_tokens.result c.in-Ok.tokens c.in-Ok.ensures.ok (c.of_tokens.ensures input)
