use Rattle.std.proofs.Common.{◌≡◌, ◌++◌, List, length}
use Rattle.tl_base.specs.declared.refusal.RefusalCode.{RefusalCode}
use Rattle.lua_lexer.specs.declared.token.Token.{Token}
use Rattle.lua_lexer.specs.Letters.{Text}
use Rattle.lua_lexer.specs.Lines.{spot_at}
use Rattle.lua_lexer.specs.Reading.{EndsWith}
use Rattle.lua_lexer.specs.Tokens.{body, Lexes, Refuses}
use Rattle.lua_lexer.proofs.lexing.read.Given as goal

abbrev pub invariant-loop-after : goal.invariant-loop-after
invariant-loop-after l = record {
  spot : l.spot ≡ spot_at l.bytes l.rest;
  rest : EndsWith l.bytes l.rest;
  tokens : (ts : List Token) → Lexes l.«module» l.bytes l.rest ts → Lexes l.«module» l.bytes (body l.bytes) (l.tokens ++ ts);
  fault : (code : RefusalCode) (place : Text) → Refuses l.rest code place → Refuses (body l.bytes) code place;
}

abbrev pub decreases-loop-after : goal.decreases-loop-after
decreases-loop-after l = length l.rest
