use Rattle.lua_lexer.proofs.Founds.{comment_fault, no_token}
use Rattle.lua_lexer.specs.Pieces.{Sign}
use Rattle.lua_lexer.specs.Tokens.{Means}
use Rattle.lua_lexer.proofs.Cuts.{cut_sign}
use Rattle.lua_lexer.proofs.pieces.symbol.Goals as goal

pub returns-then-opens_comment : goal.returns-then-opens_comment
returns-then-opens_comment c = comment_fault c.if-opens_comment.ensures

pub returns-in-None : goal.returns-in-None
returns-in-None c = no_token c.args.first c.requires.front c.requires.letter c.requires.begins c.requires.quoted c.in-None.ensures

pub returns-in-Some : goal.returns-in-Some
returns-in-Some c = (Sign c.in-Some.symbol, cut_sign c.in-Some.symbol (record { no_numeral = c.requires.begins; no_bracket = c.requires.bracket; no_comment = c.if-opens_comment.ensures }) c.in-Some.ensures, Means.symbol c.in-Some.symbol)
