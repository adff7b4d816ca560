use Rattle.lua_lexer.proofs.Founds.{cut_word_at}
use Rattle.lua_lexer.specs.Pieces.{Wordlike}
use Rattle.lua_lexer.specs.Tokens.{Means}
use Rattle.lua_lexer.proofs.pieces.word.Goals as goal

pub returns-in-None : goal.returns-in-None
returns-in-None c = (Wordlike, cut_word_at c.args.first c.requires.letter c.requires.front c.behind_word-rest.ensures.value, Means.name c.in-None.ensures)

pub returns-in-Some : goal.returns-in-Some
returns-in-Some c = (Wordlike, cut_word_at c.args.first c.requires.letter c.requires.front c.behind_word-rest.ensures.value, Means.word c.in-Some.word c.in-Some.ensures)
