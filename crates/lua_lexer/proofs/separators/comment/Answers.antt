use Rattle.lua_lexer.proofs.Fences.{comment_line, no_comment}
use Rattle.lua_lexer.specs.Tokens.{Separator}
use Rattle.lua_lexer.proofs.separators.comment.Goals as goal

pub returns-in-None : goal.returns-in-None
returns-in-None c = comment_line c.in-None.ensures c.to_line_end.ensures

pub returns-in-None-closing : goal.returns-in-None-closing
returns-in-None-closing c = no_comment c.in-Some.ensures c.in-None-closing.ensures

pub returns-in-Some-closing : goal.returns-in-Some-closing
returns-in-Some-closing c = Separator.bracket c.in-Some.level c.in-Some.ensures c.in-Some-closing.ensures
