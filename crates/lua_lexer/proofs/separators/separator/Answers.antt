use Rattle.std.proofs.Common.{sym}
use Rattle.lua_lexer.proofs.Fences.{blank_at}
use Rattle.lua_lexer.proofs.separators.separator.Goals as goal

pub returns-then-is_blank : goal.returns-then-is_blank
returns-then-is_blank c = blank_at c.in-Some.ensures (sym c.if-is_blank.ensures)
