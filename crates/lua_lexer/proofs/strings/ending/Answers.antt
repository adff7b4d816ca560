use Rattle.lua_lexer.proofs.Parts.{close_at, never_ends_empty}
use Rattle.lua_lexer.proofs.strings.ending.Goals as goal

pub returns-then-byte-quote : goal.returns-then-byte-quote
returns-then-byte-quote c = c.loop-byte.invariant.ends _ (close_at c.in-Some.ensures c.if-byte-quote.true)

pub returns : goal.returns
returns c = c.loop-byte.invariant.never (never_ends_empty c.in_default.ensures)
