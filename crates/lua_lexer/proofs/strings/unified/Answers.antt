use Rattle.lua_lexer.proofs.Parts.{unified_end}
use Rattle.lua_lexer.proofs.strings.unified.Goals as goal

pub returns : goal.returns
returns c = unified_end _ c.in_default.ensures c.loop-byte.invariant
