use Rattle.std.proofs.Common.{◌≡◌, length}
use Rattle.lua_lexer.specs.Lines.{to_line_end}
use Rattle.lua_lexer.proofs.lines.to_line_end.Given as goal

abbrev pub invariant-loop-byte : goal.invariant-loop-byte
invariant-loop-byte l = to_line_end l.rest ≡ to_line_end l.text

abbrev pub decreases-loop-byte : goal.decreases-loop-byte
decreases-loop-byte l = length l.rest
