use Rattle.std.proofs.Common.{◌≡◌, ◌≤◌, length}
use Rattle.lua_lexer.specs.Strings.{behind_blanks}
use Rattle.lua_lexer.proofs.escapes.behind_blanks.Given as goal

abbrev pub invariant-loop-byte : goal.invariant-loop-byte
invariant-loop-byte l = (behind_blanks l.rest ≡ behind_blanks l.text) × (length l.rest ≤ length l.text)

abbrev pub decreases-loop-byte : goal.decreases-loop-byte
decreases-loop-byte l = length l.rest
