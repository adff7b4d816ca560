use Rattle.std.proofs.Common.{◌≡◌, ◌≤◌, length}
use Rattle.lua_lexer.specs.Reading.{behind_numeral}
use Rattle.lua_lexer.proofs.numerals.behind_numeral.Given as goal

abbrev pub invariant-loop-byte : goal.invariant-loop-byte
invariant-loop-byte l = (behind_numeral l.hexadecimal l.before l.rest ≡ behind_numeral l.hexadecimal l.fn.last l.text) × (length l.rest ≤ length l.text)

abbrev pub decreases-loop-byte : goal.decreases-loop-byte
decreases-loop-byte l = length l.rest
