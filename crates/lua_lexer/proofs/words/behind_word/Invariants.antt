use Rattle.std.proofs.Common.{◌≡◌, ◌≤◌, length}
use Rattle.lua_lexer.specs.Reading.{behind_word}
use Rattle.lua_lexer.proofs.words.behind_word.Given as goal

abbrev pub invariant-loop-byte : goal.invariant-loop-byte
invariant-loop-byte l = (behind_word l.rest ≡ behind_word l.text) × (length l.rest ≤ length l.text)

abbrev pub decreases-loop-byte : goal.decreases-loop-byte
decreases-loop-byte l = length l.rest
