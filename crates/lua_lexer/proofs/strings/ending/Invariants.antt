use Rattle.std.proofs.Common.{ℕ, List, length}
use Rattle.lua_lexer.specs.Strings.{Ends}
use Rattle.lua_lexer.specs.Reading.{NeverEnds}
use Rattle.lua_lexer.proofs.strings.ending.Given as goal

abbrev pub invariant-loop-byte : goal.invariant-loop-byte
invariant-loop-byte l = record {
  ends : (r : List ℕ) → Ends l.quote l.rest r → Ends l.quote l.text r;
  never : NeverEnds l.quote l.rest → NeverEnds l.quote l.text;
}

abbrev pub decreases-loop-byte : goal.decreases-loop-byte
decreases-loop-byte l = length l.rest
