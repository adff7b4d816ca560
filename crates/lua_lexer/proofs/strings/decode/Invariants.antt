use Rattle.std.proofs.Common.{ℕ, ◌++◌, List, length}
use Rattle.lua_lexer.specs.Strings.{Reads, Spoils}
use Rattle.lua_lexer.specs.Reading.{NeverEnds}
use Rattle.lua_lexer.proofs.strings.decode.Given as goal

abbrev pub invariant-loop-after : goal.invariant-loop-after
invariant-loop-after l = record {
  reads : (more r : List ℕ) → Reads l.quote l.rest more r → Reads l.quote l.text (l.out ++ more) r;
  spoils : (r : List ℕ) → Spoils l.quote l.rest r → Spoils l.quote l.text r;
  broken : NeverEnds l.quote l.rest → NeverEnds l.quote l.text;
}

abbrev pub decreases-loop-after : goal.decreases-loop-after
decreases-loop-after l = length l.rest
