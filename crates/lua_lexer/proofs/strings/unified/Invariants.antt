use Rattle.std.proofs.Common.{◌++◌, List, ℕ, length}
use Rattle.lua_lexer.specs.Brackets.{Unified}
use Rattle.lua_lexer.proofs.strings.unified.Given as goal

abbrev pub invariant-loop-byte : goal.invariant-loop-byte
invariant-loop-byte l = (more : List ℕ) → Unified l.rest more → Unified l.text (l.out ++ more)

abbrev pub decreases-loop-byte : goal.decreases-loop-byte
decreases-loop-byte l = length l.rest
