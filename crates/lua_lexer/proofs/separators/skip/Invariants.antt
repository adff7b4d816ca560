use Rattle.std.proofs.Common.{ℕ, List, length}
use Rattle.lua_lexer.specs.Tokens.{Skips}
use Rattle.lua_lexer.proofs.separators.skip.Given as goal

abbrev pub invariant-loop-next : goal.invariant-loop-next
invariant-loop-next l = (r : List ℕ) → Skips l.rest r → Skips l.text r

abbrev pub decreases-loop-next : goal.decreases-loop-next
decreases-loop-next l = length l.rest
