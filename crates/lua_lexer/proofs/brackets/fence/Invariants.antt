use Rattle.std.proofs.Common.{◌≡◌, ℕ, ◌+◌, ◌≤◌, List, length}
use Rattle.lua_lexer.specs.Brackets.{Fence}
use Rattle.lua_lexer.proofs.brackets.fence.Given as goal

abbrev pub invariant-loop-byte : goal.invariant-loop-byte
invariant-loop-byte l = record {
  counted : l.count + length l.rest ≤ length l.text;
  there : (n m : ℕ) (r : List ℕ) → m ≡ l.count + n → Fence l.last n l.rest r → Fence l.last m l.text r;
  absent : ((n : ℕ) (r : List ℕ) → Fence l.last n l.rest r → ⊥) → (n : ℕ) (r : List ℕ) → Fence l.last n l.text r → ⊥;
}

abbrev pub decreases-loop-byte : goal.decreases-loop-byte
decreases-loop-byte l = length l.rest
