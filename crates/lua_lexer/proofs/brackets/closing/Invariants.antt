use Rattle.std.proofs.Common.{◌≡◌, ℕ, ◌++◌, List, length}
use Rattle.lua_lexer.specs.Brackets.{Closes}
use Rattle.lua_lexer.proofs.brackets.closing.Given as goal

abbrev pub invariant-loop-byte : goal.invariant-loop-byte
invariant-loop-byte l = (pre : List ℕ) × (l.text ≡ pre ++ l.rest) × ((bs r : List ℕ) → Closes l.level l.rest bs r → Closes l.level l.text (pre ++ bs) r) × (((bs r : List ℕ) → Closes l.level l.rest bs r → ⊥) → (bs r : List ℕ) → Closes l.level l.text bs r → ⊥)

abbrev pub decreases-loop-byte : goal.decreases-loop-byte
decreases-loop-byte l = length l.rest
