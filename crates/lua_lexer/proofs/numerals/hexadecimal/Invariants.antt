use Rattle.std.proofs.Common.{◌≡◌, ℕ, ◌%◌, ◌^◌, length}
use Rattle.lua_lexer.specs.Numerals.{hexadecimal_value}
use Rattle.lua_lexer.proofs.numerals.hexadecimal.Given as goal

abbrev pub invariant-loop-byte : goal.invariant-loop-byte
invariant-loop-byte l = (n : ℕ) × (n % 2 ^ 64 ≡ l.value) × (hexadecimal_value n l.rest ≡ hexadecimal_value 0 l.text)

abbrev pub decreases-loop-byte : goal.decreases-loop-byte
decreases-loop-byte l = length l.rest
