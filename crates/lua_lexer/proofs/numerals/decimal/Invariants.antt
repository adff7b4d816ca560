use Rattle.std.proofs.Common.{◌≡◌, ◌<◌, ◌^◌, length}
use Rattle.lua_lexer.specs.Numerals.{decimal_value}
use Rattle.lua_lexer.proofs.numerals.decimal.Given as goal

abbrev pub invariant-loop-byte : goal.invariant-loop-byte
invariant-loop-byte l = (decimal_value l.value l.rest ≡ decimal_value 0 l.text) × (l.value < 2 ^ 63)

abbrev pub decreases-loop-byte : goal.decreases-loop-byte
decreases-loop-byte l = length l.rest
