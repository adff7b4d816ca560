use Rattle.std.proofs.Common.{◌≡◌, ◌+◌, ◌^◌, ◌<◌, length}
use Rattle.lua_lexer.specs.Lines.{further_on}
use Rattle.lua_lexer.proofs.lines.Spot.further_on.Given as goal

abbrev pub invariant-loop-byte : goal.invariant-loop-byte
invariant-loop-byte l = (further_on l.spot l.rest ≡ further_on l.fn.self l.text) × (l.spot.line + length l.rest < 2 ^ 31) × (l.spot.column + length l.rest < 2 ^ 32) × (1 + length l.rest < 2 ^ 32)

abbrev pub decreases-loop-byte : goal.decreases-loop-byte
decreases-loop-byte l = length l.rest
