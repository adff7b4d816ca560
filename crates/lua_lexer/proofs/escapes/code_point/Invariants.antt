use Rattle.std.proofs.Common.{◌≡◌, ◌<◌, ◌≤◌, length}
use Rattle.lua_lexer.specs.Strings.{code_point_from}
use Rattle.lua_lexer.proofs.escapes.code_point.Given as goal

abbrev pub invariant-loop-byte : goal.invariant-loop-byte
invariant-loop-byte l = (code_point_from l.value l.rest ≡ code_point_from l.fn.first l.text) × (length l.rest ≤ length l.text) × (l.value < 1114112)

abbrev pub decreases-loop-byte : goal.decreases-loop-byte
decreases-loop-byte l = length l.rest
