use Rattle.std.proofs.Common.{◌≡◌, drop}
use Rattle.lua_code.specs.Generated.{captured_from}
use Rattle.code_gen.proofs.scope.index_in.Given as goal

abbrev pub invariant-loop-i : goal.invariant-loop-i
invariant-loop-i l = captured_from l.i l.local (drop l.i l.captured) ≡ captured_from 0 l.local l.captured
