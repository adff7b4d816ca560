use Rattle.std.proofs.Common.{◌≡◌, ◌++◌, drop}
use Rattle.lua_code.specs.Generated.{outer_from}
use Rattle.code_gen.proofs.scope.capture_outer.Given as goal

abbrev pub invariant-loop-i : goal.invariant-loop-i
invariant-loop-i l = l.captures ++ outer_from l.i (drop l.i l.captured) ≡ l.initial.captures ++ outer_from 0 l.captured
