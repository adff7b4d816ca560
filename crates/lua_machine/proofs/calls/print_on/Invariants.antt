use Rattle.std.proofs.Common.{◌≡◌, ◌++◌, drop}
use Rattle.lua_machine.specs.Calls.{printed_on}
use Rattle.lua_machine.proofs.calls.print_on.Given as goal

abbrev pub invariant-loop-value : goal.invariant-loop-value
invariant-loop-value l = l.text ++ printed_on (drop l.value-index l.values) ≡ l.initial.text ++ printed_on l.values
