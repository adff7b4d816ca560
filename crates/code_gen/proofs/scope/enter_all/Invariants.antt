use Rattle.std.proofs.Common.{◌≡◌, ◌+◌, ◌-◌, reverse}
use Rattle.lua_code.specs.Generated.{in_slots}
use Rattle.code_gen.proofs.scope.enter_all.Given as goal

abbrev pub invariant-loop-i : goal.invariant-loop-i
invariant-loop-i l = in_slots (l.count - l.i) (l.first + l.i) (l.slot + l.i) (reverse l.own.items) ≡ in_slots l.count l.first l.slot (reverse l.initial.own.items)
