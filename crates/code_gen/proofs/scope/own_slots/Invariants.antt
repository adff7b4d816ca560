use Rattle.std.proofs.Common.{◌≡◌, map}
use Rattle.code_gen.proofs.scope.own_slots.Given as goal

abbrev pub invariant-loop-slot : goal.invariant-loop-slot
invariant-loop-slot l = l.slots.items ≡ map (λ o. o.now.1) l.yielded
