use Rattle.std.proofs.Common.{◌≡◌, take, reverse, nat_eq}
use Rattle.std.specs.Map.{lookup}
use Rattle.code_gen.proofs.scope.slot_in.Given as goal

abbrev pub invariant-loop-x : goal.invariant-loop-x
invariant-loop-x l = l.found ≡ lookup (nat_eq l.local) (reverse (take l.x-index l.own))
