use Rattle.std.proofs.Common.{◌≡◌, false, ◌-◌}
use Rattle.subtyping.specs.Pairs.{IsSound, Kept}
use Rattle.subtyping.proofs.sweep.sweep.Given as goal

abbrev pub invariant-loop-k : goal.invariant-loop-k
invariant-loop-k l = record {
  sound : IsSound l.rules.loose l.rules.bodies.now l.assumed.pairs.items;
  kept : l.changed ≡ false → Kept l.rules.loose l.rules.bodies.now l.initial.assumed.pairs.items l.assumed.pairs.items l.k;
}

abbrev pub decreases-loop-k : goal.decreases-loop-k
decreases-loop-k l = 18446744073709551616 - l.k
