use Rattle.subtyping.specs.Pairs.{IsSound}
use Rattle.subtyping.proofs.sweep.sweep_back.Given as goal

abbrev pub invariant-loop-k : goal.invariant-loop-k
invariant-loop-k l = IsSound l.rules.loose l.rules.bodies.now l.assumed.pairs.items

abbrev pub decreases-loop-k : goal.decreases-loop-k
decreases-loop-k l = l.k
