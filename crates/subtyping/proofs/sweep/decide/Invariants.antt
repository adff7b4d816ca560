use Rattle.subtyping.specs.Pairs.{IsSound}
use Rattle.subtyping.proofs.sweep.decide.Given as goal

abbrev pub invariant-loop : goal.invariant-loop
invariant-loop l = IsSound l.rules.loose l.rules.bodies.now l.assumed.pairs.items
