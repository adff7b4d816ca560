use Rattle.std.proofs.Common.{true}
use Rattle.std.specs.Prelude.{Ok}
use Rattle.tl_types.specs.Below.{places_below}
use Rattle.subtyping.specs.Pairs.{Compared}
use Rattle.subtyping.proofs.compare.tuple.Given as goal

abbrev pub invariant-loop-i : goal.invariant-loop-i
invariant-loop-i l = Compared l.rules.loose l.rules.bodies.now l.initial.assumed.pairs.items l.assumed.pairs.items (λ R. places_below R l.p l.q l.i) (Ok true)
