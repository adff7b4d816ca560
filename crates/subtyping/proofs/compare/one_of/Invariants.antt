use Rattle.std.proofs.Common.{false, take}
use Rattle.std.specs.Prelude.{Ok}
use Rattle.std.specs.List.{list_any}
use Rattle.tl_types.specs.Below.{tuple_below}
use Rattle.subtyping.specs.Pairs.{Compared}
use Rattle.subtyping.proofs.compare.one_of.Given as goal

abbrev pub invariant-loop-q : goal.invariant-loop-q
invariant-loop-q l = Compared l.rules.loose l.rules.bodies.now l.initial.assumed.pairs.items l.assumed.pairs.items (λ R. list_any (tuple_below R l.p) (take l.q-index l.qs)) (Ok false)
