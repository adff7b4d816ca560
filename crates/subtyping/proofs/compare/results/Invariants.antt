use Rattle.std.proofs.Common.{true, take}
use Rattle.std.specs.Prelude.{Ok}
use Rattle.std.specs.List.{list_any, list_all}
use Rattle.tl_types.specs.Below.{tuple_below}
use Rattle.subtyping.specs.Pairs.{Compared}
use Rattle.subtyping.proofs.compare.results.Given as goal

abbrev pub invariant-loop-p : goal.invariant-loop-p
invariant-loop-p l = Compared l.rules.loose l.rules.bodies.now l.initial.assumed.pairs.items l.assumed.pairs.items (λ R. list_all (λ p. list_any (tuple_below R p) l.qs) (take l.p-index l.ps)) (Ok true)
