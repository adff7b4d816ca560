use Rattle.std.proofs.Common.{true, take}
use Rattle.std.specs.Prelude.{Ok}
use Rattle.std.specs.List.{list_all}
use Rattle.tl_types.specs.Below.{named, has_below}
use Rattle.subtyping.specs.Pairs.{Compared}
use Rattle.subtyping.proofs.compare.record.Given as goal

abbrev pub invariant-loop-g : goal.invariant-loop-g
invariant-loop-g l = Compared l.rules.loose l.rules.bodies.now l.initial.assumed.pairs.items l.assumed.pairs.items (λ R. list_all (λ g. has_below R (named g.name l.fs) (named g.name l.gs)) (take l.g-index l.gs)) (Ok true)
