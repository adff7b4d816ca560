use Rattle.tl_types.proofs.Transitive.{below_passes}
use Rattle.tl_types.proofs.EveryDepth.{is_itself, subtype_passes}
use Rattle.tl_types.proofs.laws.orders_compare.Goals as goal

pub returns-clause-itself : goal.returns-clause-itself
returns-clause-itself c = is_itself

pub returns-clause-passes : goal.returns-clause-passes
returns-clause-passes c = subtype_passes

pub returns-clause-passes_to_depth : goal.returns-clause-passes_to_depth
returns-clause-passes_to_depth c = below_passes
