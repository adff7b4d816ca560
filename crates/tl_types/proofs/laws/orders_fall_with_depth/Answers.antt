use Rattle.std.proofs.Common.{true}
use Rattle.tl_types.proofs.Mono.{below_falls, below_loosens}
use Rattle.tl_types.proofs.EveryDepth.{subtype_loosens}
use Rattle.tl_types.proofs.laws.orders_fall_with_depth.Goals as goal

pub returns-clause-falls : goal.returns-clause-falls
returns-clause-falls c = below_falls

pub returns-clause-loosens : goal.returns-clause-loosens
returns-clause-loosens c = below_loosens true

pub returns-clause-consistent : goal.returns-clause-consistent
returns-clause-consistent c = subtype_loosens
