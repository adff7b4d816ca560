use Rattle.tl_types.proofs.EveryDepth.{one_flow}
use Rattle.tl_types.proofs.laws.flows_are_one.Goals as goal

pub returns : goal.returns
returns c = one_flow
