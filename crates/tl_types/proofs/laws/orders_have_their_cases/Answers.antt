use Rattle.tl_types.proofs.EveryDepth.{below_cases}
use Rattle.tl_types.proofs.laws.orders_have_their_cases.Goals as goal

pub returns-clause-cases : goal.returns-clause-cases
returns-clause-cases c = below_cases
