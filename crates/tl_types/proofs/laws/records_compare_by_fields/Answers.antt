use Rattle.tl_types.proofs.EveryDepth.{records_apart}
use Rattle.tl_types.proofs.laws.records_compare_by_fields.Goals as goal

pub returns : goal.returns
returns c = records_apart
