use Rattle.tl_types.proofs.Alike.{same_decides}
use Rattle.tl_types.proofs.laws.equality_is_decided.Goals as goal

pub returns : goal.returns
returns c = same_decides
