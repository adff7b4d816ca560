use Rattle.std.proofs.Common.{false}
use Rattle.tl_types.proofs.Generals.{below_general}
use Rattle.tl_types.proofs.laws.general_forms_are_above.Goals as goal

pub returns : goal.returns
returns c = λ bodies t. record { to = λ n. below_general false bodies n t }
