use Rattle.tl_rules.proofs.Marking.{module_same}
use Rattle.tl_rules.proofs.laws.typing_adds_marks_alone.Goals as goal

pub returns : goal.returns
returns c = λ uses plain loose kind body made e. module_same uses plain loose kind body made e
