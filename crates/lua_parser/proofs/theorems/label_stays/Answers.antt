use Rattle.lua_parser.proofs.Counting.Labels.{label_stays}
use Rattle.lua_parser.proofs.theorems.label_stays.Goals as goal

pub returns : goal.returns
returns c kind ts more other a b x y n l = label_stays ts more other x y n l
