use Rattle.lua_parser.proofs.Counting.Labels.{nesting_stays}
use Rattle.lua_parser.proofs.theorems.nesting_stays.Goals as goal

pub returns : goal.returns
returns c kind ts more other a b x y n l = nesting_stays ts more other x y n l
