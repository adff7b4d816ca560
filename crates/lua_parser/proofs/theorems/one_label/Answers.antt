use Rattle.lua_parser.proofs.Counting.Labels.{one_label}
use Rattle.lua_parser.proofs.theorems.one_label.Goals as goal

pub returns : goal.returns
returns c kind ts a b x y = one_label x y
