use Rattle.lua_parser.proofs.TooDeep.{too_deep_first}
use Rattle.lua_parser.proofs.theorems.too_deep_before_fault.Goals as goal

pub returns : goal.returns
returns c m kind ts p q x f = too_deep_first x f
