use Rattle.lua_values.proofs.Border.{border-is, border-least, one_border}
use Rattle.lua_values.proofs.laws.border_is_least.Goals as goal

pub returns-clause-border : goal.returns-clause-border
returns-clause-border c = border-is

pub returns-clause-least : goal.returns-clause-least
returns-clause-least c = border-least

pub returns-clause-one : goal.returns-clause-one
returns-clause-one c = one_border
