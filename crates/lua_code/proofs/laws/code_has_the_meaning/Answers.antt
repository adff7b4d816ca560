use Rattle.lua_code.proofs.Faithful.Levels.{faithful}
use Rattle.lua_code.proofs.laws.code_has_the_meaning.Goals as goal

pub returns : goal.returns
returns c = faithful
