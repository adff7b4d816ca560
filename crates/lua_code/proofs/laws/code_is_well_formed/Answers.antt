use Rattle.lua_code.proofs.Formed.Programs.{well_formed}
use Rattle.lua_code.proofs.laws.code_is_well_formed.Goals as goal

pub returns : goal.returns
returns c = well_formed
