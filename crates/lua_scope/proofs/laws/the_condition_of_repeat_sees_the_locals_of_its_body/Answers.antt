use Rattle.lua_scope.proofs.Small.{seen_until}
use Rattle.lua_scope.proofs.laws.the_condition_of_repeat_sees_the_locals_of_its_body.Goals as goal

pub returns : goal.returns
returns c = seen_until
