use Rattle.lua_scope.proofs.Small.{not_seen}
use Rattle.lua_scope.proofs.laws.a_local_is_not_seen_in_its_own_initialiser.Goals as goal

pub returns : goal.returns
returns c = not_seen
