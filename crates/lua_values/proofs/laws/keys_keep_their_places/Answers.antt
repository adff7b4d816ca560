use Rattle.lua_values.proofs.Tables.{distinct-set, keys-set_listed, keys-set_again, set-new, set-nothing}
use Rattle.lua_values.proofs.laws.keys_keep_their_places.Goals as goal

pub returns-clause-once : goal.returns-clause-once
returns-clause-once c = distinct-set

pub returns-clause-listed : goal.returns-clause-listed
returns-clause-listed c = keys-set_listed

pub returns-clause-again : goal.returns-clause-again
returns-clause-again c = keys-set_again

pub returns-clause-new : goal.returns-clause-new
returns-clause-new c = set-new

pub returns-clause-nothing : goal.returns-clause-nothing
returns-clause-nothing c = set-nothing
