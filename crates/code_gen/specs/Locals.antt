-- How many locals the text of an entry of a table declares.
use Rattle.std.specs.Prelude.{ℕ, ◌+◌}
use Rattle.lua_tree.specs.View.{SeenEntry, item, named, keyed}
use Rattle.lua_meaning.specs.Locals.{exp_locals}

abbrev pub entry_locals : SeenEntry → ℕ
entry_locals (keyed k e) = exp_locals k + exp_locals e
entry_locals (named n e) = exp_locals e
entry_locals (item e) = exp_locals e
