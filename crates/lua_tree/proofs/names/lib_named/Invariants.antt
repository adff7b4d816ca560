use Rattle.lua_tree.proofs.names.lib_named.Given as goal
use Rattle.lua_tree.proofs.Library.{NoneBefore}

abbrev pub invariant-loop-entry : goal.invariant-loop-entry
invariant-loop-entry l = NoneBefore l.entries (l.table, l.name) l.entry-index
