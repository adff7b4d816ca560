use Rattle.std.proofs.Common.{◌≡◌, ◌++◌, take}
use Rattle.lua_tree.specs.Scopes.Trees.{declares}
use Rattle.lua_scope.proofs.words.Events.declare_all.Given as goal

abbrev pub invariant-loop-name : goal.invariant-loop-name
invariant-loop-name l = l.self ≡ l.initial.self ++ declares (take l.name-index l.name-items)
