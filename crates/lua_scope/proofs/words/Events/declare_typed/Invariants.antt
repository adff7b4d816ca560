use Rattle.std.proofs.Common.{◌≡◌, ◌++◌, take}
use Rattle.lua_tree.specs.Scopes.Trees.{declares, names}
use Rattle.lua_scope.proofs.words.Events.declare_typed.Given as goal

abbrev pub invariant-loop-param : goal.invariant-loop-param
invariant-loop-param l = l.self ≡ l.initial.self ++ declares (names (take l.param-index l.param-items))
