use Rattle.std.proofs.Common.{◌≡◌, map, reverse, take}
use Rattle.lua_scope.specs.Shown.{binding_of}
use Rattle.lua_scope.specs.Around.{with_bindings}
use Rattle.lua_scope.proofs.scopes.Scopes.enter_all.Given as goal

abbrev pub invariant-loop-binding : goal.invariant-loop-binding
invariant-loop-binding l = l.self ≡ with_bindings (map binding_of (reverse (take l.binding-index l.bindings))) l.initial.self
