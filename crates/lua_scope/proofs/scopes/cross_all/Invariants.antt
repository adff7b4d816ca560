use Rattle.std.proofs.Common.{◌≡◌, take, map, Some}
use Rattle.std.specs.Prelude.{nat_lt, filter}
use Rattle.lua_tree.specs.Scopes.Binding.{captured_by}
use Rattle.lua_scope.proofs.scopes.cross_all.Given as goal

abbrev pub invariant-loop-outer : goal.invariant-loop-outer
invariant-loop-outer l = captured_by l.local.number (filter (λ f. nat_lt l.local.function f) (map (λ o. o.standing.function) (take l.outer-index l.around))) l.initial.captures ≡ Some l.captures
