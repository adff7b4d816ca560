use Rattle.std.proofs.Common.{◌≡◌, ◌++◌, map, take, drop}
use Rattle.lua_scope.specs.Answers.{bound_to}
use Rattle.lua_scope.proofs.modules.number.Given as goal

abbrev pub invariant-loop-require : goal.invariant-loop-require
invariant-loop-require l = l.required ≡ map (bound_to l.names) (take l.require-index l.initial.required) ++ drop l.require-index l.initial.required
