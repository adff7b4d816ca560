use Rattle.std.proofs.Common.{◌≡◌, drop}
use Rattle.lua_scope.specs.Answers.{first_missing}
use Rattle.lua_scope.proofs.modules.missing.Given as goal

abbrev pub invariant-loop-require : goal.invariant-loop-require
invariant-loop-require l = first_missing l.names (drop l.require-index l.required) ≡ first_missing l.names l.required
