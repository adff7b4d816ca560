use Rattle.std.proofs.Common.{◌≡◌, drop}
use Rattle.lua_scope.specs.Answers.{module_named}
use Rattle.lua_scope.proofs.modules.number_of.Given as goal

abbrev pub invariant-loop-named : goal.invariant-loop-named
invariant-loop-named l = module_named (drop l.named-index l.names) l.name ≡ module_named l.names l.name
