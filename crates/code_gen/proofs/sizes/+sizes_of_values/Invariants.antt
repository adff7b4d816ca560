use Rattle.std.proofs.Common.{◌≡◌, ◌+◌, drop}
use Rattle.lua_tree.specs.View.{exps_of}
use Rattle.lua_code.specs.Sizes.{exps_size}
use Rattle.code_gen.proofs.Lists.{rest_size}
use Rattle.code_gen.proofs.sizes.+sizes_of_values.Given as goal

abbrev pub invariant-all_size-loop-e : goal.invariant-all_size-loop-e
invariant-all_size-loop-e l = l.total + rest_size l.open (exps_of (drop l.e-index l.all)) ≡ exps_size (exps_of l.all)
