use Rattle.std.proofs.Common.{◌≡◌, max, drop}
use Rattle.lua_tree.specs.View.{exps_of}
use Rattle.lua_code.specs.Sizes.{exps_slots}
use Rattle.code_gen.proofs.slots.+slots_of_values.Given as goal

abbrev pub invariant-all_slots-loop-e : goal.invariant-all_slots-loop-e
invariant-all_slots-loop-e l = max l.most (exps_slots (exps_of (drop l.e-index l.all))) ≡ exps_slots (exps_of l.all)
