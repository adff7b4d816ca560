use Rattle.std.proofs.Common.{◌≡◌, drop}
use Rattle.lua_tree.specs.View.{exps_of}
use Rattle.built_forms.specs.Forms.{are_straight_values}
use Rattle.built_forms.proofs.straight.are_values.Given as goal

abbrev pub invariant-loop-e : goal.invariant-loop-e
invariant-loop-e l = are_straight_values l.uses (exps_of (drop l.e-index l.values)) ≡ are_straight_values l.uses (exps_of l.values)
