use Rattle.std.proofs.Common.{◌≡◌, drop, map}
use Rattle.std.specs.Option.{option_map}
use Rattle.lua_tree.specs.declared.syntax.Block.{out-Block}
use Rattle.lua_tree.specs.View.{exps_of, targets_of, clauses_of, stat_of, return_of, block_from, block_of}
use Rattle.built_forms.specs.Forms.{built_exps, built_targets, built_clauses, built_block}
use Rattle.built_forms.proofs.untyped.+untyped.Given as goal

abbrev pub invariant-are_built_exps-loop-e : goal.invariant-are_built_exps-loop-e
invariant-are_built_exps-loop-e l = built_exps (exps_of (drop l.e-index l.all)) ≡ built_exps (exps_of l.all)

abbrev pub invariant-are_built_targets-loop-e : goal.invariant-are_built_targets-loop-e
invariant-are_built_targets-loop-e l = built_targets (targets_of (drop l.e-index l.all)) ≡ built_targets (targets_of l.all)

abbrev pub invariant-are_built_clauses-loop-clause : goal.invariant-are_built_clauses-loop-clause
invariant-are_built_clauses-loop-clause l = built_clauses (clauses_of (drop l.clause-index l.all)) ≡ built_clauses (clauses_of l.all)

abbrev pub invariant-is_built_block-loop-stat : goal.invariant-is_built_block-loop-stat
invariant-is_built_block-loop-stat l =
    built_block (block_from (map stat_of (drop l.stat-index l.stat-items)) (option_map return_of (out-Block l.block).result)) ≡ built_block (block_of l.block)
