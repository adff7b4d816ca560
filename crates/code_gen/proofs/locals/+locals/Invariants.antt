use Rattle.std.proofs.Common.{◌≡◌, ◌+◌, drop, map}
use Rattle.std.specs.Option.{option_map}
use Rattle.lua_tree.specs.declared.syntax.Block.{out-Block}
use Rattle.lua_tree.specs.View.{exps_of, targets_of, entries_of, clauses_of, stat_of, return_of, block_from, block_of}
use Rattle.lua_meaning.specs.Locals.{exps_locals, targets_locals, entries_locals, clauses_locals, block_locals}
use Rattle.code_gen.proofs.locals.+locals.Given as goal

abbrev pub invariant-all_locals-loop-e : goal.invariant-all_locals-loop-e
invariant-all_locals-loop-e l = l.total + exps_locals (exps_of (drop l.e-index l.all)) ≡ exps_locals (exps_of l.all)

abbrev pub invariant-all_entry_locals-loop-entry : goal.invariant-all_entry_locals-loop-entry
invariant-all_entry_locals-loop-entry l = l.total + entries_locals (entries_of (drop l.entry-index l.all)) ≡ entries_locals (entries_of l.all)

abbrev pub invariant-clauses_locals-loop-clause : goal.invariant-clauses_locals-loop-clause
invariant-clauses_locals-loop-clause l = l.total + clauses_locals (clauses_of (drop l.clause-index l.all)) ≡ clauses_locals (clauses_of l.all)

abbrev pub invariant-block_locals-loop-stat : goal.invariant-block_locals-loop-stat
invariant-block_locals-loop-stat l =
    l.total + block_locals (block_from (map stat_of (drop l.stat-index l.stat-items)) (option_map return_of (out-Block l.block).result)) ≡ block_locals (block_of l.block)

abbrev pub invariant-targets_locals-loop-e : goal.invariant-targets_locals-loop-e
invariant-targets_locals-loop-e l = l.total + targets_locals (targets_of (drop l.e-index l.all)) ≡ targets_locals (targets_of l.all)
