use Rattle.std.proofs.Common.{◌≡◌, ◌++◌, drop, map}
use Rattle.std.specs.Option.{option_map}
use Rattle.lua_tree.specs.declared.syntax.Block.{out-Block}
use Rattle.lua_tree.specs.View.{exps_of, entries_of, targets_of, clauses_of, stat_of, return_of, block_from, block_of}
use Rattle.tl_rules.specs.Crossings.{list_marks, entry_marks, target_marks, clause_marks, block_marks}
use Rattle.crossings.proofs.marks.+marks.Given as goal

abbrev pub invariant-list_marks-loop-e : goal.invariant-list_marks-loop-e
invariant-list_marks-loop-e l = l.marks.items ++ list_marks (exps_of (drop l.e-index l.all)) ≡ l.initial.marks.items ++ list_marks (exps_of l.all)

abbrev pub invariant-entry_marks-loop-entry : goal.invariant-entry_marks-loop-entry
invariant-entry_marks-loop-entry l = l.marks.items ++ entry_marks (entries_of (drop l.entry-index l.all)) ≡ l.initial.marks.items ++ entry_marks (entries_of l.all)

abbrev pub invariant-target_marks-loop-e : goal.invariant-target_marks-loop-e
invariant-target_marks-loop-e l = l.marks.items ++ target_marks (targets_of (drop l.e-index l.all)) ≡ l.initial.marks.items ++ target_marks (targets_of l.all)

abbrev pub invariant-clause_marks-loop-clause : goal.invariant-clause_marks-loop-clause
invariant-clause_marks-loop-clause l = l.marks.items ++ clause_marks (clauses_of (drop l.clause-index l.all)) ≡ l.initial.marks.items ++ clause_marks (clauses_of l.all)

abbrev pub invariant-block_marks-loop-stat : goal.invariant-block_marks-loop-stat
invariant-block_marks-loop-stat l =
    l.marks.items ++ block_marks (block_from (map stat_of (drop l.stat-index l.stat-items)) (option_map return_of (out-Block l.block).result)) ≡ l.initial.marks.items ++ block_marks (block_of l.block)
