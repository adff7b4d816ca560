use Rattle.std.proofs.Common.{◌≡◌, ◌++◌, take, map}
use Rattle.type_reader.specs.Seen.{collected}
use Rattle.type_reader.specs.Annotations.{expr_of, entry_of, stat_of, clause_of, all}
use Rattle.type_reader.proofs.annotations.Annotations.+collecting.Given as goal

abbrev pub invariant-block-loop-stat : goal.invariant-block-loop-stat
invariant-block-loop-stat l = collected l.self ≡ collected l.initial.self ++ all (map stat_of (take l.stat-index l.stat-items))

abbrev pub invariant-entries-loop-entry : goal.invariant-entries-loop-entry
invariant-entries-loop-entry l = collected l.self ≡ collected l.initial.self ++ all (map entry_of (take l.entry-index l.entry-items))

abbrev pub invariant-exprs-loop-e : goal.invariant-exprs-loop-e
invariant-exprs-loop-e l = collected l.self ≡ collected l.initial.self ++ all (map expr_of (take l.e-index l.e-items))

abbrev pub invariant-clauses-loop-clause : goal.invariant-clauses-loop-clause
invariant-clauses-loop-clause l = collected l.self ≡ collected l.initial.self ++ all (map clause_of (take l.clause-index l.clause-items))
