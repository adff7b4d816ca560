use Rattle.std.proofs.Common.{◌≡◌, ◌++◌, take, map}
use Rattle.std.specs.List.{flat_map}
use Rattle.lua_tree.specs.Scopes.Trees.{said_of, entry_of, stat_of, clause_of, values, targets}
use Rattle.lua_scope.proofs.words.Events.+events.Given as goal

abbrev pub invariant-block-loop-stat : goal.invariant-block-loop-stat
invariant-block-loop-stat l = l.self ≡ l.initial.self ++ flat_map (λ s. s) (map stat_of (take l.stat-index l.stat-items))

abbrev pub invariant-entries-loop-entry : goal.invariant-entries-loop-entry
invariant-entries-loop-entry l = l.self ≡ l.initial.self ++ flat_map (λ e. e) (map entry_of (take l.entry-index l.entry-items))

abbrev pub invariant-values-loop-e : goal.invariant-values-loop-e
invariant-values-loop-e l = l.self ≡ l.initial.self ++ values (map said_of (take l.e-index l.e-items))

abbrev pub invariant-targets-loop-e : goal.invariant-targets-loop-e
invariant-targets-loop-e l = l.self ≡ l.initial.self ++ targets (map said_of (take l.e-index l.e-items))

abbrev pub invariant-clauses-loop-clause : goal.invariant-clauses-loop-clause
invariant-clauses-loop-clause l = l.self ≡ l.initial.self ++ flat_map (λ c. c) (map clause_of (take l.clause-index l.clause-items))
