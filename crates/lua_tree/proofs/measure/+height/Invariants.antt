use Rattle.std.proofs.Common.{◌≡◌, ◌^◌, ◌-◌, min, max, ◌≤◌, drop}
use Rattle.lua_tree.specs.Height.{highest, highest_entry}
use Rattle.lua_tree.specs.View.{exps_of, entries_of}
use Rattle.lua_tree.proofs.measure.+height.Given as goal

abbrev pub invariant-highest-loop-expr : goal.invariant-highest-loop-expr
invariant-highest-loop-expr l =
    (l.most ≤ 2 ^ 32 - 1)
    × (min (max l.most (highest (exps_of (drop l.expr-index l.exprs)))) (2 ^ 32 - 1) ≡ min (highest (exps_of l.exprs)) (2 ^ 32 - 1))

abbrev pub invariant-highest_entry-loop-entry : goal.invariant-highest_entry-loop-entry
invariant-highest_entry-loop-entry l =
    (l.most ≤ 2 ^ 32 - 1)
    × (min (max l.most (highest_entry (entries_of (drop l.entry-index l.entries)))) (2 ^ 32 - 1) ≡ min (highest_entry (entries_of l.entries)) (2 ^ 32 - 1))
