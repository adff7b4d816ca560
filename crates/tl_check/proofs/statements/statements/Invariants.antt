use Rattle.std.proofs.Common.{◌≡◌, map, None}
use Rattle.lua_tree.specs.View.{stat_of, block_from}
use Rattle.tl_rules.specs.Orders.{plain_order, loose_order}
use Rattle.tl_rules.specs.Statements.{check_block}
use Rattle.tl_check.specs.Sequences.{statements_of}
use Rattle.tl_check.proofs.Loops.{after_stats}
use Rattle.tl_check.proofs.statements.statements.Given as goal

abbrev pub invariant-loop-stat : goal.invariant-loop-stat
invariant-loop-stat l =
    after_stats l.uses (map stat_of l.done) (check_block l.uses plain_order loose_order l.env.items (block_from (map stat_of l.stat-iterator.rest.items) None)) ≡ check_block l.uses plain_order loose_order l.fn.env.items (statements_of l.fn.stats)
