use Rattle.std.proofs.Common.{◌≡◌, ◌+◌, max, drop, map}
use Rattle.std.specs.Option.{option_map}
use Rattle.lua_tree.specs.declared.syntax.Block.{out-Block}
use Rattle.lua_tree.specs.View.{clauses_of, stat_of, return_of, block_from, block_of}
use Rattle.lua_code.specs.Sizes.{clauses_slots, block_slots}
use Rattle.code_gen.proofs.slots.+slots_of_blocks.Given as goal

abbrev pub invariant-clauses_slots-loop-clause : goal.invariant-clauses_slots-loop-clause
invariant-clauses_slots-loop-clause l = max l.most (clauses_slots (clauses_of (drop l.clause-index l.all))) ≡ clauses_slots (clauses_of l.all)

abbrev pub invariant-block_slots-loop-stat : goal.invariant-block_slots-loop-stat
invariant-block_slots-loop-stat l =
    max l.most (l.taken + block_slots (block_from (map stat_of (drop l.stat-index l.stat-items)) (option_map return_of (out-Block l.block).result))) ≡ block_slots (block_of l.block)
