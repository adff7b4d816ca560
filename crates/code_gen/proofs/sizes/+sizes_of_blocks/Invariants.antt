use Rattle.std.proofs.Common.{◌≡◌, ◌+◌, drop, map}
use Rattle.std.specs.Option.{option_map}
use Rattle.lua_tree.specs.declared.syntax.Block.{out-Block}
use Rattle.lua_tree.specs.View.{clauses_of, stat_of, return_of, block_from, block_of}
use Rattle.lua_code.specs.Sizes.{clauses_size, block_size}
use Rattle.code_gen.proofs.sizes.+sizes_of_blocks.Given as goal

abbrev pub invariant-clauses_size-loop-clause : goal.invariant-clauses_size-loop-clause
invariant-clauses_size-loop-clause l = l.total + clauses_size (clauses_of (drop l.clause-index l.all)) ≡ clauses_size (clauses_of l.all)

abbrev pub invariant-block_size-loop-stat : goal.invariant-block_size-loop-stat
invariant-block_size-loop-stat l =
    l.total + block_size (block_from (map stat_of (drop l.stat-index l.stat-items)) (option_map return_of (out-Block l.block).result)) ≡ block_size (block_of l.block)
