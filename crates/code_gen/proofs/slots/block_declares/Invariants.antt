use Rattle.std.proofs.Common.{◌≡◌, ◌+◌, drop, map}
use Rattle.std.specs.Option.{option_map}
use Rattle.lua_tree.specs.declared.syntax.Block.{out-Block}
use Rattle.lua_tree.specs.View.{stat_of, return_of, block_from, block_of}
use Rattle.lua_code.specs.Sizes.{block_declares}
use Rattle.code_gen.proofs.slots.block_declares.Given as goal

abbrev pub invariant-loop-stat : goal.invariant-loop-stat
invariant-loop-stat l =
    l.total + block_declares (block_from (map stat_of (drop l.stat-index l.stat-items)) (option_map return_of (out-Block l.block).result)) ≡ block_declares (block_of l.block)
