use Rattle.std.proofs.Common.{◌≡◌, drop, map}
use Rattle.std.specs.Option.{option_map}
use Rattle.lua_tree.specs.declared.syntax.Block.{out-Block}
use Rattle.lua_tree.specs.View.{stat_of, return_of, block_from, block_of}
use Rattle.built_forms.specs.Forms.{is_straight}
use Rattle.built_forms.proofs.straight.is_straight.Given as goal

abbrev pub invariant-loop-stat : goal.invariant-loop-stat
invariant-loop-stat l =
    is_straight l.uses (block_from (map stat_of (drop l.stat-index l.stat-items)) (option_map return_of (out-Block l.block).result)) ≡ is_straight l.uses (block_of l.block)
