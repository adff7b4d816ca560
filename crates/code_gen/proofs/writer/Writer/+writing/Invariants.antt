use Rattle.std.proofs.Common.{◌≡◌, ◌++◌, drop, map, length}
use Rattle.std.specs.Option.{option_map}
use Rattle.lua_tree.specs.declared.syntax.Block.{out-Block}
use Rattle.lua_tree.specs.View.{exps_of, clauses_of, stat_of, return_of, block_from, block_of}
use Rattle.code_gen.specs.Work.{with_list, with_clauses, with_block, last_jumps}
use Rattle.code_gen.proofs.writer.Writer.+writing.Given as goal

abbrev pub invariant-block-loop-stat : goal.invariant-block-loop-stat
invariant-block-loop-stat l =
    with_block (block_from (map stat_of (drop l.stat-index l.stat-items)) (option_map return_of (out-Block l.block).result)) l.exit l.self ≡ with_block (block_of l.block) l.exit l.initial.self

abbrev pub invariant-clauses-loop-clause : goal.invariant-clauses-loop-clause
invariant-clauses-loop-clause l =
    (with_clauses (clauses_of (drop l.clause-index l.all)) l.pos 0 l.exit l.self ≡ with_clauses (clauses_of l.all) l.pos 0 l.exit l.initial.self)
    × (l.jumps.items ++ last_jumps (clauses_of (drop l.clause-index l.all)) (length l.self.code) ≡ last_jumps (clauses_of l.all) (length l.initial.self.code))

abbrev pub invariant-list-loop-e : goal.invariant-list-loop-e
invariant-list-loop-e l =
    (with_list (exps_of (drop l.e-index l.values)) l.pos l.e-index l.self ≡ with_list (exps_of l.values) l.pos 0 l.initial.self)
    × (l.count ≡ l.e-index)
