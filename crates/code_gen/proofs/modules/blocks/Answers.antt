use Rattle.std.proofs.Common.{◌+◌, ◌++◌, length, drop, map, sym, ap, ◌∙◌}
use Rattle.lua_meaning.specs.Programs.{module_of}
use Rattle.lua_code.specs.Sizes.{block_functions}
use Rattle.lua_code.specs.Generated.{block_protos, module_scope, main_protos, inner_protos}
use Rattle.lua_code.proofs.Faithful.Lengths.{block_count}
use Rattle.code_gen.proofs.Seen.{item_seen}
use Rattle.code_gen.proofs.Programs.{next_block, next_inner, next_base}
use Rattle.code_gen.proofs.modules.blocks.Goals as goal

pub loop-scoped-preserved : goal.loop-scoped-preserved
loop-scoped-preserved c =
    let xs = c.args.modules.now in
    let i = c.loop-scoped.scoped-index in
    let x = c.scoped-item.result in
    let seen = item_seen xs i x c.loop-scoped-test.true c.scoped-item.is in
    let b = c.args.first + length c.loop-scoped.inner in
    let m = module_of x in
    let rest = map module_of (drop (i + 1) xs) in
    let made = c.in_ok-block.ensures.inner in
    let base = next_base c.args.first (block_functions m.body) c.loop-scoped.inner (block_protos m.body (module_scope m.names) b) c.module_block.new.inner made (block_count m.body (module_scope m.names) b) in (
      next_block rest m c.loop-scoped.blocks c.push.new.self c.in_ok-block.block c.loop-scoped.number b (c.args.first + length c.module_block.new.inner) _ c.in_ok-push.ensures.ok c.in_ok-block.ensures.block base
          (ap (λ l. c.loop-scoped.blocks ++ main_protos (map module_of l) c.loop-scoped.number b) (sym seen) ∙ c.loop-scoped.invariant.0),
      next_inner rest m c.loop-scoped.inner c.module_block.new.inner b (c.args.first + length c.module_block.new.inner) _ made base
          (ap (λ l. c.loop-scoped.inner ++ inner_protos (map module_of l) b) (sym seen) ∙ c.loop-scoped.invariant.1),
    )
