use Rattle.std.proofs.Common.{◌+◌, ◌-◌, ap, ◌∙◌, length, take}
use Rattle.lua_tree.specs.View.{exp_of, targets_of}
use Rattle.lua_code.specs.Generated.{stores, store_instr}
use Rattle.code_gen.specs.Work.{put_all, put}
use Rattle.code_gen.proofs.Cells.{stores_step}
use Rattle.code_gen.proofs.writer.Writer.stores.Goals as goal

pub loop-i-preserved : goal.loop-i-preserved
unfolding put_all
loop-i-preserved c =
    let ts = c.args.targets.now in
    let i = c.loop-i.i in
    let x = c.index-targets-targets.result in
    let p = c.args.pos in
    let sc = c.args.self.now.scope in
    let instr = c.store-instr.ensures ∙ ap (λ s. store_instr (exp_of x) s) c.loop-i.invariant.1 in (
      ap (λ v. put_all (stores (targets_of (take (length ts - (i + 1)) ts)) p sc) v) (c.in_ok-put.ensures ∙ ap (λ z. put z p c.loop-i.self) instr)
          ∙ stores_step ts i x p sc c.loop-i.self c.loop-i-test.true c.index-targets-targets.is
          ∙ c.loop-i.invariant.0,
      ap (λ v. v.scope) c.in_ok-put.ensures ∙ c.loop-i.invariant.1,
    )
