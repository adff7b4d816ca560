use Rattle.lua_machine.proofs.Begin.{fill_step}
use Rattle.lua_machine.proofs.calls.fill.Goals as goal

pub loop-at-preserved : goal.loop-at-preserved
loop-at-preserved c =
    fill_step c.args.count c.loop-at.at c.args.values.now c.in_ok-or_nil.field-0 c.loop-at.frames c.push_slot.new.self _ c.loop-at-test.true c.in_ok-or_nil.ensures c.in_ok-push_slot.ensures c.loop-at.invariant
