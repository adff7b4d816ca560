use Rattle.lua_machine.proofs.Operands.{spread_step}
use Rattle.lua_machine.proofs.lists.push_each.Goals as goal

pub loop-at-preserved : goal.loop-at-preserved
loop-at-preserved c =
    spread_step c.args.count c.loop-at.at c.args.values.now c.in_ok-or_nil.field-0 c.loop-at.frames c.push.new.self _ c.loop-at-test.true c.in_ok-or_nil.ensures c.in_ok-push.ensures c.loop-at.invariant
