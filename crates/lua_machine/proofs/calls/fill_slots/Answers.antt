use Rattle.lua_machine.proofs.Begin.{slots_filled}
use Rattle.lua_machine.proofs.calls.fill_slots.Goals as goal

pub returns : goal.returns
returns c =
    slots_filled c.args.proto.now c.args.values.now c.args.frames.now c.fill.new.frames c.fill-2.new.frames c.saturating_sub.result c.in_ok-fill.ensures c.saturating_sub.ensures c.in_ok-fill-2.ensures
