use Rattle.lua_machine.proofs.Begin.{has_begun}
use Rattle.lua_machine.proofs.calls.enter.Goals as goal

pub returns : goal.returns
returns c =
    has_begun c.args.number c.args.proto.now c.args.cells c.args.values.now c.in_ok-rest.rest c.args.frames.now c.enter.new.self c.fill_slots.new.frames
    c.in_ok-rest.ensures c.in_ok-enter.ensures c.in_ok-fill_slots.ensures
