use Rattle.lua_machine.proofs.Begin.{full}
use Rattle.lua_machine.specs.Calls.{levels_with_caller}
use Rattle.lua_machine.proofs.calls.call.Goals as goal

pub returns-else-has_room-2 : goal.returns-else-has_room-2
returns-else-has_room-2 c =
    rw (c.in-Builtin.is, full c.args.functions.now _ c.has_room-in-Builtin.result c.if-has_room-2.false c.has_room-in-Builtin.ensures c.args.place c.in-Builtin.name c.args.values.now (levels_with_caller c.args.state.now) c.args.state.now.store c.args.state.now.closures)
    c.overflow-else-has_room-2.ensures
