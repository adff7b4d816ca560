use Rattle.std.proofs.Common.{◌≡◌, []}
use Rattle.lua_machine.proofs.Places.{past_end}
use Rattle.lua_machine.proofs.store.Store.word.Goals as goal

pub returns-in-None : goal.returns-in-None
returns-in-None c = rw (← c.self.view_is) (past_end [] c.self.inside.words c.args.place.module c.in-None.ensures.value)
