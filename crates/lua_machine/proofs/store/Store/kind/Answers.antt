use Rattle.std.proofs.Common.{◌≡◌}
use Rattle.tl_base.specs.declared.place.ModuleKind.TheVariants.{Untyped}
use Rattle.lua_machine.proofs.Places.{past_end}
use Rattle.lua_machine.proofs.store.Store.kind.Goals as goal

pub returns-in-None : goal.returns-in-None
returns-in-None c = rw (← c.self.view_is) (past_end Untyped c.self.inside.kinds c.args.place.module c.in-None.ensures.value)
