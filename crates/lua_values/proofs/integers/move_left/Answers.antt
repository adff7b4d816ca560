use Rattle.lua_values.proofs.Words.{moved_left-far}
use Rattle.lua_values.proofs.integers.move_left.Goals as goal

pub returns-else-places-lt64 : goal.returns-else-places-lt64
returns-else-places-lt64 c = moved_left-far c.args.a c.args.places c.if-places-lt64.false
