use Rattle.lua_values.proofs.Words.{moved_right-far}
use Rattle.lua_values.proofs.integers.move_right.Goals as goal

pub returns-else-places-lt64 : goal.returns-else-places-lt64
returns-else-places-lt64 c = moved_right-far c.args.a c.args.places c.ranges.a c.if-places-lt64.false
