use Rattle.std.proofs.Common.{refl, arith}
use Rattle.lua_parser.proofs.reader.Reader.enter.Goals as goal

pub returns : goal.returns
returns c = rw (c.in_ok-push.ensures, c.take-stats.ensures.taken, c.take-stats.ensures.left, c.take-frames.ensures.taken, c.take-frames.ensures.left) (refl, omega arith, refl)
