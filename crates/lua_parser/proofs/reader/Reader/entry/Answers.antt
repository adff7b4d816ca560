use Rattle.std.proofs.Common.{refl, arith}
use Rattle.lua_parser.proofs.reader.Reader.entry.Goals as goal

pub returns : goal.returns
returns c = rw c.in_ok-push.ensures (refl, omega arith, refl)
