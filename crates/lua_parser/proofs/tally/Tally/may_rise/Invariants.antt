use Rattle.std.proofs.Common.{◌≡◌, length}
use Rattle.lua_parser.specs.Counting.Most.{rise}
use Rattle.lua_parser.proofs.Counting.Rises.{found}
use Rattle.lua_parser.proofs.tally.Tally.may_rise.Given as goal

abbrev pub invariant-loop-sign : goal.invariant-loop-sign
invariant-loop-sign l = found l.most l.read_last l.rest ≡ rise l.fn.self.expected l.fn.self.height

abbrev pub decreases-loop-sign : goal.decreases-loop-sign
decreases-loop-sign l = length l.rest
