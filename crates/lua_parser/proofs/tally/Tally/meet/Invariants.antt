use Rattle.std.proofs.Common.{◌≡◌, length}
use Rattle.lua_parser.specs.Counting.Count.{meet}
use Rattle.lua_parser.proofs.tally.Tally.meet.Given as goal

abbrev pub invariant-loop-sign : goal.invariant-loop-sign
invariant-loop-sign l = meet l.self.expected l.self.height l.fn.seen l.self.reached ≡ meet l.fn.self.expected l.fn.self.height l.fn.seen l.fn.self.reached

abbrev pub decreases-loop-sign : goal.decreases-loop-sign
decreases-loop-sign l = length l.self.expected
