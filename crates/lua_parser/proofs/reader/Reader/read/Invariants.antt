use Rattle.std.proofs.Common.{◌≡◌}
use Rattle.lua_parser.specs.Machine.Run.{run}
use Rattle.lua_parser.specs.Stacks.{plan, weight}
use Rattle.lua_parser.proofs.reader.Reader.read.Given as goal

abbrev pub invariant-loop-self : goal.invariant-loop-self
invariant-loop-self l = (l.self.kind ≡ l.fn.self.kind) × (run l.fn.self.kind (plan l.self l.mode) l.self.cursor ≡ run l.fn.self.kind (plan l.fn.self l.fn.first) l.fn.self.cursor)

abbrev pub decreases-loop-self : goal.decreases-loop-self
decreases-loop-self l = weight l.self l.mode
