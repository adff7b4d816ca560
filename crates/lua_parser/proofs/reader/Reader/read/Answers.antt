use Rattle.std.proofs.Common.{sym, ◌∙◌}
use Rattle.lua_parser.proofs.Openings.{stops_at_end}
use Rattle.lua_parser.proofs.reader.Reader.read.Goals as goal

pub returns-then-is_over : goal.returns-then-is_over
returns-then-is_over c = sym c.loop-self.invariant.1 ∙ stops_at_end c.args.self.now.kind c.loop-self.self c.loop-self.mode c.loop-self.self.cursor (c.is_over.ensures.0 c.if-is_over.true)
