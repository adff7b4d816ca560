use Rattle.lua_lexer.proofs.Fences.{separator_shorter}
use Rattle.lua_lexer.specs.Tokens.{Skips}
use Rattle.lua_lexer.proofs.separators.skip.Goals as goal

pub loop-next-smaller : goal.loop-next-smaller
loop-next-smaller c = separator_shorter c.in-Some.ensures

pub loop-next-preserved : goal.loop-next-preserved
loop-next-preserved c = λ r f. c.loop-next.invariant r (Skips.further c.in-Some.ensures f)

pub returns : goal.returns
returns c = c.loop-next.invariant _ (Skips.stop c.in_default.ensures)
