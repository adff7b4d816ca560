use Rattle.lua_lexer.proofs.Fences.{shuts_at, other_level}
use Rattle.lua_lexer.proofs.brackets.shutting.Goals as goal

pub returns-then-count-level : goal.returns-then-count-level
returns-then-count-level c = shuts_at c.in-Some.ensures c.if-byte-ne93.false c.if-count-level.true c.in-Some-fence.ensures

pub returns-else-count-level : goal.returns-else-count-level
returns-else-count-level c = other_level c.in-Some.ensures c.if-count-level.false c.in-Some-fence.ensures
