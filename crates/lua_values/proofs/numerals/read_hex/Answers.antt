use Rattle.std.proofs.Common.{◌∙◌}
use Rattle.lua_values.proofs.Reading.{hex_next}
use Rattle.lua_values.proofs.numerals.read_hex.Goals as goal

pub loop-byte-preserved : goal.loop-byte-preserved
loop-byte-preserved c = hex_next _ _ _ _ c.loop-byte.invariant c.loop-byte-test.true (c.from.ensures ∙ c.digit.ensures)
