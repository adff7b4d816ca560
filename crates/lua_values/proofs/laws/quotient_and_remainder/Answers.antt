use Rattle.lua_values.proofs.Arithmetic.{quotient_and_remainder}
use Rattle.lua_values.proofs.laws.quotient_and_remainder.Goals as goal

pub returns : goal.returns
returns c = quotient_and_remainder
