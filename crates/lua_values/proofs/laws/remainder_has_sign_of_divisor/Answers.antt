use Rattle.lua_values.proofs.Arithmetic.{remainder-by_positive, remainder-by_negative}
use Rattle.lua_values.proofs.laws.remainder_has_sign_of_divisor.Goals as goal

pub returns-clause-positive : goal.returns-clause-positive
returns-clause-positive c = remainder-by_positive

pub returns-clause-negative : goal.returns-clause-negative
returns-clause-negative c = remainder-by_negative
