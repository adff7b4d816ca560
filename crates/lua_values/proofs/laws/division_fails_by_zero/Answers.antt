use Rattle.lua_values.proofs.Arithmetic.{quotient-none, remainder-none}
use Rattle.lua_values.proofs.laws.division_fails_by_zero.Goals as goal

pub returns-clause-quotient : goal.returns-clause-quotient
returns-clause-quotient c = quotient-none

pub returns-clause-remainder : goal.returns-clause-remainder
returns-clause-remainder c = remainder-none
