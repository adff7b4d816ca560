use Rattle.lua_values.proofs.Tables.{next-first, next-behind, next-end, next-empty, next-unlisted}
use Rattle.lua_values.proofs.laws.next_goes_in_order.Goals as goal

pub returns-clause-begin : goal.returns-clause-begin
returns-clause-begin c = next-first

pub returns-clause-behind : goal.returns-clause-behind
returns-clause-behind c = next-behind

pub returns-clause-end : goal.returns-clause-end
returns-clause-end c = next-end

pub returns-clause-empty : goal.returns-clause-empty
returns-clause-empty c = next-empty

pub returns-clause-unlisted : goal.returns-clause-unlisted
returns-clause-unlisted c = next-unlisted
