use Rattle.lua_parser.proofs.Parts.Spelled.{numbered, fewer}
use Rattle.lua_parser.proofs.theorems.uses_are_numbered.Goals as goal

pub returns-clause-numbered : goal.returns-clause-numbered
returns-clause-numbered c = λ kind ts b d. numbered kind d

pub returns-clause-fewer : goal.returns-clause-fewer
returns-clause-fewer c = λ kind ts b d. fewer kind d
