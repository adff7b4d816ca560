use Rattle.lua_lexer.specs.Pieces.{Long}
use Rattle.lua_lexer.specs.Tokens.{Means, Faults}
use Rattle.lua_lexer.proofs.Cuts.{cut_bracket, cut_long}
use Rattle.lua_lexer.proofs.pieces.long.Goals as goal

pub returns-in-None : goal.returns-in-None
returns-in-None c = Faults.not_ended (cut_bracket c.requires c.in-None.ensures)

pub returns-in-Ok : goal.returns-in-Ok
returns-in-Ok c = (Long, cut_long c.requires c.in-Some.ensures, Means.long c.args.level c.requires c.in-Some.ensures c.in-Ok.ensures)
