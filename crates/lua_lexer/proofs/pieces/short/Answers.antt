use Rattle.lua_lexer.proofs.Founds.{means_short, not_ended_at, bad_escape_at}
use Rattle.lua_lexer.specs.Pieces.{Short}
use Rattle.lua_lexer.proofs.Cuts.{cut_short}
use Rattle.lua_lexer.proofs.Parts.{reads_ends, spoils_never}
use Rattle.lua_lexer.proofs.pieces.short.Goals as goal

pub returns-in-Read : goal.returns-in-Read
returns-in-Read c = (Short, cut_short c.args.quote c.requires.quoted c.requires.front (reads_ends c.in-Read.ensures), means_short c.args.quote c.requires.front c.in-Read.ensures)

pub returns-in-Broken : goal.returns-in-Broken
returns-in-Broken c = not_ended_at c.args.quote c.requires.quoted c.requires.front c.in-Broken.ensures

pub returns-in-None : goal.returns-in-None
returns-in-None c = not_ended_at c.args.quote c.requires.quoted c.requires.front (spoils_never c.requires.quoted c.in-Spoiled.ensures c.in-None.ensures)

pub returns-in-Some : goal.returns-in-Some
returns-in-Some c = bad_escape_at c.args.quote c.requires.quoted c.requires.front c.in-Spoiled.ensures c.in-Some.ensures
