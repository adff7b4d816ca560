use Rattle.std.proofs.Common.{refl, sym}
use Rattle.lua_parser.specs.Words.{words_of}
use Rattle.lua_parser.proofs.Parsings.{foreign_refused}
use Rattle.lua_parser.proofs.refusals.fault.Goals as goal

pub returns-in-Some : goal.returns-in-Some
returns-in-Some c =
    foreign_refused c.args.kind (words_of c.args.source.now c.args.tokens.now) c.args.left.now c.in-Some.code (record { code = c.in-Some.code; pos = c.pos.result }) c.requires.stops c.requires.shallow (sym c.in-Some.ensures) refl c.pos.ensures
