use Rattle.std.proofs.Common.{refl}
use Rattle.lua_parser.proofs.Parsings.{deep_refused}
use Rattle.lua_parser.proofs.refusals.deep_refusal.Goals as goal

pub returns-in-Some : goal.returns-in-Some
returns-in-Some c = λ kind v. deep_refused kind c.args.source.now c.args.tokens.now c.args.read c.args.number c.in-Some.token.now _ v c.requires _ c.in-Some.ensures.lookup.0 c.in-Some.ensures.lookup.1 refl refl
