use Rattle.std.proofs.Common.{sym, subst}
use Rattle.lua_lexer.proofs.Tails.{body_tail}
use Rattle.lua_lexer.proofs.Founds.{tokens_start, faults_start}
use Rattle.lua_lexer.specs.Reading.{EndsWith}
use Rattle.lua_lexer.specs.Tokens.{Refused}
use Rattle.lua_lexer.proofs.lexing.read.Goals as goal

pub place-spot-requires-clause-to : goal.place-spot-requires-clause-to
place-spot-requires-clause-to c = subst (λ x. EndsWith c.args.bytes.now x) (sym c.body-rest.ensures) (body_tail c.args.bytes.now)

pub loop-after-init : goal.loop-after-init
loop-after-init c = record {
  spot = c.place-spot.ensures;
  rest = subst (λ x. EndsWith c.args.bytes.now x) (sym c.body-rest.ensures) (body_tail c.args.bytes.now);
  tokens = tokens_start c.new-tokens.ensures c.body-rest.ensures;
  fault = faults_start c.body-rest.ensures;
}

pub returns-in-Refused-clause-refused : goal.returns-in-Refused-clause-refused
returns-in-Refused-clause-refused c =
    let k = c.in-Refused.ensures in
    subst (λ x. Refused c.args.module c.args.bytes.now x) (sym k.3) (Refused.fault c.requires (c.loop-after.invariant.fault k.0 k.1 k.2))
