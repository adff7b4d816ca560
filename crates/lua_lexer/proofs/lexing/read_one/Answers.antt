use Rattle.std.proofs.Common.{arith}
use Rattle.lua_lexer.proofs.Tails.{join, skips_tail, faults_tail, piece_tail, tail_length, piece_shorter}
use Rattle.lua_lexer.proofs.Founds.{finish_made, token_made, refusal_made}
use Rattle.lua_lexer.specs.Tokens.{Refuses}
use Rattle.lua_lexer.proofs.lexing.read_one.Goals as goal

pub place-start-requires-clause-to : goal.place-start-requires-clause-to
place-start-requires-clause-to c = skips_tail c.skip-from.ensures

pub place-requires-clause-from : goal.place-requires-clause-from
place-requires-clause-from c = join c.requires.rest (skips_tail c.skip-from.ensures)

pub place-requires-clause-to : goal.place-requires-clause-to
place-requires-clause-to c = faults_tail c.in-Fault.ensures

pub make_token-requires-in-Token-clause-from : goal.make_token-requires-in-Token-clause-from
make_token-requires-in-Token-clause-from c = tail_length (join c.requires.rest (skips_tail c.skip-from.ensures))

pub make_token-requires-in-Token-clause-rest : goal.make_token-requires-in-Token-clause-rest
make_token-requires-in-Token-clause-rest c = tail_length (join (join c.requires.rest (skips_tail c.skip-from.ensures)) (piece_tail c.in-Token.ensures.1.piece))

pub place-requires-in-Ok-push-clause-from : goal.place-requires-in-Ok-push-clause-from
place-requires-in-Ok-push-clause-from c = join c.requires.rest (skips_tail c.skip-from.ensures)

pub place-requires-in-Ok-push-clause-to : goal.place-requires-in-Ok-push-clause-to
place-requires-in-Ok-push-clause-to c = piece_tail c.in-Token.ensures.1.piece

pub returns-in-Ok : goal.returns-in-Ok
returns-in-Ok c =
    (c.make_token.result, c.in-Ok.ensures.ok, finish_made c.skip-from.result.now c.place-start.result c.make_token.ensures c.skip-from.ensures c.in-None.ensures c.place-start.ensures)

pub returns-in-Fault : goal.returns-in-Fault
returns-in-Fault c =
    (c.in-Fault.code, c.in-Fault.at.now, Refuses.here c.skip-from.ensures c.in-Fault.ensures, refusal_made c.args.module c.args.all.now c.in-Fault.at.now c.in-Fault.code c.place.result c.pos-pos.result c.pos-pos.ensures c.place.ensures)

pub returns-in-Ok-push : goal.returns-in-Ok-push
returns-in-Ok-push c =
    let k = c.skip-from.ensures in
    let u = c.in-Token.ensures in
    let h = tail_length (skips_tail k) in
    let g = piece_shorter u.1.piece in (
      c.make_token-in-Token.result,
      c.in-Ok-push.ensures.ok,
      token_made c.place-start.result c.make_token-in-Token.ensures k u.1 u.2 c.place-start.ensures,
      (λ code place f. Refuses.later k u.1 u.2 f),
      c.place-in-Ok-push.ensures,
      join (join c.requires.rest (skips_tail k)) (piece_tail u.1.piece),
      omega (arith, h, g),
    )
