use Rattle.std.proofs.Common.{[], ◌∷◌, length, refl, ap, sym, arith}
use Rattle.lua_lexer.proofs.Parts.{read_close, plain_at, spoils_here, escaped_at}
use Rattle.lua_lexer.specs.Escaped.{meant}
use Rattle.lua_lexer.proofs.strings.read_part.Goals as goal

pub returns-then-byte-quote : goal.returns-then-byte-quote
returns-then-byte-quote c = (read_close c.in-Some.ensures c.if-byte-quote.true, refl)

pub returns-in-Ok : goal.returns-in-Ok
returns-in-Ok c =
    let h = ap length c.in-Some.ensures in
    (c.in-Some.byte ∷ [], plain_at c.in-Some.ensures c.if-byte-quote.false c.if-byte-ne92.true (sym c.if-is_line_byte.ensures), c.in-Ok.ensures.ok, omega (arith, h))

pub returns-in-None : goal.returns-in-None
returns-in-None c = spoils_here c.in-Some.ensures c.if-byte-ne92.false c.in-None.ensures.value

pub returns-in-Ok-push : goal.returns-in-Ok-push
returns-in-Ok-push c =
    let h = ap length c.in-Some.ensures in
    let k = c.in-Some-escape.ensures.shorter in
    (meant c.in-Some-escape.escaped, escaped_at c.in-Some.ensures c.if-byte-ne92.false c.in-Some-escape.ensures.value, c.in-Ok-push.ensures, omega (arith, h, k))
