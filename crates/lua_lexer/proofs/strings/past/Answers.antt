use Rattle.std.proofs.Common.{[], ◌∷◌, length, ap, sym, arith}
use Rattle.lua_lexer.proofs.Parts.{open_byte, plain_at, escaped_at, bad_at, never_ends_part, never_ends_bad}
use Rattle.lua_lexer.specs.Strings.{Part, Ends}
use Rattle.lua_lexer.proofs.strings.past.Goals as goal

pub returns-then-byte-ne92 : goal.returns-then-byte-ne92
returns-then-byte-ne92 c =
    let h = ap length c.in-Some.ensures in
    let p : Part c.args.quote c.args.text.now (c.in-Some.byte ∷ []) c.in-Some.tail.now = plain_at c.in-Some.ensures (open_byte c.requires.open c.in-Some.ensures) c.if-byte-ne92.true (sym c.if-is_line_byte.ensures) in
    ((λ u f. Ends.good p f), never_ends_part c.requires.quote p, omega (arith, h))

pub returns-in-Some-escape : goal.returns-in-Some-escape
returns-in-Some-escape c =
    let h = ap length c.in-Some.ensures in
    let k = c.in-Some-escape.ensures.shorter in
    let p = escaped_at {q = c.args.quote} c.in-Some.ensures c.if-byte-ne92.false c.in-Some-escape.ensures.value in
    ((λ u f. Ends.good p f), never_ends_part c.requires.quote p, omega (arith, h, k))

pub returns-in-Some-front : goal.returns-in-Some-front
returns-in-Some-front c =
    let h = ap length c.in-Some.ensures in
    let k = ap length c.in-Some-front.ensures in (
      (λ u f. bad_at c.in-Some.ensures c.if-byte-ne92.false c.in-Some-front.ensures c.in-None.ensures.value f),
      never_ends_bad c.requires.quote c.in-Some.ensures c.if-byte-ne92.false c.in-Some-front.ensures c.in-None.ensures.value,
      omega (arith, h, k),
    )
