use Rattle.std.proofs.Common.{◌+◌, ◌∙◌, sym}
use Rattle.lua_values.proofs.Reading.{digits_next, too_large}
use Rattle.lua_values.proofs.numerals.read_decimal.Goals as goal

pub returns-then-next : goal.returns-then-next
returns-then-next c =
    let next = digits_next 10 _ _ _ _ (c.from.ensures ∙ c.loop-byte.invariant.0) c.loop-byte-test.true (c.from-in-loop-byte.ensures ∙ c.digit.ensures) in
    too_large c.args.bytes.now (c.loop-byte.byte-index + 1) _ (sym c.are_digits.ensures ∙ c.if-not-are_digits.false) next c.if-next.true

pub loop-byte-preserved : goal.loop-byte-preserved
loop-byte-preserved c =
    (digits_next 10 _ _ _ _ (c.from.ensures ∙ c.loop-byte.invariant.0) c.loop-byte-test.true (c.from-in-loop-byte.ensures ∙ c.digit.ensures), c.if-next.false)
