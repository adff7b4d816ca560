use Rattle.std.proofs.Common.{sym, arith}
use Rattle.lua_lexer.proofs.Values.{past_range}
use Rattle.lua_lexer.proofs.numerals.decimal.Goals as goal

pub returns-then-value-gt922337203685477580-clause-value :
    goal.returns-then-value-gt922337203685477580-clause-value
returns-then-value-gt922337203685477580-clause-value c =
    past_range c.loop-byte.value c.in-Some.byte c.in-Some.tail.now c.args.text.now c.loop-byte.invariant.0 c.in-Some.ensures (sym c.if-not-is_digit.ensures) (omega arith)

pub returns-then-next-gt9223372036854775807-clause-value :
    goal.returns-then-next-gt9223372036854775807-clause-value
returns-then-next-gt9223372036854775807-clause-value c =
    past_range c.loop-byte.value c.in-Some.byte c.in-Some.tail.now c.args.text.now c.loop-byte.invariant.0 c.in-Some.ensures (sym c.if-not-is_digit.ensures) (omega arith)
