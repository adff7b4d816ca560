use Rattle.std.proofs.Common.{sym}
use Rattle.tl_check.proofs.Parts.{value_is, values_are, no_value}
use Rattle.tl_check.proofs.locals.one_value.Goals as goal

pub returns-then-gives_many : goal.returns-then-gives_many
returns-then-gives_many c = rw c.refused.ensures (values_are c.args.pos c.args.values c.in-Some.value (sym c.in-Some.ensures) cc)

pub returns-else-gives_many : goal.returns-else-gives_many
returns-else-gives_many c = value_is c.args.pos c.args.values c.in-Some.value (sym c.in-Some.ensures) cc

pub returns-in-None : goal.returns-in-None
returns-in-None c = rw c.refused_at.ensures (no_value c.args.pos c.args.values (sym c.in-None.ensures))
