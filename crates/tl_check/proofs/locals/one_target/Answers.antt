use Rattle.std.proofs.Common.{sym}
use Rattle.tl_check.proofs.Parts.{target_is, no_target}
use Rattle.tl_check.proofs.locals.one_target.Goals as goal

pub returns-in-Some : goal.returns-in-Some
returns-in-Some c = target_is c.args.pos c.args.targets c.in-Some.target (sym c.in-Some.ensures)

pub returns-in-None : goal.returns-in-None
returns-in-None c = rw c.refused_at.ensures (no_target c.args.pos c.args.targets (sym c.in-None.ensures))
