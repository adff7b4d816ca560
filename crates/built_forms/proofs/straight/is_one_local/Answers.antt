use Rattle.std.proofs.Common.{sym}
use Rattle.built_forms.proofs.Lists.{two_targets}
use Rattle.built_forms.proofs.straight.is_one_local.Goals as goal

pub returns-in_default-2 : goal.returns-in_default-2
returns-in_default-2 c = sym (two_targets c.args.uses.now c.args.targets.now c.in_default.len_at_least)
