use Rattle.std.proofs.Common.{sym}
use Rattle.built_forms.proofs.Lists.{two_or_more}
use Rattle.built_forms.proofs.straight.is_one_value.Goals as goal

pub returns-in_default-2 : goal.returns-in_default-2
returns-in_default-2 c = sym (two_or_more c.args.uses.now c.args.values.now c.in_default.len_at_least)
