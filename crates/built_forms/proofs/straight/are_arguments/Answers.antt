use Rattle.std.proofs.Common.{sym, ◌∙◌}
use Rattle.built_forms.proofs.Lists.{some_arguments}
use Rattle.built_forms.proofs.straight.are_arguments.Goals as goal

pub returns-in_default : goal.returns-in_default
returns-in_default c = c.are_values.ensures ∙ sym (some_arguments c.args.uses.now c.args.values.now c.in_default.len_at_least)
