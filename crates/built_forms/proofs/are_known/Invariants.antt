use Rattle.std.proofs.Common.{◌≡◌, drop}
use Rattle.std.specs.List.{list_all}
use Rattle.built_forms.specs.Forms.{is_known}
use Rattle.built_forms.proofs.are_known.Given as goal

abbrev pub invariant-loop-meaning : goal.invariant-loop-meaning
invariant-loop-meaning l = list_all is_known (drop l.meaning-index l.uses) ≡ list_all is_known l.uses
