use Rattle.std.proofs.Common.{drop, length, ◌≤◌}
use Rattle.type_reader.specs.Indexed.{IsIndexOf}
use Rattle.type_reader.proofs.other_names.OtherNames.new.Given as goal

abbrev pub invariant-loop-at : goal.invariant-loop-at
invariant-loop-at l = (l.at ≤ length l.names) × IsIndexOf (drop l.at l.names) l.types

abbrev pub decreases-loop-at : goal.decreases-loop-at
decreases-loop-at l = l.at
