use Rattle.type_reader.proofs.Straight.{IsFallingBelow}
use Rattle.type_reader.proofs.ranks.are_falling.Given as goal

abbrev pub invariant-loop-at : goal.invariant-loop-at
invariant-loop-at l = IsFallingBelow l.«module».declared.now l.ranks l.at
