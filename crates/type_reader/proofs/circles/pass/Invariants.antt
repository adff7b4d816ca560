use Rattle.std.proofs.Common.{◌≡◌, length}
use Rattle.type_reader.specs.Lent.{declared_in}
use Rattle.type_reader.specs.Rising.{Passed}
use Rattle.type_reader.proofs.circles.pass.Given as goal

abbrev pub invariant-loop-at : goal.invariant-loop-at
invariant-loop-at l = record {
  passed : Passed (declared_in l.«module».declared.now) l.to l.initial.flags.items l.flags.items l.at l.changed;
  length : length l.flags.items ≡ length l.«module».declared.now;
}
