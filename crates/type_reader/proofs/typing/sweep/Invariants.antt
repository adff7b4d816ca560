use Rattle.std.proofs.Common.{◌≡◌, length}
use Rattle.type_reader.specs.Lent.{declared_in}
use Rattle.type_reader.specs.Growing.{Swept}
use Rattle.type_reader.proofs.typing.sweep.Given as goal

abbrev pub invariant-loop-at : goal.invariant-loop-at
invariant-loop-at l = record {
  swept : Swept l.«module».known.now (declared_in l.«module».declared.now) l.initial.types.items l.types.items l.at l.changed;
  length : length l.types.items ≡ length l.«module».declared.now;
}
