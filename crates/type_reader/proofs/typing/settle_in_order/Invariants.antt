use Rattle.std.proofs.Common.{◌≡◌, ℕ, length}
use Rattle.type_reader.specs.Lent.{declared_in}
use Rattle.type_reader.specs.Growing.{Grows}
use Rattle.type_reader.proofs.typing.settle_in_order.Given as goal

abbrev pub invariant-loop-at : goal.invariant-loop-at
invariant-loop-at l = record {
  grows : (n : ℕ) × Grows l.«module».known.now (declared_in l.«module».declared.now) n l.initial.types.items l.types.items;
  length : length l.types.items ≡ length l.«module».declared.now;
}
