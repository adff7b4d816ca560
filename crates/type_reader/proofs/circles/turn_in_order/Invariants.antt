use Rattle.std.proofs.Common.{◌≡◌, ℕ, length}
use Rattle.type_reader.specs.Lent.{declared_in}
use Rattle.type_reader.specs.Rising.{Rises}
use Rattle.type_reader.proofs.circles.turn_in_order.Given as goal

abbrev pub invariant-loop-at : goal.invariant-loop-at
invariant-loop-at l = record {
  rises : (n : ℕ) × Rises (declared_in l.«module».declared.now) l.to n l.initial.flags.items l.flags.items;
  length : length l.flags.items ≡ length l.«module».declared.now;
}
