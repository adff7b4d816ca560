use Rattle.std.proofs.Common.{◌≡◌, ℕ, length}
use Rattle.type_reader.specs.Lent.{declared_in}
use Rattle.type_reader.specs.Declarations.{leads_to}
use Rattle.type_reader.specs.Rising.{Rises, unset}
use Rattle.type_reader.proofs.circles.find_flags.Given as goal

abbrev pub invariant-loop-flags : goal.invariant-loop-flags
invariant-loop-flags l = record {
  rises : (n : ℕ) × Rises (declared_in l.«module».declared.now) l.to n (leads_to (declared_in l.«module».declared.now) l.to 0) l.flags.items;
  length : length l.flags.items ≡ length l.«module».declared.now;
}

abbrev pub decreases-loop-flags : goal.decreases-loop-flags
decreases-loop-flags l = unset l.flags.items
