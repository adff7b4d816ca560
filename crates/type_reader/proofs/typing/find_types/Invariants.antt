use Rattle.std.proofs.Common.{◌≡◌, ℕ, length}
use Rattle.type_reader.specs.Lent.{declared_in}
use Rattle.type_reader.specs.Declarations.{types_to}
use Rattle.type_reader.specs.Growing.{Grows, untyped}
use Rattle.type_reader.proofs.typing.find_types.Given as goal

abbrev pub invariant-loop-types : goal.invariant-loop-types
invariant-loop-types l = record {
  grows : (n : ℕ) × Grows l.«module».known.now (declared_in l.«module».declared.now) n (types_to l.«module».known.now (declared_in l.«module».declared.now) 0) l.types.items;
  length : length l.types.items ≡ length l.«module».declared.now;
}

abbrev pub decreases-loop-types : goal.decreases-loop-types
decreases-loop-types l = untyped l.types.items
