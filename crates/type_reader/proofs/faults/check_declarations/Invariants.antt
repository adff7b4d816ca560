use Rattle.std.proofs.Common.{◌≡◌, drop, map}
use Rattle.type_reader.specs.Faults.{first_of}
use Rattle.type_reader.specs.Lent.{declared_in}
use Rattle.type_reader.specs.Lookups.{names_in}
use Rattle.type_reader.specs.Reading.{declared_fault}
use Rattle.type_reader.proofs.faults.check_declarations.Given as goal

abbrev pub invariant-loop-declaration : goal.invariant-loop-declaration
invariant-loop-declaration l =
    first_of (map (declared_fault (declared_in l.«module».declared.now) (names_in l.names)) (declared_in (drop l.declaration-index l.«module».declared.now)))
    ≡ first_of (map (declared_fault (declared_in l.«module».declared.now) (names_in l.names)) (declared_in l.«module».declared.now))
