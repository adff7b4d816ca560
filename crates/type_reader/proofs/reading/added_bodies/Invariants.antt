use Rattle.std.proofs.Common.{◌≡◌, take}
use Rattle.std.specs.Prelude.{Some}
use Rattle.type_reader.specs.Lent.{declared_in}
use Rattle.type_reader.specs.Lookups.{names_in}
use Rattle.type_reader.specs.Reading.{bodies_of}
use Rattle.type_reader.specs.Types.{every}
use Rattle.type_reader.proofs.reading.added_bodies.Given as goal

abbrev pub invariant-loop-declaration : goal.invariant-loop-declaration
invariant-loop-declaration l = every (bodies_of (names_in l.names) (declared_in (take l.declaration-index l.declared))) ≡ Some l.added
