use Rattle.std.proofs.Common.{◌≡◌, drop, map}
use Rattle.type_reader.specs.Types.{are_typed}
use Rattle.type_reader.specs.Lookups.{names_in}
use Rattle.type_reader.specs.SeenUses.{used_of}
use Rattle.type_reader.proofs.typing.are_typed.Given as goal

abbrev pub invariant-loop-used : goal.invariant-loop-used
invariant-loop-used l = are_typed (names_in l.names) (map used_of (drop l.used-index l.used-items)) ≡ are_typed (names_in l.names) (map used_of l.used-items)
