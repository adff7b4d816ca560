use Rattle.std.proofs.Common.{◌≡◌, drop, map}
use Rattle.std.specs.List.{list_all}
use Rattle.type_reader.specs.Faults.{told_of}
use Rattle.type_reader.specs.Lookups.{names_in}
use Rattle.type_reader.proofs.checking.+keys.Given as goal

abbrev pub invariant-are_keys-loop-e : goal.invariant-are_keys-loop-e
invariant-are_keys-loop-e l = list_all (λ t. t.key) (map (told_of (names_in l.names)) (drop l.e-index l.types)) ≡ list_all (λ t. t.key) (map (told_of (names_in l.names)) l.types)
