use Rattle.std.proofs.Common.{◌≡◌, drop, map}
use Rattle.type_reader.specs.Faults.{told_of, told_of_field, tuple_fault, first_of, fields_fault, record_fault}
use Rattle.type_reader.specs.Lookups.{names_in}
use Rattle.type_reader.proofs.checking.+checking.Given as goal

abbrev pub invariant-check_types-loop-e : goal.invariant-check_types-loop-e
invariant-check_types-loop-e l = first_of (map (λ t. t.fault) (map (told_of (names_in l.names)) (drop l.e-index l.types))) ≡ first_of (map (λ t. t.fault) (map (told_of (names_in l.names)) l.types))

abbrev pub invariant-check_fields-loop-field : goal.invariant-check_fields-loop-field
invariant-check_fields-loop-field l = fields_fault l.before (map (told_of_field (names_in l.names)) (drop l.field-index l.fields)) ≡ record_fault (names_in l.names) l.fields

abbrev pub invariant-check_results-loop-tuple : goal.invariant-check_results-loop-tuple
invariant-check_results-loop-tuple l = first_of (map (tuple_fault (names_in l.names)) (drop l.tuple-index l.tuple-items)) ≡ first_of (map (tuple_fault (names_in l.names)) l.tuple-items)
