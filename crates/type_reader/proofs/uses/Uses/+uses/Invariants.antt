use Rattle.std.proofs.Common.{◌≡◌, ◌++◌, take, map}
use Rattle.type_reader.specs.Types.{all, uses_of, uses_of_field, uses_of_tuple}
use Rattle.type_reader.specs.SeenUses.{used_in}
use Rattle.type_reader.proofs.uses.Uses.+uses.Given as goal

abbrev pub invariant-types-loop-e : goal.invariant-types-loop-e
invariant-types-loop-e l = used_in l.self ≡ used_in l.initial.self ++ all (map uses_of (take l.e-index l.types))

abbrev pub invariant-fields-loop-field : goal.invariant-fields-loop-field
invariant-fields-loop-field l = used_in l.self ≡ used_in l.initial.self ++ all (map uses_of_field (take l.field-index l.fields))

abbrev pub invariant-results-loop-tuple : goal.invariant-results-loop-tuple
invariant-results-loop-tuple l = used_in l.self ≡ used_in l.initial.self ++ all (map uses_of_tuple (take l.tuple-index l.tuple-items))
