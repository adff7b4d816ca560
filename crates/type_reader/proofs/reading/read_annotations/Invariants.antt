use Rattle.std.proofs.Common.{◌≡◌, take, drop, map}
use Rattle.std.specs.Prelude.{Some}
use Rattle.type_reader.specs.Faults.{first_of}
use Rattle.type_reader.specs.Lookups.{names_in}
use Rattle.type_reader.specs.Reading.{used_fault, annotation_type}
use Rattle.type_reader.specs.Seen.{annotation_of}
use Rattle.type_reader.specs.Types.{every}
use Rattle.type_reader.proofs.reading.read_annotations.Given as goal

abbrev pub invariant-loop-annotation : goal.invariant-loop-annotation
invariant-loop-annotation l = record {
  fault : first_of (map (used_fault (names_in l.names)) (map annotation_of (drop l.annotation-index l.annotations))) ≡ first_of (map (used_fault (names_in l.names)) (map annotation_of l.annotations));
  types : every (map (annotation_type (names_in l.names)) (map annotation_of (take l.annotation-index l.annotations))) ≡ Some l.types;
}
