use Rattle.std.proofs.Common.{◌≡◌, ◌++◌, map, drop}
use Rattle.type_reader.specs.Seen.{annotation_of}
use Rattle.type_reader.specs.Declarations.{declarations}
use Rattle.type_reader.specs.Lent.{declared_in}
use Rattle.type_reader.proofs.declarations.declare.Given as goal

abbrev pub invariant-loop-annotation : goal.invariant-loop-annotation
invariant-loop-annotation l = declared_in l.declared.items ++ declarations l.next (map annotation_of (drop l.annotation-index l.annotations)) ≡ declarations l.first (map annotation_of l.annotations)
