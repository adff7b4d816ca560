use Rattle.std.proofs.Common.{◌≡◌, ◌++◌, take}
use Rattle.type_reader.specs.Seen.{collected}
use Rattle.type_reader.specs.Annotations.{typed}
use Rattle.type_reader.proofs.annotations.Annotations.typed.Given as goal

abbrev pub invariant-loop-name : goal.invariant-loop-name
invariant-loop-name l = collected l.self ≡ collected l.initial.self ++ typed (take l.name-index l.name-items)
