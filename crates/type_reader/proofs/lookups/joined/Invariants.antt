use Rattle.std.proofs.Common.{◌≡◌, take}
use Rattle.type_reader.specs.Names.{dotted}
use Rattle.type_reader.proofs.lookups.joined.Given as goal

abbrev pub invariant-loop-part : goal.invariant-loop-part
invariant-loop-part l = l.text ≡ dotted l.first (take l.part-index l.rest)
