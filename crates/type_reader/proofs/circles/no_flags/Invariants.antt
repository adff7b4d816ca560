use Rattle.std.proofs.Common.{◌≡◌, false, take, map}
use Rattle.type_reader.specs.Lent.{declared_in}
use Rattle.type_reader.proofs.circles.no_flags.Given as goal

abbrev pub invariant-loop : goal.invariant-loop
invariant-loop l = l.flags.items ≡ map (λ d. false) (declared_in (take l.index l.declared))
