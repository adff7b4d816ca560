use Rattle.std.proofs.Common.{◌≡◌, take, map}
use Rattle.tl_types.specs.Unions.{tuple_place}
use Rattle.tl_types.proofs.unions.position.Given as goal

abbrev pub invariant-loop-tuple : goal.invariant-loop-tuple
invariant-loop-tuple l = l.places.items ≡ map (λ p. tuple_place p l.index) (take l.tuple-index l.tuple-items)
