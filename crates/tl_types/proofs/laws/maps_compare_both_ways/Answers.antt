use Rattle.std.proofs.Common.{refl}
use Rattle.tl_types.specs.declared.types.Ty.TheVariants as ty
use Rattle.tl_types.proofs.EveryDepth.{maps_apart}
use Rattle.tl_types.proofs.laws.maps_compare_both_ways.Goals as goal

pub returns : goal.returns
returns c = λ loose bodies k v l w. maps_apart loose bodies (ty.Map k v) (ty.Map l w) k v l w refl refl
