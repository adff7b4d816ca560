use Rattle.std.proofs.Common.{refl}
use Rattle.tl_types.specs.declared.types.Ty.TheVariants as ty
use Rattle.tl_types.proofs.EveryDepth.{functions_apart}
use Rattle.tl_types.proofs.laws.functions_compare_by_parts.Goals as goal

pub returns : goal.returns
returns c = λ loose bodies f g. functions_apart loose bodies (ty.Func f) (ty.Func g) f g refl refl
