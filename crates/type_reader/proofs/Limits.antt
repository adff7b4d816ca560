-- A type above a limit is none.
use Rattle.std.proofs.Common.{◌≡◌, ◌<◌, false, ◌&&◌, cond, ap}
use Rattle.std.specs.Prelude.{Some, None, nat_le}
use Rattle.std.proofs.lemmas.Bool.{lt-leb}
use Rattle.tl_types.specs.declared.types.Ty.{Ty}
use Rattle.tl_types.specs.Sizes.{type_size, type_depth, is_within}
use Rattle.type_reader.specs.Types.{limited}

pub not_within : (t : Ty) → 65536 < type_size t → is_within t ≡ false
not_within t large = ap (λ b. b && nat_le (type_depth t) 100) (lt-leb (type_size t) 65536 large)

pub too_large : (t : Ty) → 65536 < type_size t → limited t ≡ None
too_large t large = ap (λ b. cond b (Some t) None) (not_within t large)
