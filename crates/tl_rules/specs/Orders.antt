-- The rules take the two orders as tests. A module is typed with tests that decide plain and consistent subtyping.
use Rattle.std.specs.Prelude.{◌≡◌, ◌↔◌, suc, max, Bool, true, false, []}
use Rattle.tl_types.specs.declared.types.Ty.{Ty}
use Rattle.tl_types.specs.Sizes.{type_depth}
use Rattle.tl_types.specs.Types.{Bodies}
use Rattle.tl_types.specs.Below.{Test, below, IsSubtype, IsConsistent}

pub record AreOrders (bodies : Bodies) (plain loose : Test) : Type 0 where
  pub subtype : (s t : Ty) → (plain s t ≡ true) ↔ IsSubtype bodies s t
  pub consistent : (s t : Ty) → (loose s t ≡ true) ↔ IsConsistent bodies s t

-- Where there are no interfaces types are finite trees. The orders are then decided to one depth, which is past the deeper of the two types.
abbrev pub order : Bool → Test
order loose s t = below loose [] (suc (max (type_depth s) (type_depth t))) s t

abbrev pub plain_order : Test
plain_order = order false

abbrev pub loose_order : Test
loose_order = order true
