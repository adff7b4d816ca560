-- Words of the laws on types and their orders.
use Rattle.std.specs.Prelude.{◌≡◌, ℕ, Bool, true}
use Rattle.tl_types.specs.Types.{Bodies}
use Rattle.tl_types.specs.Below.{below}
use Rattle.tl_types.specs.Cases.{Relation}

-- below to a depth, as a relation
abbrev pub AtDepth : Bool → Bodies → ℕ → Relation
AtDepth loose bodies n s t = below loose bodies n s t ≡ true
