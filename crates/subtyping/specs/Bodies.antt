-- The fields of a type that stands for a record, as a record or as an interface.
use Rattle.std.specs.Prelude.{◌≡◌, List, Option, Some, None}
use Rattle.tl_types.specs.declared.types.Ty.{Ty}
use Rattle.tl_types.specs.declared.types.Ty.TheOpen.{Rec}
use Rattle.tl_types.specs.Types.{Field, Bodies, unfolded}
use denote.Ref.{Bor}

abbrev pub IsBody : Bodies → Ty → Option (Bor (List Field)) → Type 0
IsBody bodies t (Some fs) = unfolded bodies t ≡ Rec fs.now
IsBody bodies t None = (fs : List Field) → unfolded bodies t ≡ Rec fs → ⊥
