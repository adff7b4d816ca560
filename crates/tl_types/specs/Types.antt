-- What stands in a type: the members of a union, the place of a tuple, the record of an interface.
use Rattle.std.specs.Prelude.{List, [], ◌∷◌, ◌++◌, slice_index_or}
use Rattle.tl_types.specs.declared.types.Ty.{Ty, out-Ty, Union', Row_of-Ty, end_of-Ty, more_of-Ty}
use Rattle.tl_types.specs.declared.types.Ty.TheOpen.{Ty-F, Rec, Iface}
use Rattle.tl_types.specs.declared.types.FieldOf.{FieldOf}

abbrev pub Field : Type 0
Field = FieldOf Ty

-- the record of each interface, by its number
abbrev pub Bodies : Type 0
Bodies = List (List Field)

-- the members of a union, where a member that is itself a union gives its own; another type is its own one member
abbrev mutual
  pub members : Ty → List Ty
  members (Union' shape all) = row_members all
  members t = t ∷ []

  pub row_members : {m : _} → Row_of-Ty m → List Ty
  row_members end_of-Ty = []
  row_members (more_of-Ty t rest) = members t ++ row_members rest

-- an interface unfolds to its record, a number past the list to the record without fields; no other form unfolds
abbrev pub unfold_form : Bodies → Ty-F Ty → Ty-F Ty
unfold_form bodies (Iface n) = Rec (slice_index_or bodies n [])
unfold_form bodies x = x

abbrev pub unfolded : Bodies → Ty → Ty-F Ty
unfolded bodies t = unfold_form bodies (out-Ty t)
