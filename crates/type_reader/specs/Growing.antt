-- How the types of a module's own names are found, one after the other.
use Rattle.std.specs.Prelude.{◌≡◌, ℕ, zero, suc, ◌+◌, ◌<◌, Bool, true, false, List, [], ◌∷◌, Option, Some, None, length, set, slice_get, slice_index_or}
use Rattle.std.specs.Option.{option_and_then}
use Rattle.tl_types.specs.declared.types.Ty.{Ty}
use Rattle.type_reader.specs.declared.names.TypeName.{TypeName}
use Rattle.type_reader.specs.Names.{names_of}
use Rattle.type_reader.specs.Declarations.{Declaration, own_names, form_type}

abbrev pub Table : Type 0
Table = List (Option Ty)

-- how many names have no type yet
abbrev pub untyped : Table → ℕ
untyped [] = 0
untyped (None ∷ ts) = 1 + untyped ts
untyped (Some t ∷ ts) = untyped ts

-- the type of a declaration, where names have the types of the table
abbrev pub entry_type : List TypeName → List Declaration → Table → ℕ → Option Ty
entry_type known ds ts i = option_and_then (λ d. form_type (names_of known (own_names ds) ts) d.form) (slice_get ds i)

-- so many names more have types
pub data Grows (known : List TypeName) (ds : List Declaration) : ℕ → Table → Table → Type 0 where
  stays : (ts : Table) → Grows known ds zero ts ts
  gains : (n : ℕ) (ts us : Table) (i : ℕ) (t : Ty) → Grows known ds n ts us → i < length us → slice_index_or us i None ≡ None → entry_type known ds us i ≡ Some t → Grows known ds (suc n) ts (set us i (Some t))

-- each of the first n names has a type, or its type can't be found in the table
abbrev pub IsClosedBelow : List TypeName → List Declaration → Table → ℕ → Type 0
IsClosedBelow known ds ts n = (i : ℕ) → i < n → slice_index_or ts i None ≡ None → entry_type known ds ts i ≡ None

-- a name has got its type, or nothing has changed and it has one or can't have one yet
pub record Gained (known : List TypeName) (ds : List Declaration) (ts us : Table) (i : ℕ) : Type 0 where
  pub ty : Ty
  pub within : i < length ts
  pub absent : slice_index_or ts i None ≡ None
  pub found : entry_type known ds ts i ≡ Some ty
  pub written : us ≡ set ts i (Some ty)

pub record Kept (known : List TypeName) (ds : List Declaration) (ts us : Table) (i : ℕ) : Type 0 where
  pub same : us ≡ ts
  pub closed : slice_index_or ts i None ≡ None → entry_type known ds ts i ≡ None

abbrev pub Settles : List TypeName → List Declaration → Table → Table → ℕ → Bool → Type 0
Settles known ds ts us i true = Gained known ds ts us i
Settles known ds ts us i false = Kept known ds ts us i

-- names have got types, or nothing has changed and no other name can have one
abbrev pub Swept : List TypeName → List Declaration → Table → Table → ℕ → Bool → Type 0
Swept known ds ts us i true = (n : ℕ) × (0 < n) × Grows known ds n ts us
Swept known ds ts us i false = (us ≡ ts) × IsClosedBelow known ds us i
