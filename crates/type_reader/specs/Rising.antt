-- How the names that lead to one are found, one after the other.
use Rattle.std.specs.Prelude.{◌≡◌, ℕ, zero, suc, ◌+◌, ◌<◌, Bool, true, false, List, [], ◌∷◌, length, set, slice_get, slice_index_or}
use Rattle.std.specs.Option.{option_map_or}
use Rattle.type_reader.specs.Declarations.{Declaration, own_names, form_uses, uses_lead}

abbrev pub Flags : Type 0
Flags = List Bool

-- how many names have no flag yet
abbrev pub unset : Flags → ℕ
unset [] = 0
unset (false ∷ fs) = 1 + unset fs
unset (true ∷ fs) = unset fs

-- whether a declaration leads there by the flags
abbrev pub entry_leads : List Declaration → List ℕ → Flags → ℕ → Bool
entry_leads ds to fs i = option_map_or (λ d. uses_lead (own_names ds) to fs (form_uses d.form)) (slice_get ds i) false

-- so many names more have flags
pub data Rises (ds : List Declaration) (to : List ℕ) : ℕ → Flags → Flags → Type 0 where
  stays : (fs : Flags) → Rises ds to zero fs fs
  gains : (n : ℕ) (fs gs : Flags) (i : ℕ) → Rises ds to n fs gs → i < length gs → slice_index_or gs i false ≡ false → entry_leads ds to gs i ≡ true → Rises ds to (suc n) fs (set gs i true)

-- each of the first n names has its flag or doesn't lead there by the flags
abbrev pub IsDoneBelow : List Declaration → List ℕ → Flags → ℕ → Type 0
IsDoneBelow ds to fs n = (i : ℕ) → i < n → slice_index_or fs i false ≡ false → entry_leads ds to fs i ≡ false

-- a name has got its flag, or nothing has changed and it has one or can't have one yet
pub record Raised (ds : List Declaration) (to : List ℕ) (fs gs : Flags) (i : ℕ) : Type 0 where
  pub within : i < length fs
  pub absent : slice_index_or fs i false ≡ false
  pub found : entry_leads ds to fs i ≡ true
  pub written : gs ≡ set fs i true

pub record Left (ds : List Declaration) (to : List ℕ) (fs gs : Flags) (i : ℕ) : Type 0 where
  pub same : gs ≡ fs
  pub done : slice_index_or fs i false ≡ false → entry_leads ds to fs i ≡ false

abbrev pub Turns : List Declaration → List ℕ → Flags → Flags → ℕ → Bool → Type 0
Turns ds to fs gs i true = Raised ds to fs gs i
Turns ds to fs gs i false = Left ds to fs gs i

-- names have got flags, or nothing has changed and no other name can have one
abbrev pub Passed : List Declaration → List ℕ → Flags → Flags → ℕ → Bool → Type 0
Passed ds to fs gs i true = (n : ℕ) × (0 < n) × Rises ds to n fs gs
Passed ds to fs gs i false = (gs ≡ fs) × IsDoneBelow ds to gs i
