-- Ranks of a module's own names: what an alias uses has no higher rank than its own. So one that uses lower ranks alone doesn't lead to itself.
use Rattle.std.specs.Prelude.{◌≡◌, ℕ, ◌+◌, Bool, true, false, List, Some, nat_lt, slice_get, slice_index_or}
use Rattle.std.specs.List.{list_all}
use Rattle.std.specs.Option.{option_map_or}
use Rattle.type_reader.specs.Names.{place_in}
use Rattle.type_reader.specs.Declarations.{Declaration, own_names, form_uses}

abbrev pub rank_at : List ℕ → ℕ → ℕ
rank_at ranks i = slice_index_or ranks i 0

-- a name has a rank below the limit, or is none of the module's own
abbrev pub name_falls : List (List ℕ) → List ℕ → ℕ → List ℕ → Bool
name_falls own ranks limit name = option_map_or (λ i. nat_lt (rank_at ranks i) limit) (place_in own name) true

abbrev pub uses_fall : List (List ℕ) → List ℕ → ℕ → List (List ℕ) → Bool
uses_fall own ranks limit us = list_all (name_falls own ranks limit) us

abbrev pub IsFalling : List Declaration → List ℕ → Type 0
IsFalling ds ranks = (i : ℕ) (d : Declaration) → slice_get ds i ≡ Some d → uses_fall (own_names ds) ranks (rank_at ranks i + 1) (form_uses d.form) ≡ true

-- the declaration uses lower ranks than its own alone
abbrev pub falls_at : List Declaration → List ℕ → ℕ → Bool
falls_at ds ranks i = option_map_or (λ d. uses_fall (own_names ds) ranks (rank_at ranks i) (form_uses d.form)) (slice_get ds i) false
