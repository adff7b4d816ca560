-- What files hold, and what a read of one answers.
use Rattle.std.specs.Prelude.{◌≡◌, ℕ, ◌<◌, ◌≤◌, List, [], length, Option, None, Some, Result, MatchResult, find}
use Rattle.std.specs.Option.{option_map}
use Rattle.std.specs.Str.{bytes_eq}
use Rattle.tl_edge.specs.declared.outside.Found.{Found}
use Rattle.tl_edge.specs.declared.outside.Found.TheVariants.{Whole, Missing, TooLong}
use Rattle.tl_edge.specs.declared.outside.FileBytes.{FileBytes}

-- the bytes of the file of this name: of several entries of one name the first counts
abbrev pub bytes_of : List FileBytes → List ℕ → Option (List ℕ)
bytes_of files name = option_map (λ file. file.bytes) (find (λ file. bytes_eq file.name name) files)

-- which answer a file's bytes have, and what is read
abbrev pub IsAnswer : Option (List ℕ) → ℕ → Found → List ℕ → Type 0
IsAnswer None limit found out = (found ≡ Missing) × (out ≡ [])
IsAnswer (Some bytes) limit Missing out = ⊥
IsAnswer (Some bytes) limit TooLong out = (limit < length bytes) × (out ≡ [])
IsAnswer (Some bytes) limit Whole out = (length bytes ≤ limit) × (out ≡ bytes)

-- what is read stays within the limit, and is nothing unless the file is whole
abbrev pub IsWithin : Found → ℕ → List ℕ → Type 0
IsWithin Whole limit out = length out ≤ limit
IsWithin Missing limit out = out ≡ []
IsWithin TooLong limit out = out ≡ []

-- what a read of the file of this name answers and leaves in `out`, where the files' content is told and where it isn't
abbrev pub Reads : {E : Type 0} → Option (List FileBytes) → List ℕ → ℕ → Result Found E → List ℕ → Type 0
Reads told name limit result out =
    MatchResult result
    (λ found. IsWithin found limit out × ((files : List FileBytes) → told ≡ Some files → IsAnswer (bytes_of files name) limit found out))
    (λ _. out ≡ [])
