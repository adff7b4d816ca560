-- Reading a file whole: what an error means, and what is read where the reader tells the bytes that it has left.
use Rattle.std.specs.Prelude.{◌≡◌, ℕ, ◌<◌, Bool, true, false, List, length, Option, None, Some}
use Rattle.std.specs.declared.io.ErrorKind.{ErrorKind}
use Rattle.std.specs.declared.io.ErrorKind.TheVariants.{OutOfMemory}
use Rattle.tl_edge.specs.declared.outside.FilesError.{FilesError}
use Rattle.tl_edge.specs.declared.outside.FilesError.TheVariants.{Failed, NoMemory}

-- want of memory is no fault of the files, and each other error is
abbrev pub files_error : ErrorKind → FilesError
files_error OutOfMemory = NoMemory
files_error _ = Failed

-- all the bytes were filled in, or they are more than the limit
abbrev pub Fills : Option (List ℕ) → ℕ → Bool → List ℕ → Type 0
Fills None limit whole out = Unit {0}
Fills (Some bytes) limit true out = out ≡ bytes
Fills (Some bytes) limit false out = limit < length bytes
