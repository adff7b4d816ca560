-- What the words of a call ask for.
use Rattle.std.specs.Prelude.{◌==◌, ◌&&◌, not, ℕ, ◌-◌, Bool, false, List, [], ◌∷◌, length, drop, Option, Some, None, codes, if◌then◌else◌, bytes_eq}
use Rattle.std.specs.Option.{option_and_then}
use Rattle.tl_base.specs.declared.place.ModuleKind.{ModuleKind}
use Rattle.tl_base.specs.declared.place.ModuleKind.TheVariants.{Typed, Untyped}

-- a text as its bytes
abbrev pub Text : Type 0
Text = List ℕ

abbrev pub is_option : Text → Bool
is_option [] = false
is_option (b ∷ bs) = b == 45

abbrev pub file_behind : Text → Text → Option Text
file_behind command file = if bytes_eq command (codes "run") && not (is_option file) then Some file else None

-- exactly `run FILE`, where FILE doesn't begin with `-`
abbrev pub file_to_run : List Text → Option Text
file_to_run [] = None
file_to_run (command ∷ []) = None
file_to_run (command ∷ file ∷ []) = file_behind command file
file_to_run (command ∷ file ∷ more ∷ rest) = None

abbrev pub ends_with : Text → Text → Bool
ends_with whole tail = bytes_eq tail (drop (length whole - length tail) whole)

-- `.tl` for a typed module, `.lua` for an untyped one
abbrev pub kind_of_word : Text → Option ModuleKind
kind_of_word file = if ends_with file (codes ".tl") then Some Typed else (if ends_with file (codes ".lua") then Some Untyped else None)

-- the kind of the module that the words ask for; None where they ask for no file that may be read
abbrev pub kind_to_read : List Text → Option ModuleKind
kind_to_read words = option_and_then kind_of_word (file_to_run words)
