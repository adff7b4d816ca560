-- What the steps of reading a string find.
use Rattle.std.specs.Prelude.{◌≡◌, ℕ, ◌<◌, ◌≤◌, List, [], ◌∷◌, ◌++◌, Option, Some, None, length}
use denote.Ref.{Bor}
use Rattle.lua_lexer.specs.Letters.{Text}
use Rattle.lua_lexer.specs.Strings.{Part, Ends, Reads, Spoils}
use Rattle.lua_lexer.specs.Brackets.{Unified}
use Rattle.lua_lexer.specs.Reading.{NeverEnds}
use Rattle.lua_lexer.specs.declared.strings.Step.{Step}
use Rattle.lua_lexer.specs.declared.strings.Step.TheVariants as s
use Rattle.lua_lexer.specs.declared.strings.Decoded.{Decoded}
use Rattle.lua_lexer.specs.declared.strings.Decoded.TheVariants as d

abbrev pub IsStep : ℕ → Text → Text → Text → Step → Type 0
IsStep quote t old new (s.Part r) = (bs : Text) × Part quote t bs r.now × (new ≡ old ++ bs) × (length r.now < length t)
IsStep quote t old new (s.Closed r) = Reads quote t [] r.now × (new ≡ old)
IsStep quote t old new s.Spoiled = Spoils quote t t
IsStep quote t old new s.Broken = NeverEnds quote t
IsStep quote t old new s.NoMemory = Unit {0}

abbrev pub IsDecoded : ℕ → Text → Decoded → Type 0
IsDecoded quote t (d.Read out r) = Reads quote t out r.now
IsDecoded quote t (d.Spoiled r) = Spoils quote t r.now
IsDecoded quote t d.Broken = NeverEnds quote t
IsDecoded quote t d.NoMemory = Unit {0}

-- No closing quote is at the front.
abbrev pub IsNotEnded : ℕ → Text → Type 0
IsNotEnded quote t = (u : Text) → t ≡ quote ∷ u → ⊥

-- Behind a part of a string, the string ends where it ends from the part on; or it never does.
abbrev pub IsPast : ℕ → Text → Option (Bor (List ℕ)) → Type 0
IsPast quote t None = NeverEnds quote t
IsPast quote t (Some r) = ((u : Text) → Ends quote r.now u → Ends quote t u) × (NeverEnds quote r.now → NeverEnds quote t) × (length r.now < length t)

abbrev pub IsUnifiedStep : ℕ → Text → Text → Text → Text → Type 0
IsUnifiedStep b t old new r = (c : ℕ) × (new ≡ old ++ c ∷ []) × ((out : Text) → Unified r out → Unified (b ∷ t) (c ∷ out)) × (length r ≤ length t)
