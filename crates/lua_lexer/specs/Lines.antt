-- Line ends and places. LF, CR, CRLF and LFCR are one line end each.
use Rattle.std.specs.Prelude.{◌≡◌, ℕ, ◌+◌, ◌-◌, Bool, false, ◌&&◌, ◌||◌, not, ◌==◌, Option, Some, None, [], ◌∷◌, length, take, if◌then◌else◌}
use Rattle.tl_base.specs.declared.place.Pos.{Pos}
use Rattle.lua_lexer.specs.declared.lines.Spot.{Spot}
use Rattle.lua_lexer.specs.Letters.{Text, is_line_byte}

-- what follows a line end that has begun with this byte: a second byte of the other kind belongs to it
abbrev pub behind_line_byte : ℕ → Text → Text
behind_line_byte a [] = []
behind_line_byte a (b ∷ t) = if is_line_byte b && not (a == b) then t else b ∷ t

-- what follows the line end at the front, if one is there
abbrev pub behind_line_end : Text → Option Text
behind_line_end [] = None
behind_line_end (b ∷ t) = if is_line_byte b then Some (behind_line_byte b t) else None

-- the text from its first line end on
abbrev pub to_line_end : Text → Text
to_line_end [] = []
to_line_end (b ∷ t) = if is_line_byte b then b ∷ t else to_line_end t

-- the first place of a file
abbrev pub first_spot : Spot
first_spot = record { line = 1; column = 1; half = 0 }

-- whether the byte is the second one of a line end
abbrev pub completes : ℕ → ℕ → Bool
completes half b = (half == 13 && b == 10) || (half == 10 && b == 13)

-- the place one byte on
abbrev pub one_on : Spot → ℕ → Spot
one_on s b =
    if is_line_byte b then
    (if completes s.half b then record { line = s.line; column = 1; half = 0 } else record { line = s.line + 1; column = 1; half = b }) else
    record { line = s.line; column = s.column + 1; half = 0 }

-- the place behind these bytes
abbrev pub further_on : Spot → Text → Spot
further_on s [] = s
further_on s (b ∷ t) = further_on (one_on s b) t

-- the text before one of its ends
abbrev pub span : Text → Text → Text
span from rest = take (length from - length rest) from

-- the place in a whole text where this end of it begins: that of the text before it
abbrev pub spot_at : Text → Text → Spot
spot_at all from = further_on first_spot (span all from)

abbrev pub pos_at : ℕ → Text → Text → Pos
pos_at file all from = record { «module» = file; line = (spot_at all from).line; column = (spot_at all from).column }

-- From a line and column on, where the end of a text is: a line end begins a line, any other byte goes one column on.
pub data Reaches : ℕ → ℕ → Text → ℕ → ℕ → Type 0 where
  done : (l c : ℕ) → Reaches l c [] l c
  byte : {t : Text} {m d : ℕ} (l c b : ℕ) → is_line_byte b ≡ false → Reaches l (c + 1) t m d → Reaches l c (b ∷ t) m d
  line : {t u : Text} {m d : ℕ} (l c : ℕ) → behind_line_end t ≡ Some u → Reaches (l + 1) 1 u m d → Reaches l c t m d
