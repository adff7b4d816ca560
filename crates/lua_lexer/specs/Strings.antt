-- Short strings and their escapes (Lua 5.3 manual, 3.1).
use Rattle.std.specs.Prelude.{◌≡◌, ℕ, zero, suc, ◌+◌, ◌-◌, ◌*◌, ◌/◌, ◌%◌, Bool, true, ◌||◌, ◌&&◌, not, ◌==◌, nat_lt, nat_le, Option, Some, None, [], ◌∷◌, ◌++◌, if◌then◌else◌, option_map}
use Rattle.lua_lexer.specs.Letters.{Text, is_line_byte, is_blank, is_digit, is_hex_digit, hex_value}
use Rattle.lua_lexer.specs.Lines.{behind_line_byte}

-- Unicode's scheme UTF-8 for a code point up to 10FFFF, surrogates too
abbrev pub utf8 : ℕ → Text
utf8 c =
    if nat_lt c 128 then c ∷ [] else
    (if nat_lt c 2048 then (192 + c / 64) ∷ (128 + c % 64) ∷ [] else
    (if nat_lt c 65536 then (224 + c / 4096) ∷ (128 + c / 64 % 64) ∷ (128 + c % 64) ∷ [] else
    (240 + c / 262144) ∷ (128 + c / 4096 % 64) ∷ (128 + c / 64 % 64) ∷ (128 + c % 64) ∷ []))

-- the text behind the white space at its front
abbrev pub behind_blanks : Text → Text
behind_blanks [] = []
behind_blanks (b ∷ t) = if is_blank b then behind_blanks t else b ∷ t

-- `\a \b \f \n \r \t \v \\ \" \'` by the byte behind the backslash
abbrev pub letter_escape : ℕ → Option ℕ
letter_escape b =
    if b == 97 then Some 7 else
    (if b == 98 then Some 8 else
    (if b == 102 then Some 12 else
    (if b == 110 then Some 10 else
    (if b == 114 then Some 13 else
    (if b == 116 then Some 9 else
    (if b == 118 then Some 11 else
    (if b == 92 || b == 34 || b == 39 then Some b else None)))))))

-- `\xXX`
abbrev pub hex_escape : Text → Option (Text × Text)
hex_escape (a ∷ b ∷ t) = if is_hex_digit a && is_hex_digit b then Some ((16 * hex_value a + hex_value b) ∷ [], t) else None
hex_escape _ = None

-- so many more digits at most, behind digits of this value: the value, and what follows
abbrev pub digits_from : ℕ → ℕ → Text → ℕ × Text
digits_from zero v t = (v, t)
digits_from (suc more) v [] = (v, [])
digits_from (suc more) v (b ∷ t) = if is_digit b then digits_from more (10 * v + (b - 48)) t else (v, b ∷ t)

-- a byte of that value
abbrev pub byte_escape : ℕ × Text → Option (Text × Text)
byte_escape p = if nat_le p.0 255 then Some (p.0 ∷ [], p.1) else None

-- hexadecimal digits behind digits of this value, of together 10FFFF at most, and `}`
abbrev pub code_point_from : ℕ → Text → Option (ℕ × Text)
code_point_from v [] = None
code_point_from v (b ∷ t) =
    if b == 125 then Some (v, t) else
    (if is_hex_digit b && nat_le (16 * v + hex_value b) 1114111 then code_point_from (16 * v + hex_value b) t else None)

abbrev pub encoded : ℕ × Text → Text × Text
encoded p = (utf8 p.0, p.1)

-- `\u{X}`, with one digit at least
abbrev pub unicode_escape : Text → Option (Text × Text)
unicode_escape (a ∷ b ∷ t) = if a == 123 && is_hex_digit b then option_map encoded (code_point_from (hex_value b) t) else None
unicode_escape _ = None

abbrev pub one_byte : Text → ℕ → Text × Text
one_byte t c = (c ∷ [], t)

-- What a backslash before this text means, and what follows the escape. `None`: it is no good escape.
abbrev pub escape : Text → Option (Text × Text)
escape [] = None
escape (b ∷ t) =
    if b == 122 then Some ([], behind_blanks t) else
    (if b == 120 then hex_escape t else
    (if b == 117 then unicode_escape t else
    (if is_digit b then byte_escape (digits_from 2 (b - 48) t) else
    (if is_line_byte b then Some (10 ∷ [], behind_line_byte b t) else
    option_map (one_byte t) (letter_escape b)))))

-- a byte that stands for itself in a string with these quotes
abbrev pub is_plain : ℕ → ℕ → Bool
is_plain quote b = not (b == quote) && (not (b == 92) && not (is_line_byte b))

-- a good part of a string at the front of a text: the bytes that it means, and what follows
pub data Part (quote : ℕ) : Text → Text → Text → Type 0 where
  plain : {t : Text} (b : ℕ) → is_plain quote b ≡ true → Part quote (b ∷ t) (b ∷ []) t
  escaped : {t bs r : Text} → escape t ≡ Some (bs, r) → Part quote (92 ∷ t) bs r

-- From behind its opening quote, where a string ends: what follows its closing quote. A good escape counts whole, a bad one
-- as the backslash and one byte.
pub data Ends (quote : ℕ) : Text → Text → Type 0 where
  close : {t : Text} → Ends quote (quote ∷ t) t
  good : {t bs u r : Text} → Part quote t bs u → Ends quote u r → Ends quote t r
  bad : {t r : Text} (b : ℕ) → escape (b ∷ t) ≡ None → Ends quote t r → Ends quote (92 ∷ b ∷ t) r

-- what a string means, from behind its opening quote, and what follows its closing quote
pub data Reads (quote : ℕ) : Text → Text → Text → Type 0 where
  close : {t : Text} → Reads quote (quote ∷ t) [] t
  part : {t bs u out r : Text} → Part quote t bs u → Reads quote u out r → Reads quote t (bs ++ out) r

-- the first bad backslash of a string, from behind its opening quote
pub data Spoils (quote : ℕ) : Text → Text → Type 0 where
  here : {t : Text} → escape t ≡ None → Spoils quote (92 ∷ t) (92 ∷ t)
  later : {t bs u at : Text} → Part quote t bs u → Spoils quote u at → Spoils quote t at
