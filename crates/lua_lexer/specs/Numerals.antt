-- Numerals (Lua 5.3 manual, 3.1 and 3.4.3).
use Rattle.std.specs.Prelude.{ℕ, ◌+◌, ◌-◌, ◌*◌, ◌%◌, ◌^◌, Bool, false, ◌||◌, ◌&&◌, ◌==◌, nat_lt, ℤ, pos, negsuc, Option, Some, None, [], ◌∷◌, if◌then◌else◌, option_map, option_and_then}
use Rattle.lua_lexer.specs.Letters.{Text, is_digit, is_word_byte, is_hex_digit, hex_value}

-- `0x` or `0X` is at the front
abbrev pub is_hexadecimal : Text → Bool
is_hexadecimal (a ∷ b ∷ t) = a == 48 && (b == 120 || b == 88)
is_hexadecimal _ = false

-- a digit is at the front
abbrev pub begins_with_digit : Text → Bool
begins_with_digit [] = false
begins_with_digit (b ∷ t) = is_digit b

-- A numeral begins with a digit, or with `.` before a digit.
abbrev pub begins_numeral : Text → Bool
begins_numeral [] = false
begins_numeral (b ∷ t) = is_digit b || (b == 46 && begins_with_digit t)

-- a sign goes on a numeral directly after this byte: `e` in a decimal, `p` in a hexadecimal one
abbrev pub is_exponent_mark : Bool → ℕ → Bool
is_exponent_mark hexadecimal b = if hexadecimal then (b == 112 || b == 80) else (b == 101 || b == 69)

-- Behind this last byte a numeral goes on with this one.
abbrev pub in_numeral : Bool → ℕ → ℕ → Bool
in_numeral hexadecimal last b = is_word_byte b || b == 46 || ((b == 43 || b == 45) && is_exponent_mark hexadecimal last)

-- the value of decimal digits behind digits of this value
abbrev pub decimal_value : ℕ → Text → Option ℕ
decimal_value v [] = Some v
decimal_value v (b ∷ t) = if is_digit b then decimal_value (10 * v + (b - 48)) t else None

-- the value of hexadecimal digits behind digits of this value
abbrev pub hexadecimal_value : ℕ → Text → Option ℕ
hexadecimal_value v [] = Some v
hexadecimal_value v (b ∷ t) = if is_hex_digit b then hexadecimal_value (16 * v + hex_value b) t else None

-- the integer of that value, up to the greatest integer of 64 bits
abbrev pub in_range : ℕ → Option ℤ
in_range n = if nat_lt n (2 ^ 63) then Some (pos n) else None

-- the integer of 64 bits in two's complement for a value below 2^64
abbrev pub two_complement : ℕ → ℤ
two_complement n = if nat_lt n (2 ^ 63) then pos n else negsuc (2 ^ 64 - 1 - n)

-- the integer of that value modulo 2^64
abbrev pub wrapped : ℕ → ℤ
wrapped n = two_complement (n % 2 ^ 64)

-- the integer of hexadecimal digits, of which there is one at least
abbrev pub digits_integer : Text → Option ℤ
digits_integer [] = None
digits_integer (b ∷ t) = option_map wrapped (hexadecimal_value 0 (b ∷ t))

-- the text without its first two bytes
abbrev pub behind_two : Text → Text
behind_two (a ∷ b ∷ t) = t
behind_two _ = []

-- the integer of a numeral, if it is an integer numeral
abbrev pub integer_of : Text → Option ℤ
integer_of bs = if is_hexadecimal bs then digits_integer (behind_two bs) else option_and_then in_range (decimal_value 0 bs)
