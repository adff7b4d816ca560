-- Integer numerals (Lua 5.3 manual, section 3.1).
use Rattle.std.specs.Prelude.{ℕ, ◌%◌, ◌^◌, nat_lt, nat_eq, Bool, cond, ◌&&◌, ◌||◌, List, drop, length, slice_index, ℤ, pos, Option, None, Some}
use Rattle.std.specs.Char.{digit_value}
use Rattle.std.specs.List.{list_all}
use Rattle.std.specs.Str.Parse.{digits_value}
use Rattle.lua_values.specs.Integers.{from_bits}

-- the byte is a digit of the base: letters of either case count on from 10
abbrev pub is_digit : ℕ → ℕ → Bool
is_digit base c = nat_lt (digit_value c) base

-- the number that digits write in the base; none where there is no byte, or one that is no digit
abbrev pub whole : ℕ → List ℕ → Option ℕ
whole base cs = cond (nat_lt 0 (length cs) && list_all (is_digit base) cs) (Some (digits_value base cs)) None

-- a decimal numeral writes at most 2 ^ 63 - 1
abbrev pub decimal_value : Option ℕ → Option ℤ
decimal_value None = None
decimal_value (Some n) = cond (nat_lt n (2 ^ 63)) (Some (pos n)) None

-- a hexadecimal numeral is read modulo 2 ^ 64
abbrev pub hex_value : Option ℕ → Option ℤ
hex_value None = None
hex_value (Some n) = Some (from_bits (n % 2 ^ 64))

-- the bytes begin with `0x` or `0X`
abbrev pub is_hex : List ℕ → Bool
is_hex cs = nat_lt 1 (length cs) && nat_eq (slice_index cs 0) 48 && (nat_eq (slice_index cs 1) 120 || nat_eq (slice_index cs 1) 88)

-- the integer that a numeral writes, none for bytes that are no integer numeral
abbrev pub numeral_value : List ℕ → Option ℤ
numeral_value cs = cond (is_hex cs) (hex_value (whole 16 (drop 2 cs))) (decimal_value (whole 10 cs))
