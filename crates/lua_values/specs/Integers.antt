-- Arithmetic on integers of 64 bits (Lua 5.3 manual, sections 3.4.1 and 3.4.2), by that on whole numbers.
use Rattle.std.specs.Prelude.{ℕ, zero, suc, ◌*◌, ◌/◌, ◌%◌, ◌^◌, ℤ, pos, negsuc, ◌-ℤ◌, ◌*ℤ◌, Option, None, Some}
use Rattle.std.specs.Int.{w64, int_wrap, cast_signed, cast_unsigned}

-- the integer of 64 bits that differs from z by a multiple of 2 ^ 64
abbrev pub word : ℤ → ℤ
word z = int_wrap w64 z

-- the number below 2 ^ 64 with the bits of an integer, and back
abbrev pub bits_of : ℤ → ℕ
bits_of a = cast_unsigned w64 a

abbrev pub from_bits : ℕ → ℤ
from_bits n = cast_signed w64 n

-- the greatest whole number that isn't above a / b, for a b other than 0
abbrev pub floor_div : ℤ → ℤ → ℤ
floor_div (pos a) (pos b) = pos (a / b)
floor_div (negsuc a) (pos b) = negsuc (a / b)
floor_div (pos zero) (negsuc b) = pos 0
floor_div (pos (suc a)) (negsuc b) = negsuc (a / suc b)
floor_div (negsuc a) (negsuc b) = pos (suc a / suc b)

-- what is left of a then
abbrev pub floor_mod : ℤ → ℤ → ℤ
floor_mod a b = a -ℤ (floor_div a b *ℤ b)

-- `a // b`, none for b = 0
abbrev pub quotient : ℤ → ℤ → Option ℤ
quotient a (pos zero) = None
quotient a b = Some (word (floor_div a b))

-- `a % b`
abbrev pub remainder : ℤ → ℤ → Option ℤ
remainder a (pos zero) = None
remainder a b = Some (floor_mod a b)

-- the bits moved by k places, with zeros behind them
abbrev pub moved_left : ℤ → ℕ → ℤ
moved_left a k = from_bits ((bits_of a * 2 ^ k) % 2 ^ 64)

abbrev pub moved_right : ℤ → ℕ → ℤ
moved_right a k = from_bits (bits_of a / 2 ^ k)

-- `a << k` and `a >> k`
abbrev pub shift_left : ℤ → ℤ → ℤ
shift_left a (pos k) = moved_left a k
shift_left a (negsuc k) = moved_right a (suc k)

abbrev pub shift_right : ℤ → ℤ → ℤ
shift_right a (pos k) = moved_right a k
shift_right a (negsuc k) = moved_left a (suc k)
