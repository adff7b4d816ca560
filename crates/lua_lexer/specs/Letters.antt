-- The classes of bytes (Lua 5.3 manual, 3.1).
use Rattle.std.specs.Prelude.{ℕ, ◌-◌, Bool, List, ◌||◌, ◌&&◌, ◌==◌, nat_le, if◌then◌else◌}

abbrev pub Text : Type 0
Text = List ℕ

-- LF and CR
abbrev pub is_line_byte : ℕ → Bool
is_line_byte b = b == 10 || b == 13

-- white space: tab, LF, vertical tab, form feed, CR and space
abbrev pub is_blank : ℕ → Bool
is_blank b = (nat_le 9 b && nat_le b 13) || b == 32

abbrev pub is_digit : ℕ → Bool
is_digit b = nat_le 48 b && nat_le b 57

-- a letter or `_`, with which a name begins
abbrev pub is_letter : ℕ → Bool
is_letter b = (nat_le 97 b && nat_le b 122) || (nat_le 65 b && nat_le b 90) || b == 95

-- what a name goes on with
abbrev pub is_word_byte : ℕ → Bool
is_word_byte b = is_letter b || is_digit b

abbrev pub is_quote : ℕ → Bool
is_quote b = b == 34 || b == 39

abbrev pub is_hex_digit : ℕ → Bool
is_hex_digit b = is_digit b || (nat_le 97 b && nat_le b 102) || (nat_le 65 b && nat_le b 70)

-- what a hexadecimal digit stands for
abbrev pub hex_value : ℕ → ℕ
hex_value b = if is_digit b then b - 48 else (if nat_le 97 b then b - 87 else b - 55)
