-- Steps of reading a numeral.
use Rattle.std.proofs.Common.{◌≡◌, ℕ, ◌+◌, ◌*◌, ◌%◌, ◌^◌, ◌<◌, ◌≤◌, List, length, get_or, take, refl, sym, ap, ◌∙◌, true, false, pos, None, Some, cond, ◌&&◌, arith, nat_lt}
use Rattle.std.specs.Char.{digit_value}
use Rattle.std.specs.List.{list_all}
use Rattle.std.specs.Str.Parse.{digits_value}
use Rattle.std.proofs.lemmas.Int.Digits.{digits_value_more}
use Rattle.std.proofs.lemmas.Str.Parse.{digits_value-take-le}
use Rattle.std.proofs.lemmas.Bool.{le-ltb}
use Rattle.std.proofs.lemmas.Nat.{mul-mod_first}
use Rattle.std.proofs.Math.Nat.{mod-add-mod}
use Rattle.lua_values.specs.Numerals.{is_digit, whole, decimal_value}

-- the number of one digit more
pub digits_next : (base : ℕ) (bs : List ℕ) (i n d : ℕ) → n ≡ digits_value base (take i bs) → i < length bs → d ≡ digit_value (get_or bs i 0)
    → n * base + d ≡ digits_value base (take (i + 1) bs)
digits_next base bs i n d so_far h digit = ap (λ m. m * base + d) so_far ∙ ap (λ k. digits_value base (take i bs) * base + k) digit ∙ sym (digits_value_more base bs i h)

-- digits whose front is already too large
pub too_large : (bs : List ℕ) (i n : ℕ) → (nat_lt 0 (length bs) && list_all (is_digit 10) bs) ≡ true → n ≡ digits_value 10 (take i bs) → 2 ^ 63 ≤ n → None ≡ decimal_value (whole 10 bs)
too_large bs i n digits is large =
    let most : digits_value 10 (take i bs) ≤ digits_value 10 bs = digits_value-take-le 10 bs i (omega arith) in
    let above : nat_lt (digits_value 10 bs) (2 ^ 63) ≡ false = le-ltb (digits_value 10 bs) (2 ^ 63) (omega arith) in
    sym (ap (λ b. decimal_value (cond b (Some (digits_value 10 bs)) None)) digits ∙ ap (λ b. cond b (Some (pos (digits_value 10 bs))) None) above)

modulo_next : (m n d b : ℕ) → (n % m * b % m + d) % m ≡ (n * b + d) % m
modulo_next m n d b = ap (λ k. (k + d) % m) (mul-mod_first n b m) ∙ mod-add-mod (n * b) m d

-- the same modulo 2 ^ 64
pub hex_next : (bs : List ℕ) (i n d : ℕ) → n ≡ digits_value 16 (take i bs) % 2 ^ 64 → i < length bs → d ≡ digit_value (get_or bs i 0)
    → (n * 16 % 2 ^ 64 + d) % 2 ^ 64 ≡ digits_value 16 (take (i + 1) bs) % 2 ^ 64
hex_next bs i n d so_far h digit =
    ap (λ m. (m * 16 % 2 ^ 64 + d) % 2 ^ 64) so_far ∙ modulo_next (2 ^ 64) (digits_value 16 (take i bs)) d 16
    ∙ ap (λ m. m % 2 ^ 64) (digits_next 16 bs i (digits_value 16 (take i bs)) d refl h digit)
