-- Steps of the arithmetic on integers.
use Rattle.std.proofs.Common.{◌≡◌, ℕ, zero, suc, ◌+◌, ◌-◌, ◌*◌, ◌/◌, ◌%◌, ◌^◌, ◌<◌, ◌≤◌, ℤ, pos, negsuc, refl, sym, ap, ◌∙◌, Some, arith, FitsSigned, unsigned_abs, lit<, false}
use lib.Signed.{lt_z}
use Rattle.std.specs.Int.{w64, int_wrap}
use Rattle.std.proofs.Math.Nat.{mul-mod_left, div-eq_of_lt, zero-div, div-le_self}
use Rattle.std.proofs.Math.Pow.{pow_mono}
use Rattle.std.proofs.lemmas.Nat.{pow-add}
use Rattle.std.proofs.lemmas.Int.{ints}
use Rattle.lua_values.specs.Integers.{word, bits_of, from_bits, quotient, moved_left, moved_right}

times_mod : (x w j : ℕ) → (x * 2 ^ (w + j)) % 2 ^ w ≡ 0
times_mod x w j =
    ap (λ p. (x * p) % 2 ^ w) (pow-add 2 w j) ∙ ap (λ m. m % 2 ^ w) (let e : x * (2 ^ w * 2 ^ j) ≡ (x * 2 ^ j) * 2 ^ w = omega arith in e) ∙ mul-mod_left (x * 2 ^ j) (2 ^ w)

pub moved_left-far : (a : ℤ) (k : ℕ) → 64 ≤ k → pos 0 ≡ moved_left a k
moved_left-far a k far =
    let split : k ≡ 64 + (k - 64) = omega arith in
    sym (ap (λ j. from_bits ((bits_of a * 2 ^ j) % 2 ^ 64)) split ∙ ap from_bits (times_mod (bits_of a) 64 (k - 64)))

below_word : (a : ℤ) → FitsSigned w64 a → bits_of a < 2 ^ 64
below_word a fits = omega (arith, ints)

pub moved_right-far : (a : ℤ) (k : ℕ) → FitsSigned w64 a → 64 ≤ k → pos 0 ≡ moved_right a k
moved_right-far a k fits far =
    let below = below_word a fits in
    let most : 2 ^ 64 ≤ 2 ^ k = pow_mono far in
    let small : bits_of a < 2 ^ k = omega arith in
    sym (ap from_bits (div-eq_of_lt small))

-- a number below 2 ^ 64 is wrapped by its bits
pub word-pos : (n : ℕ) → n < 2 ^ 64 → word (pos n) ≡ from_bits n
unfolding int_wrap
word-pos n small = ap from_bits (let e : n % 2 ^ 64 ≡ n = omega arith in e)

zero_quotient : (x y : ℕ) → x ≡ 0 → x / y ≡ 0
zero_quotient x y e = ap (λ n. n / y) e ∙ zero-div y

cong2 : (x x' y y' : ℕ) → x ≡ x' → y ≡ y' → x / y ≡ x' / y'
cong2 x x' y y' e f = cc

quotient-below : (x y : ℕ) → x < 2 ^ 64 → x / y < 2 ^ 64
quotient-below x y small = omega (arith, div-le_self x y)

not_above : (n : ℕ) → lt_z (pos 0) (pos (suc n)) ≡ false → ⊥
not_above n e = grind (arith, ints)

-- the quotient of two numbers that aren't above 0, by their sizes x and y
pub quotient-negatives : (a b r : ℤ) (x y : ℕ) → lt_z (pos 0) a ≡ false → lt_z (pos 0) b ≡ false → (b ≡ pos 0 → ⊥) → x ≡ unsigned_abs a → y ≡ unsigned_abs b → x < 2 ^ 64
    → r ≡ from_bits (x / y)
    → Some r ≡ quotient a b
quotient-negatives (pos zero) (negsuc n) r x y below_a below_b nonzero is_x is_y small is_r =
    ap Some (is_r ∙ ap from_bits (let e : x / y ≡ 0 = zero_quotient x y is_x in e) ∙ sym (word-pos 0 (lit< tt)))
quotient-negatives (negsuc m) (negsuc n) r x y below_a below_b nonzero is_x is_y small is_r =
    ap Some (is_r ∙ ap from_bits (cong2 x (suc m) y (suc n) is_x is_y) ∙ sym (word-pos (suc m / suc n) (quotient-below (suc m) (suc n) (let e : suc m < 2 ^ 64 = omega arith in e))))
quotient-negatives (pos (suc m)) b r x y below_a below_b nonzero is_x is_y small is_r = absurd (not_above m below_a)
quotient-negatives a (pos zero) r x y below_a below_b nonzero is_x is_y small is_r = absurd (nonzero refl)
quotient-negatives a (pos (suc n)) r x y below_a below_b nonzero is_x is_y small is_r = absurd (not_above n below_b)
