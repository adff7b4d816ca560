-- The laws of the arithmetic on integers.
use Rattle.std.proofs.Common.{◌≡◌, ℕ, zero, suc, ◌+◌, ◌*◌, ◌/◌, ◌%◌, ◌<◌, ℤ, pos, negsuc, ◌+ℤ◌, ◌*ℤ◌, ◌≤ℤ◌, ◌<ℤ◌, refl, sym, ap, None, arith, ◌≤◌, ◌-◌, ◌^◌, ⊎_elim, FitsSigned, ◌↔◌}
use Rattle.std.specs.Int.{w64, int_wrap}
use Rattle.std.proofs.lemmas.Int.{ints, int_wrap_fits, SFits-int_wrap}
use Rattle.std.proofs.lemmas.Bool.{cases_lt, le-ltb}
use mir.Val.{sel}
use Rattle.lua_values.specs.Integers.{word, from_bits, floor_div, floor_mod, quotient, remainder, shift_left, shift_right}
use Rattle.lua_values.specs.Laws.{DifferByWords}
use Rattle.lua_values.proofs.Words.{moved_left-far, moved_right-far}

-- a word is an integer of 64 bits, and such an integer is its own word
pub word-fits : (z : ℤ) → FitsSigned w64 (word z)
word-fits z = SFits-int_wrap w64 z

pub word-same : (z : ℤ) → FitsSigned w64 z → word z ≡ z
word-same z fits = int_wrap_fits w64 z fits

-- quotient times divisor plus remainder
pub quotient_and_remainder : (a b : ℤ) → (floor_div a b *ℤ b) +ℤ floor_mod a b ≡ a
quotient_and_remainder a b = omega (arith, ints)

split : (a b : ℕ) → 0 < b → (b * (a / b) + a % b ≡ a) × (a % b < b)
split a b h = (omega arith, omega arith)

-- the remainder lies between 0 and the divisor, which it never is
pub remainder-by_positive : (a b : ℤ) → pos 0 <ℤ b → (pos 0 ≤ℤ floor_mod a b) × (floor_mod a b <ℤ b)
remainder-by_positive (pos a) (pos b) above = let s = split a b (omega (arith, ints)) in (omega (arith, ints, s.0, s.1), omega (arith, ints, s.0, s.1))
remainder-by_positive (negsuc a) (pos b) above = let s = split a b (omega (arith, ints)) in (omega (arith, ints, s.0, s.1), omega (arith, ints, s.0, s.1))
remainder-by_positive a (negsuc b) above = absurd (omega (arith, ints))

pub remainder-by_negative : (a b : ℤ) → b <ℤ pos 0 → (b <ℤ floor_mod a b) × (floor_mod a b ≤ℤ pos 0)
remainder-by_negative (pos zero) (negsuc b) below = (omega (arith, ints), omega (arith, ints))
remainder-by_negative (pos (suc a)) (negsuc b) below = let s = split a (suc b) (omega arith) in (omega (arith, ints, s.0, s.1), omega (arith, ints, s.0, s.1))
remainder-by_negative (negsuc a) (negsuc b) below = let s = split (suc a) (suc b) (omega arith) in (omega (arith, ints, s.0, s.1), omega (arith, ints, s.0, s.1))
remainder-by_negative a (pos b) below = absurd (omega (arith, ints))

-- none exactly for a zero divisor
pub quotient-none : (a b : ℤ) → (quotient a b ≡ None) ↔ (b ≡ pos 0)
quotient-none a (pos zero) = (λ _. refl, λ _. refl)
quotient-none a (pos (suc b)) = (λ e. cc, λ e. cc)
quotient-none a (negsuc b) = (λ e. cc, λ e. cc)

pub remainder-none : (a b : ℤ) → (remainder a b ≡ None) ↔ (b ≡ pos 0)
remainder-none a (pos zero) = (λ _. refl, λ _. refl)
remainder-none a (pos (suc b)) = (λ e. cc, λ e. cc)
remainder-none a (negsuc b) = (λ e. cc, λ e. cc)

high_bits : (n : ℕ) → 2 ^ 63 ≤ n → from_bits n ≡ negsuc (2 ^ 64 - suc n)
high_bits n h = ap (λ b. sel b (pos n) (negsuc (2 ^ 64 - suc n))) (le-ltb n (2 ^ 63) h)

from_bits-differs : (n : ℕ) → n < 2 ^ 64 → (k : ℕ) × (pos n ≡ from_bits n +ℤ pos (k * 2 ^ 64))
from_bits-differs n small = ⊎_elim (λ below. (0, omega (arith, ints))) (λ above. let high : from_bits n ≡ negsuc (2 ^ 64 - suc n) = high_bits n above in (1, omega (arith, ints, high))) (cases_lt n (2 ^ 63))

-- so a word and its number do
pub word-differs : (z : ℤ) → DifferByWords z (word z)
unfolding int_wrap
word-differs (pos n) = let r = from_bits-differs (n % 2 ^ 64) (omega arith) in (0, n / 2 ^ 64 + r.0, omega (arith, ints, r.1))
word-differs (negsuc n) = let r = from_bits-differs (2 ^ 64 - 1 - n % 2 ^ 64) (omega arith) in (n / 2 ^ 64 + 1, r.0, omega (arith, ints, r.1))

-- 64 places or more leave no bit
pub shift_left-far : (a : ℤ) (k : ℕ) → 64 ≤ k → shift_left a (pos k) ≡ pos 0
shift_left-far a k far = sym (moved_left-far a k far)

pub shift_right-far : (a : ℤ) (k : ℕ) → FitsSigned w64 a → 64 ≤ k → shift_right a (pos k) ≡ pos 0
shift_right-far a k fits far = sym (moved_right-far a k fits far)

-- a negative amount shifts the other way
pub shift_left-negative : (a : ℤ) (k : ℕ) → shift_left a (negsuc k) ≡ shift_right a (pos (suc k))
shift_left-negative a k = refl

pub shift_right-negative : (a : ℤ) (k : ℕ) → shift_right a (negsuc k) ≡ shift_left a (pos (suc k))
shift_right-negative a k = refl
