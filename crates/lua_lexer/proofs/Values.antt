-- Values of digits.
use Rattle.std.proofs.Common.{◌≡◌, ℕ, ◌+◌, ◌-◌, ◌*◌, ◌^◌, ◌≤◌, Bool, true, false, [], ◌∷◌, refl, ap, sym, ◌∙◌, arith, if◌then◌else◌, Option, None, option_and_then}
use Rattle.std.proofs.lemmas.Bool.Decides.{nat_tests}
use Rattle.lua_lexer.specs.Letters.{Text, is_digit}
use Rattle.lua_lexer.specs.Numerals.{decimal_value, in_range}

none_step : (c : Bool) (x : Option ℕ) → option_and_then in_range x ≡ None → option_and_then in_range (if c then x else None) ≡ None
none_step true x h = h
none_step false x h = refl

out_of_range : (v : ℕ) → 2 ^ 63 ≤ v → in_range v ≡ None
out_of_range v h = grind (arith, nat_tests)

-- A value that is out of range stays so.
too_large : (v : ℕ) (t : Text) → 2 ^ 63 ≤ v → option_and_then in_range (decimal_value v t) ≡ None
too_large v [] h = out_of_range v h
too_large v (b ∷ t) h = none_step (is_digit b) (decimal_value (10 * v + (b - 48)) t) (too_large (10 * v + (b - 48)) t (omega arith))

next_digit : (v b : ℕ) (t : Text) → is_digit b ≡ true → decimal_value v (b ∷ t) ≡ decimal_value (10 * v + (b - 48)) t
next_digit v b t h = rw h refl

-- a digit with which the value is out of range
pub past_range : (v b : ℕ) (t u : Text) {s : Text} → decimal_value v s ≡ decimal_value 0 u → s ≡ b ∷ t → is_digit b ≡ true → 2 ^ 63 ≤ 10 * v + (b - 48) → option_and_then in_range (decimal_value 0 u) ≡ None
past_range v b t u e h d l = ap (λ x. option_and_then in_range x) (sym e ∙ ap (λ x. decimal_value v x) h ∙ next_digit v b t d) ∙ too_large (10 * v + (b - 48)) t l
