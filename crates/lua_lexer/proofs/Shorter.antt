-- What follows an escape or a string is shorter than the text before it.
use Rattle.std.proofs.Common.{◌≡◌, ℕ, zero, suc, ◌+◌, ◌-◌, ◌*◌, ◌<◌, ◌≤◌, ◌⊎◌, inl, inr, ◌==◌, ◌&&◌, nat_le, Bool, true, false, [], ◌∷◌, length, refl, ap, arith, Option, Some, None, option_map, if◌then◌else◌}
use Rattle.lua_lexer.specs.Letters.{Text, is_blank, is_digit, is_line_byte, is_hex_digit, hex_value}
use Rattle.lua_lexer.specs.Strings.{escape, behind_blanks, hex_escape, unicode_escape, byte_escape, digits_from, code_point_from, encoded, one_byte, letter_escape, Part, Ends}
use Rattle.lua_lexer.proofs.Once.{pair_parts}
use Rattle.lua_lexer.proofs.Parts.{line_byte_shorter}

-- one of the two
pub if_some : {A : Type 0} (c : Bool) {x y : Option A} {z : A} → (if c then x else y) ≡ Some z → (x ≡ Some z) ⊎ (y ≡ Some z)
if_some true h = inl h
if_some false h = inr h

either_le : {P Q : Type 0} {m n : ℕ} → P ⊎ Q → (P → m ≤ n) → (Q → m ≤ n) → m ≤ n
either_le (inl h) f g = f h
either_le (inr h) f g = g h

to_le : {bs cs r u : Text} {n : ℕ} → ◌≡◌ {A = Option (Text × Text)} (Some (bs, r)) (Some (cs, u)) → length r ≤ n → length u ≤ n
to_le h k = let e = ap length (pair_parts h).1 in omega (arith, k, e)

if_le : (c : Bool) (x y : Text) {n : ℕ} → length x ≤ n → length y ≤ n → length (if c then x else y) ≤ n
if_le true x y h k = h
if_le false x y h k = k

blanks_shorter : (t : Text) → length (behind_blanks t) ≤ length t
blanks_shorter [] = omega arith
blanks_shorter (b ∷ t) = let h = blanks_shorter t in if_le (is_blank b) (behind_blanks t) (b ∷ t) (omega arith) (omega arith)

none_le : {bs r : Text} {n : ℕ} → ◌≡◌ {A = Option (Text × Text)} None (Some (bs, r)) → length r ≤ n
none_le h = cc

hex_shorter : (t : Text) {bs r : Text} → hex_escape t ≡ Some (bs, r) → length r ≤ length t
hex_shorter [] h = cc
hex_shorter (a ∷ []) h = cc
hex_shorter (a ∷ b ∷ t) h = either_le (if_some (is_hex_digit a && is_hex_digit b) h) (λ k. to_le k (omega arith)) (λ k. none_le k)

digits_step : (c : Bool) (k v b : ℕ) (t : Text) → length (digits_from k (10 * v + (b - 48)) t).1 ≤ length t → length (if c then digits_from k (10 * v + (b - 48)) t else (v, b ∷ t)).1 ≤ length (b ∷ t)
digits_step true k v b t h = omega arith
digits_step false k v b t h = omega arith

digits_shorter : (k v : ℕ) (t : Text) → length (digits_from k v t).1 ≤ length t
digits_shorter zero v t = omega arith
digits_shorter (suc k) v [] = omega arith
digits_shorter (suc k) v (b ∷ t) = digits_step (is_digit b) k v b t (digits_shorter k (10 * v + (b - 48)) t)

byte_shorter : (p : ℕ × Text) {bs r : Text} {n : ℕ} → length p.1 ≤ n → byte_escape p ≡ Some (bs, r) → length r ≤ n
byte_shorter p l h = either_le (if_some (nat_le p.0 255) h) (λ k. to_le k l) (λ k. none_le k)

point_shorter : (v : ℕ) (t : Text) {p : ℕ × Text} → code_point_from v t ≡ Some p → length p.1 ≤ length t
point_shorter v [] h = cc
point_shorter v (b ∷ t) {p = p} h = either_le (if_some (b == 125) h) (λ k. let e : ◌≡◌ {A = ℕ × Text} (v, t) p = cc in let g = ap (λ (x : ℕ × Text). length x.1) e in omega (arith, g)) (λ k. either_le (if_some (is_hex_digit b && nat_le (16 * v + hex_value b) 1114111) k) (λ m. let g = point_shorter (16 * v + hex_value b) t m in omega (arith, g)) (λ m. cc))

mapped_shorter : (o : Option (ℕ × Text)) {bs r : Text} (n : ℕ) → ((p : ℕ × Text) → o ≡ Some p → length p.1 ≤ n) → option_map encoded o ≡ Some (bs, r) → length r ≤ n
mapped_shorter None n f h = cc
mapped_shorter (Some p) n f h = to_le h (f p refl)

unicode_shorter : (t : Text) {bs r : Text} → unicode_escape t ≡ Some (bs, r) → length r ≤ length t
unicode_shorter [] h = cc
unicode_shorter (a ∷ []) h = cc
unicode_shorter (a ∷ b ∷ t) h = either_le (if_some (a == 123 && is_hex_digit b) h) (λ k. mapped_shorter (code_point_from (hex_value b) t) (length (a ∷ b ∷ t)) (λ p g. let m = point_shorter (hex_value b) t g in omega (arith, m)) k) (λ k. none_le k)

letter_shorter : (o : Option ℕ) (t : Text) {bs r : Text} → option_map (one_byte t) o ≡ Some (bs, r) → length r ≤ length t
letter_shorter None t h = cc
letter_shorter (Some c) t h = to_le h (omega arith)

pub escape_shorter : (t : Text) {bs r : Text} → escape t ≡ Some (bs, r) → length r < length t
escape_shorter [] h = cc
escape_shorter (b ∷ t) {r = r} h =
    let g : length r ≤ length t =
    either_le (if_some (b == 122) h) (λ k. to_le k (blanks_shorter t)) (λ h2.
    either_le (if_some (b == 120) h2) (λ k. hex_shorter t k) (λ h3.
    either_le (if_some (b == 117) h3) (λ k. unicode_shorter t k) (λ h4.
    either_le (if_some (is_digit b) h4) (λ k. byte_shorter (digits_from 2 (b - 48) t) (digits_shorter 2 (b - 48) t) k) (λ h5.
    either_le (if_some (is_line_byte b) h5) (λ k. to_le k (line_byte_shorter b t)) (λ k. letter_shorter (letter_escape b) t k))))) in
    omega arith

pub part_shorter : {q : ℕ} {t bs r : Text} → Part q t bs r → length r < length t
part_shorter (Part.plain b l) = omega arith
part_shorter (Part.escaped {t = t} h) = let k = escape_shorter t h in omega arith

pub ends_shorter : {q : ℕ} {t r : Text} → Ends q t r → length r < length t
ends_shorter Ends.close = omega arith
ends_shorter (Ends.good p f) = let h = part_shorter p in let k = ends_shorter f in omega arith
ends_shorter (Ends.bad b n f) = let k = ends_shorter f in omega arith
