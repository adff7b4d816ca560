-- What follows a part of a text is an end of the text.
use Rattle.std.proofs.Common.{◌≡◌, ℕ, zero, suc, ◌+◌, ◌-◌, ◌*◌, ◌<◌, ◌≤◌, ◌⊎◌, inl, inr, ◌==◌, ◌&&◌, not, nat_le, Bool, true, false, [], ◌∷◌, ◌++◌, length, refl, ap, sym, ◌∙◌, arith, Option, Some, None, option_map, if◌then◌else◌, append_assoc, length-append}
use Rattle.tl_base.specs.declared.refusal.RefusalCode.{RefusalCode}
use Rattle.lua_lexer.specs.Letters.{Text, is_blank, is_digit, is_line_byte, is_hex_digit, hex_value}
use Rattle.lua_lexer.specs.Lines.{behind_line_byte, to_line_end}
use Rattle.lua_lexer.specs.Strings.{escape, behind_blanks, hex_escape, unicode_escape, byte_escape, digits_from, code_point_from, encoded, one_byte, letter_escape, Part, Ends, Spoils}
use Rattle.lua_lexer.specs.Brackets.{Fence, Opens, Shuts, Closes}
use Rattle.lua_lexer.specs.Spellings.{spelling}
use Rattle.lua_lexer.specs.Pieces.{Class, Piece, Follows}
use Rattle.lua_lexer.specs.Tokens.{Separator, Skips, Faults, body}
use Rattle.lua_lexer.specs.Reading.{EndsWith}
use Rattle.lua_lexer.proofs.Once.{pair_parts}
use Rattle.lua_lexer.proofs.Spelled.{behind_first, spelled}
use Rattle.lua_lexer.proofs.Shorter.{if_some, ends_shorter}
use Rattle.lua_lexer.proofs.Fences.{opens_shorter, closes_shorter}

pub here : (t : Text) → EndsWith t t
here t = ([], refl)

pub behind : (b : ℕ) {t r : Text} → EndsWith t r → EndsWith (b ∷ t) r
behind b e = (b ∷ e.0, ap (λ x. b ∷ x) e.1)

pub join : {t u r : Text} → EndsWith t u → EndsWith u r → EndsWith t r
join {r = r} d e = (d.0 ++ e.0, d.1 ∙ ap (λ x. d.0 ++ x) e.1 ∙ sym (append_assoc d.0 e.0 r))

pub tail_length : {t r : Text} → EndsWith t r → length r ≤ length t
tail_length {r = r} e = let h = ap length e.1 in omega (arith, h, length-append e.0 r)

either : {P Q : Type 0} {R : Type 0} → P ⊎ Q → (P → R) → (Q → R) → R
either (inl h) f g = f h
either (inr h) f g = g h

moved : {t : Text} {bs cs r u : Text} → ◌≡◌ {A = Option (Text × Text)} (Some (bs, r)) (Some (cs, u)) → EndsWith t r → EndsWith t u
moved {t = t} h e = (e.0, e.1 ∙ ap (λ x. e.0 ++ x) (pair_parts h).1)

none_some : {bs r : Text} → ◌≡◌ {A = Option (Text × Text)} None (Some (bs, r)) → ⊥
none_some h = cc

never : {bs r : Text} {P : Type 0} → ◌≡◌ {A = Option (Text × Text)} None (Some (bs, r)) → P
never h = absurd (none_some h)

if_tail : (c : Bool) {t x y : Text} → EndsWith t x → EndsWith t y → EndsWith t (if c then x else y)
if_tail true h k = h
if_tail false h k = k

blanks_tail : (t : Text) → EndsWith t (behind_blanks t)
blanks_tail [] = here []
blanks_tail (b ∷ t) = if_tail (is_blank b) (behind b (blanks_tail t)) (here (b ∷ t))

pub line_end_tail : (t : Text) → EndsWith t (to_line_end t)
line_end_tail [] = here []
line_end_tail (b ∷ t) = if_tail (is_line_byte b) (here (b ∷ t)) (behind b (line_end_tail t))

line_byte_tail : (a : ℕ) (t : Text) → EndsWith t (behind_line_byte a t)
line_byte_tail a [] = here []
line_byte_tail a (b ∷ t) = if_tail (is_line_byte b && not (a == b)) (behind b (here t)) (here (b ∷ t))

hex_tail : (t : Text) {bs r : Text} → hex_escape t ≡ Some (bs, r) → EndsWith t r
hex_tail [] h = never h
hex_tail (a ∷ []) h = never h
hex_tail (a ∷ b ∷ t) h = either (if_some (is_hex_digit a && is_hex_digit b) h) (λ k. moved k (behind a (behind b (here t)))) (λ k. never k)

digits_step : (c : Bool) (k v b : ℕ) (t : Text) → EndsWith t (digits_from k (10 * v + (b - 48)) t).1 → EndsWith (b ∷ t) (if c then digits_from k (10 * v + (b - 48)) t else (v, b ∷ t)).1
digits_step true k v b t h = behind b h
digits_step false k v b t h = here (b ∷ t)

digits_tail : (k v : ℕ) (t : Text) → EndsWith t (digits_from k v t).1
digits_tail zero v t = here t
digits_tail (suc k) v [] = here []
digits_tail (suc k) v (b ∷ t) = digits_step (is_digit b) k v b t (digits_tail k (10 * v + (b - 48)) t)

byte_tail : (p : ℕ × Text) {t bs r : Text} → EndsWith t p.1 → byte_escape p ≡ Some (bs, r) → EndsWith t r
byte_tail p l h = either (if_some (nat_le p.0 255) h) (λ k. moved k l) (λ k. never k)

point_tail : (v : ℕ) (t : Text) {p : ℕ × Text} → code_point_from v t ≡ Some p → EndsWith t p.1
point_tail v [] h = cc
point_tail v (b ∷ t) {p = p} h = either (if_some (b == 125) h) (λ k. let e : ◌≡◌ {A = ℕ × Text} (v, t) p = cc in (b ∷ [], ap (λ (x : ℕ × Text). b ∷ x.1) e)) (λ k. either (if_some (is_hex_digit b && nat_le (16 * v + hex_value b) 1114111) k) (λ m. behind b (point_tail (16 * v + hex_value b) t m)) (λ m. cc))

mapped_tail : (o : Option (ℕ × Text)) (t : Text) {bs r : Text} → ((p : ℕ × Text) → o ≡ Some p → EndsWith t p.1) → option_map encoded o ≡ Some (bs, r) → EndsWith t r
mapped_tail None t f h = never h
mapped_tail (Some p) t f h = moved h (f p refl)

unicode_tail : (t : Text) {bs r : Text} → unicode_escape t ≡ Some (bs, r) → EndsWith t r
unicode_tail [] h = never h
unicode_tail (a ∷ []) h = never h
unicode_tail (a ∷ b ∷ t) h = either (if_some (a == 123 && is_hex_digit b) h) (λ k. mapped_tail (code_point_from (hex_value b) t) (a ∷ b ∷ t) (λ p g. behind a (behind b (point_tail (hex_value b) t g))) k) (λ k. never k)

letter_tail : (o : Option ℕ) (t : Text) {bs r : Text} → option_map (one_byte t) o ≡ Some (bs, r) → EndsWith t r
letter_tail None t h = never h
letter_tail (Some c) t h = moved h (here t)

pub escape_tail : (t : Text) {bs r : Text} → escape t ≡ Some (bs, r) → EndsWith t r
escape_tail [] h = never h
escape_tail (b ∷ t) {r = r} h =
    behind b (
    either (if_some (b == 122) h) (λ k. moved k (blanks_tail t)) (λ h2.
    either (if_some (b == 120) h2) (λ k. hex_tail t k) (λ h3.
    either (if_some (b == 117) h3) (λ k. unicode_tail t k) (λ h4.
    either (if_some (is_digit b) h4) (λ k. byte_tail (digits_from 2 (b - 48) t) (digits_tail 2 (b - 48) t) k) (λ h5.
    either (if_some (is_line_byte b) h5) (λ k. moved k (line_byte_tail b t)) (λ k. letter_tail (letter_escape b) t k))))))

part_tail : {q : ℕ} {t bs r : Text} → Part q t bs r → EndsWith t r
part_tail (Part.plain {t = t} b l) = behind b (here t)
part_tail (Part.escaped {t = t} h) = behind 92 (escape_tail t h)

ends_tail : {q : ℕ} {t r : Text} → Ends q t r → EndsWith t r
ends_tail {q = q} (Ends.close {t = t}) = behind q (here t)
ends_tail (Ends.good p f) = join (part_tail p) (ends_tail f)
ends_tail (Ends.bad b n f) = behind 92 (behind b (ends_tail f))

spoils_tail : {q : ℕ} {t r : Text} → Spoils q t r → EndsWith t r
spoils_tail (Spoils.here {t = t} n) = here (92 ∷ t)
spoils_tail (Spoils.later p f) = join (part_tail p) (spoils_tail f)

fence_tail : {last n : ℕ} {t r : Text} → Fence last n t r → EndsWith t r
fence_tail {last = last} (Fence.done {t = t}) = behind last (here t)
fence_tail (Fence.more f) = behind 61 (fence_tail f)

opens_tail : {n : ℕ} {t r : Text} → Opens n t r → EndsWith t r
opens_tail (Opens.opens f) = behind 91 (fence_tail f)

closes_tail : {n : ℕ} {t bs r : Text} → Closes n t bs r → EndsWith t r
closes_tail (Closes.here (Shuts.shuts f)) = behind 93 (fence_tail f)
closes_tail (Closes.further b e f) = behind b (closes_tail f)

separator_tail : {t r : Text} → Separator t r → EndsWith t r
separator_tail (Separator.blank {t = t} b l) = behind b (here t)
separator_tail (Separator.line {t = t} e) = behind 45 (behind 45 (line_end_tail t))
separator_tail (Separator.bracket n o f) = behind 45 (behind 45 (join (opens_tail o) (closes_tail f)))

pub skips_tail : {t r : Text} → Skips t r → EndsWith t r
skips_tail (Skips.stop {t = t} f) = here t
skips_tail (Skips.further p f) = join (separator_tail p) (skips_tail f)

follows_tail : {p : ℕ → ℕ → Bool} {last : ℕ} {t r : Text} → Follows p last t r → EndsWith t r
follows_tail (Follows.done {t = t} last) = here t
follows_tail (Follows.more last b l f) = behind b (follows_tail f)

pub piece_tail : {c : Class} {t r : Text} → Piece c t r → EndsWith t r
piece_tail (Piece.word b l f) = behind b (follows_tail f)
piece_tail (Piece.numeral b l f) = behind b (follows_tail f)
piece_tail (Piece.short b l f) = behind b (ends_tail f)
piece_tail (Piece.long n o f) = join (opens_tail o) (closes_tail f)
piece_tail (Piece.quote {t = t} b l) = behind b (here t)
piece_tail (Piece.bracket n o) = opens_tail o
piece_tail (Piece.comment n o) = behind 45 (behind 45 (opens_tail o))
piece_tail (Piece.sign s e) = (spelling s, e)

pub faults_tail : {c : RefusalCode} {t r : Text} → Faults c t r → EndsWith t r
faults_tail (Faults.bad_byte {t = t} b f) = here (b ∷ t)
faults_tail (Faults.not_ended {t = t} v) = here t
faults_tail (Faults.bad_escape q v x) = behind q (spoils_tail x)
faults_tail (Faults.bad_numeral {t = t} v n) = here t

pub body_tail : (t : Text) → EndsWith t (body t)
body_tail [] = here []
body_tail (b ∷ t) = if_tail (b == 35) (line_end_tail (b ∷ t)) (here (b ∷ t))

pub piece_shorter : {c : Class} {t r : Text} → Piece c t r → length r < length t
piece_shorter (Piece.word b l f) = let k = tail_length (follows_tail f) in omega (arith, k)
piece_shorter (Piece.numeral b l f) = let k = tail_length (follows_tail f) in omega (arith, k)
piece_shorter (Piece.short b l f) = let k = ends_shorter f in omega (arith, k)
piece_shorter (Piece.long n o f) = let h = opens_shorter o in let k = closes_shorter f in omega (arith, h, k)
piece_shorter (Piece.quote b l) = omega arith
piece_shorter (Piece.bracket n o) = opens_shorter o
piece_shorter (Piece.comment n o) = let h = opens_shorter o in omega (arith, h)
piece_shorter {r = r} (Piece.sign s e) = let k = ap length (e ∙ ap (λ x. x ++ r) (spelled s)) in omega (arith, k, length-append (behind_first (spelling s)) r)
