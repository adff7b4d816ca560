-- Tokens are in order, and places count line ends.
use Rattle.std.proofs.Common.{◌≡◌, ℕ, ◌+◌, ◌-◌, ◌≤◌, ◌==◌, ◌&&◌, not, Bool, true, false, List, [], ◌∷◌, ◌++◌, length, refl, ap, ap₂, sym, ◌∙◌, subst, arith, if◌then◌else◌, Some, None}
use Rattle.std.proofs.lemmas.Bool.Decides.{nat_tests}
use Rattle.lua_lexer.specs.declared.lines.Spot.{Spot}
use Rattle.lua_lexer.specs.declared.token.Token.{Token}
use Rattle.lua_lexer.specs.Letters.{Text, is_line_byte}
use Rattle.lua_lexer.specs.Lines.{behind_line_byte, behind_line_end, completes, one_on, further_on, first_spot, pos_at, Reaches}
use Rattle.lua_lexer.specs.Tokens.{Lexes, Lexed, InOrder}
use Rattle.lua_lexer.specs.Reading.{EndsWith}
use Rattle.lua_lexer.proofs.Fences.{span_pre}
use Rattle.lua_lexer.proofs.Tails.{tail_length, skips_tail, piece_tail, piece_shorter, body_tail, join}

lexes_in_order : {file : ℕ} {all t : Text} {ts : List Token} (from : ℕ) → from ≤ length all - length t → EndsWith all t → Lexes file all t ts → InOrder (length all) from ts
lexes_in_order from l e (Lexes.finish k) = InOrder.last _ (omega arith) refl (omega arith) (omega arith)
lexes_in_order {all = all} from l e (Lexes.token {from = s} {rest = r} k u m f) =
    let h = tail_length (skips_tail k) in
    let g = tail_length e in
    let i = piece_shorter u.piece in
    InOrder.next _ (omega (arith, l, h)) (omega (arith, h, g, i)) (lexes_in_order (length all - length r) (omega arith) (join (join e (skips_tail k)) (piece_tail u.piece)) f)

pub in_order : {file : ℕ} {text : Text} {ts : List Token} → Lexed file text ts → InOrder (length text) 0 ts
in_order {text = text} a = lexes_in_order 0 (omega arith) (body_tail text) a.tokens

-- ---- places
line_completes : (a b : ℕ) → is_line_byte a ≡ true → (is_line_byte b && not (a == b)) ≡ true → (is_line_byte b ≡ true) × (completes a b ≡ true)
line_completes a b h k = (grind (arith, nat_tests), grind (arith, nat_tests))

line_apart : (a b : ℕ) → is_line_byte a ≡ true → (is_line_byte b && not (a == b)) ≡ false → is_line_byte b ≡ true → completes a b ≡ false
line_apart a b h k l = grind (arith, nat_tests)

-- where this place stands, whether or not its line end would go on
abbrev At : Spot → ℕ → ℕ → Type 0
At s m d = (s.line ≡ m) × (s.column ≡ d)

abbrev spot_of : ℕ → ℕ → ℕ → Spot
spot_of l c h = record { line = l; column = c; half = h }

one_joined : (l a b : ℕ) → is_line_byte b ≡ true → completes a b ≡ true → one_on (spot_of l 1 a) b ≡ spot_of l 1 0
one_joined l a b h k = rw h (rw k refl)

one_line : (l c a b : ℕ) → is_line_byte b ≡ true → completes a b ≡ false → one_on (spot_of l c a) b ≡ spot_of (l + 1) 1 b
one_line l c a b h k = rw h (rw k refl)

one_byte : (l c a b : ℕ) → is_line_byte b ≡ false → one_on (spot_of l c a) b ≡ spot_of l (c + 1) 0
one_byte l c a b h = rw h refl

-- the half line end before a byte that doesn't complete it makes no difference
one_same : (x : Bool) (l a b : ℕ) → is_line_byte a ≡ true → (is_line_byte b && not (a == b)) ≡ false → is_line_byte b ≡ x → one_on (spot_of l 1 0) b ≡ one_on (spot_of l 1 a) b
one_same true l a b h k e = one_line l 1 0 b e refl ∙ sym (one_line l 1 a b e (line_apart a b h k e))
one_same false l a b h k e = one_byte l 1 0 b e ∙ sym (one_byte l 1 a b e)

moved : {s t : Spot} (w : Text) {m d : ℕ} → s ≡ t → At (further_on s w) m d → At (further_on t w) m d
moved w {m = m} {d = d} e k = subst (λ x. At (further_on x w) m d) e k

reach_step : (x : Bool) (l a b : ℕ) (w : Text) {m d : ℕ} → is_line_byte a ≡ true → (is_line_byte b && not (a == b)) ≡ x → At (further_on (spot_of l 1 0) (if x then w else b ∷ w)) m d → At (further_on (spot_of l 1 a) (b ∷ w)) m d
reach_step true l a b w h e k = let g = line_completes a b h e in moved w (sym (one_joined l a b g.0 g.1)) k
reach_step false l a b w h e k = moved w (one_same (is_line_byte b) l a b h e refl) k

reach_line : (l a : ℕ) (v : Text) {m d : ℕ} → is_line_byte a ≡ true → At (further_on (spot_of l 1 0) (behind_line_byte a v)) m d → At (further_on (spot_of l 1 a) v) m d
reach_line l a [] h k = k
reach_line l a (b ∷ w) h k = reach_step (is_line_byte b && not (a == b)) l a b w h refl k

line_front : (x : Bool) (l c a : ℕ) (v : Text) {u : Text} {m d : ℕ} → is_line_byte a ≡ x → (if x then Some (behind_line_byte a v) else None) ≡ Some u → At (further_on (spot_of (l + 1) 1 0) u) m d → At (further_on (spot_of l c 0) (a ∷ v)) m d
line_front true l c a v {u = u} {m = m} {d = d} h e k =
    let g : u ≡ behind_line_byte a v = cc in
    moved v (sym (one_line l c 0 a h refl)) (reach_line (l + 1) a v h (subst (λ x. At (further_on (spot_of (l + 1) 1 0) x) m d) g k))
line_front false l c a v h e k = cc

reach_end : (t : Text) (l c : ℕ) {u : Text} {m d : ℕ} → behind_line_end t ≡ Some u → At (further_on (spot_of (l + 1) 1 0) u) m d → At (further_on (spot_of l c 0) t) m d
reach_end [] l c h k = cc
reach_end (a ∷ v) l c h k = line_front (is_line_byte a) l c a v refl h k

reaches_at : {l c m d : ℕ} {t : Text} → Reaches l c t m d → At (further_on (spot_of l c 0) t) m d
reaches_at (Reaches.done l c) = (refl, refl)
reaches_at (Reaches.byte {t = t} l c b h f) = moved t (sym (one_byte l c 0 b h)) (reaches_at f)
reaches_at (Reaches.line {t = t} l c h f) = reach_end t l c h (reaches_at f)

pub place_reached : (file : ℕ) (all before rest : Text) (l c : ℕ) → all ≡ before ++ rest → Reaches 1 1 before l c → pos_at file all rest ≡ record { «module» = file; line = l; column = c }
place_reached file all before rest l c h f =
    let e = ap (λ x. further_on first_spot x) (span_pre before rest h) in
    let k = reaches_at f in
    ap₂ (λ x y. record { «module» = file; line = x; column = y }) (ap (λ (x : Spot). x.line) e ∙ k.0) (ap (λ (x : Spot). x.column) e ∙ k.1)
