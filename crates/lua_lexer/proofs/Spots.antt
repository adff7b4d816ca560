-- Places move on with the text.
use Rattle.std.proofs.Common.{◌≡◌, ℕ, ◌+◌, ◌≤◌, Bool, true, false, [], ◌∷◌, ◌++◌, length, refl, ap, ap₂, sym, ◌∙◌, arith, if◌then◌else◌, append_assoc, length-append}
use Rattle.lua_lexer.specs.Letters.{Text, is_line_byte}
use Rattle.lua_lexer.specs.Lines.{span, one_on, further_on, first_spot, spot_at, completes}
use Rattle.lua_lexer.specs.Reading.{EndsWith}
use Rattle.lua_lexer.specs.declared.lines.Spot.{Spot}
use Rattle.lua_lexer.proofs.Fences.{span_pre}

further_append : (s : Spot) (x y : Text) → further_on s (x ++ y) ≡ further_on (further_on s x) y
further_append s [] y = refl
further_append s (b ∷ x) y = further_append (one_on s b) x y

-- the place of an end of an end
pub spot_moves : {all s r : Text} → EndsWith all s → EndsWith s r → further_on (spot_at all s) (span s r) ≡ spot_at all r
spot_moves {all = all} {s = s} {r = r} d e =
    let f : all ≡ (d.0 ++ e.0) ++ r = d.1 ∙ ap (λ x. d.0 ++ x) e.1 ∙ sym (append_assoc d.0 e.0 r) in
    ap₂ (λ x y. further_on (further_on first_spot x) y) (span_pre d.0 s d.1) (span_pre e.0 r e.1)
    ∙ sym (further_append first_spot d.0 e.0)
    ∙ ap (λ x. further_on first_spot x) (sym (span_pre (d.0 ++ e.0) r f))

abbrev Grown : Spot → ℕ → Spot → Type 0
Grown s n t = (t.line ≤ s.line + n) × (t.column ≤ s.column + n) × (1 ≤ t.column)

one_step : (c d : Bool) (s : Spot) (b : ℕ) → 1 ≤ s.column → Grown s 1 (if c then (if d then record { line = s.line; column = 1; half = 0 } else record { line = s.line + 1; column = 1; half = b }) else record { line = s.line; column = s.column + 1; half = 0 })
one_step true true s b h = (omega arith, omega arith, omega arith)
one_step true false s b h = (omega arith, omega arith, omega arith)
one_step false d s b h = (omega arith, omega arith, omega arith)

one_grown : (s : Spot) (b : ℕ) → 1 ≤ s.column → Grown s 1 (one_on s b)
one_grown s b h = one_step (is_line_byte b) (completes s.half b) s b h

further_grown : (s : Spot) (t : Text) → 1 ≤ s.column → Grown s (length t) (further_on s t)
further_grown s [] h = (omega arith, omega arith, h)
further_grown s (b ∷ t) h =
    let g = one_grown s b h in
    let k = further_grown (one_on s b) t g.2 in
    (omega (arith, g.0, k.0), omega (arith, g.1, k.1), k.2)

-- Lines and columns are bounded by the length of the text.
pub spot_bounded : {all s : Text} → EndsWith all s → (spot_at all s).line + length s ≤ 1 + length all
spot_bounded {all = all} {s = s} d =
    let g = further_grown first_spot (span all s) (omega arith) in
    let e = ap length (span_pre d.0 s d.1) in
    let h = ap length d.1 in
    omega (arith, g.0, e, h, length-append d.0 s)

pub column_bounded : {all s : Text} → EndsWith all s → (spot_at all s).column + length s ≤ 1 + length all
column_bounded {all = all} {s = s} d =
    let g = further_grown first_spot (span all s) (omega arith) in
    let e = ap length (span_pre d.0 s d.1) in
    let h = ap length d.1 in
    omega (arith, g.1, e, h, length-append d.0 s)
