-- What is found is what is defined.
use Rattle.std.proofs.Common.{◌≡◌, ℕ, Bool, true, false, List, [], ◌∷◌, ◌++◌, length, refl, ap, sym, ◌∙◌, subst, subst₂, ◌<◌}
use Rattle.tl_base.specs.declared.refusal.RefusalCode.{RefusalCode}
use Rattle.tl_base.specs.declared.refusal.RefusalCode.TheVariants as code
use Rattle.tl_base.specs.declared.place.Pos.{Pos}
use Rattle.tl_base.specs.declared.refusal.Refusal.{Refusal}
use Rattle.lua_lexer.specs.declared.lines.Spot.{Spot}
use Rattle.lua_lexer.specs.declared.token.Token.{Token}
use Rattle.lua_lexer.specs.declared.token.TokenKind.{TokenKind}
use Rattle.lua_lexer.specs.declared.token.TokenKind.TheVariants as kind
use Rattle.lua_lexer.specs.Letters.{Text, is_letter, is_quote}
use Rattle.lua_lexer.specs.Lines.{first_spot, spot_at, pos_at}
use Rattle.lua_lexer.specs.Numerals.{begins_numeral, is_hexadecimal}
use Rattle.lua_lexer.specs.Strings.{Ends, Reads, Spoils}
use Rattle.lua_lexer.specs.Pieces.{Class, Wordlike, Numeral, Short, Cut}
use Rattle.lua_lexer.specs.Tokens.{Skips, Means, Lexes, Faults, Refuses, token_at, Refused, most}
use Rattle.lua_lexer.specs.Finding.{made}
use Rattle.lua_lexer.specs.Reading.{behind_word, behind_numeral, NeverEnds, NoSign, IsCommentTest}
use Rattle.lua_lexer.proofs.Cuts.{cut_word, cut_numeral, cut_short, cut_unended, cut_comment, no_piece}
use Rattle.lua_lexer.proofs.Parts.{spoils_ends}

pub cut_word_at : {s t r : Text} (b : ℕ) → is_letter b ≡ true → s ≡ b ∷ t → r ≡ behind_word t → Cut Wordlike s r
cut_word_at {s = s} b l h e = subst (λ x. Cut Wordlike s x) (sym e) (cut_word b l h)

pub cut_numeral_at : {s t r : Text} (b : ℕ) (h : Bool) → h ≡ is_hexadecimal s → begins_numeral s ≡ true → s ≡ b ∷ t → r ≡ behind_numeral h b t → Cut Numeral s r
cut_numeral_at {s = s} {t = t} b h k l e f =
    let g = f ∙ ap (λ x. behind_numeral x b t) (k ∙ ap is_hexadecimal e) in
    subst (λ x. Cut Numeral s x) (sym g) (cut_numeral b (sym (ap begins_numeral e) ∙ l) e)

pub means_short : {s t out r : Text} (b : ℕ) → s ≡ b ∷ t → Reads b t out r → Means Short s r (kind.Str out)
means_short {out = out} {r = r} b h f = subst (λ x. Means Short x r (kind.Str out)) (sym h) (Means.short b f)

pub not_ended_at : {s t : Text} (b : ℕ) → is_quote b ≡ true → s ≡ b ∷ t → NeverEnds b t → Faults code.L2 s s
not_ended_at b l h out = Faults.not_ended (cut_unended b l h out)

pub bad_escape_at : {s t at r : Text} (b : ℕ) → is_quote b ≡ true → s ≡ b ∷ t → Spoils b t at → Ends b at r → Faults code.L3 s at
bad_escape_at {s = s} {t = t} {at = at} {r = r} b l h x f =
    let v = cut_short b l h (spoils_ends x f) in
    subst (λ y. Faults code.L3 y at) (sym h) (Faults.bad_escape b (subst (λ y. Cut Short y r) h v) x)

pub comment_fault : {s : Text} → IsCommentTest s true → Faults code.L2 s s
comment_fault k = Faults.not_ended (cut_comment k.1 k.2.2)

pub no_token : {s t : Text} (b : ℕ) → s ≡ b ∷ t → is_letter b ≡ false → begins_numeral s ≡ false → is_quote b ≡ false → NoSign s → Faults code.L1 s s
no_token {s = s} b h l m n g = subst (λ x. Faults code.L1 x x) (sym h) (Faults.bad_byte b (λ c r p. no_piece b refl l (sym (ap begins_numeral h) ∙ m) n (subst (λ x. NoSign x) h g) p))

-- ---- tokens with their places
pub made_is : (file : ℕ) (all from rest : Text) (kind : TokenKind) (spot : Spot) → spot ≡ spot_at all from → made file all spot kind from rest ≡ token_at file all kind from rest
made_is file all from rest kind spot e = ap (λ x. made file all x kind from rest) e

pub finish_at : {file : ℕ} {all rest : Text} (from : Text) (spot : Spot) → Skips rest from → from ≡ [] → spot ≡ spot_at all from → Lexes file all rest (made file all spot kind.End from from ∷ [])
finish_at {file = file} {all = all} {rest = rest} from spot k h e =
    subst (λ x. Lexes file all rest (x ∷ [])) (sym (made_is file all from from kind.End spot e))
    (subst (λ x. Lexes file all rest (token_at file all kind.End x x ∷ [])) (sym h) (Lexes.finish (subst (λ x. Skips rest x) h k)))

pub token_found : {file : ℕ} {all t from rest : Text} {c : Class} {kind : TokenKind} {ts : List Token} (spot : Spot) → Skips t from → Cut c from rest → Means c from rest kind → spot ≡ spot_at all from → Lexes file all rest ts → Lexes file all t (made file all spot kind from rest ∷ ts)
token_found {file = file} {all = all} {t = t} {from = from} {rest = rest} {kind = kind} {ts = ts} spot k u m e f = subst (λ x. Lexes file all t (x ∷ ts)) (sym (made_is file all from rest kind spot e)) (Lexes.token k u m f)

pub refusal_at : (file : ℕ) (all place : Text) (c : RefusalCode) (spot : Spot) → spot ≡ spot_at all place → ◌≡◌ {A = Refusal} (record { code = c; pos = record { «module» = file; line = spot.line; column = spot.column } }) (record { code = c; pos = pos_at file all place })
refusal_at file all place c spot e = ap (λ (x : Spot). record { code = c; pos = record { «module» = file; line = x.line; column = x.column } }) e

pub tokens_start : {file : ℕ} {all rest from : Text} {none : List Token} → none ≡ [] → rest ≡ from → (ts : List Token) → Lexes file all rest ts → Lexes file all from (none ++ ts)
tokens_start {file = file} {all = all} h e ts f = subst₂ (λ x y. Lexes file all x (y ++ ts)) e (sym h) f

pub faults_start : {rest from : Text} → rest ≡ from → (c : RefusalCode) (place : Text) → Refuses rest c place → Refuses from c place
faults_start e c place f = subst (λ x. Refuses x c place) e f

pub finish_made : {file : ℕ} {all rest : Text} {one : Token} (from : Text) (spot : Spot) → one ≡ made file all spot kind.End from from → Skips rest from → from ≡ [] → spot ≡ spot_at all from → Lexes file all rest (one ∷ [])
finish_made {file = file} {all = all} {rest = rest} from spot h k e g = subst (λ x. Lexes file all rest (x ∷ [])) (sym h) (finish_at from spot k e g)

pub token_made : {file : ℕ} {all t from rest : Text} {c : Class} {kind : TokenKind} {one : Token} (spot : Spot) → one ≡ made file all spot kind from rest → Skips t from → Cut c from rest → Means c from rest kind → spot ≡ spot_at all from → (ts : List Token) → Lexes file all rest ts → Lexes file all t (one ∷ ts)
token_made {file = file} {all = all} {t = t} spot h k u m e ts f = subst (λ x. Lexes file all t (x ∷ ts)) (sym h) (token_found spot k u m e f)

pub refusal_made : (file : ℕ) (all place : Text) (c : RefusalCode) (spot : Spot) (p : Pos) → p ≡ record { «module» = file; line = spot.line; column = spot.column } → spot ≡ spot_at all place → ◌≡◌ {A = Refusal} (record { code = c; pos = p }) (record { code = c; pos = pos_at file all place })
refusal_made file all place c spot p h e = ap (λ (x : Pos). record { code = c; pos = x }) h ∙ refusal_at file all place c spot e

pub long_made : (file : ℕ) (text : Text) (spot : Spot) (p : Pos) → p ≡ record { «module» = file; line = spot.line; column = spot.column } → spot ≡ first_spot → most < length text → Refused file text (record { code = code.L5; pos = p })
long_made file text spot p h e l =
    let k : p ≡ record { «module» = file; line = 1; column = 1 } = h ∙ ap (λ (x : Spot). record { «module» = file; line = x.line; column = x.column }) e in
    subst (λ (x : Pos). Refused file text (record { code = code.L5; pos = x })) (sym k) (Refused.too_long l)
