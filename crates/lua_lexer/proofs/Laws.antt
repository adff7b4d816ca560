-- A text has at most one list of tokens, at most one first refusal, and not both.
use Rattle.std.proofs.Common.{◌≡◌, ℕ, ◌<◌, true, ◌⊎◌, inl, inr, List, [], ◌∷◌, length, Some, None, refl, ap, ap₂, sym, ◌∙◌, subst, arith, Result, Ok, Err, IfOk, IfErr}
use Rattle.tl_base.specs.declared.refusal.RefusalCode.{RefusalCode}
use Rattle.lua_lexer.specs.declared.token.Token.{Token}
use Rattle.lua_lexer.specs.declared.token.TokenKind.{TokenKind}
use Rattle.lua_lexer.specs.declared.token.TokenKind.TheVariants as kind
use Rattle.lua_lexer.specs.Letters.{Text, is_quote}
use Rattle.lua_lexer.specs.Lines.{span, pos_at}
use Rattle.lua_lexer.specs.Numerals.{integer_of}
use Rattle.lua_lexer.specs.Strings.{Reads, Spoils}
use Rattle.lua_lexer.specs.Pieces.{Class, Numeral, Short, Opening, Piece, Cut}
use Rattle.lua_lexer.specs.Tokens.{Means, Lexes, Faults, Refuses, token_at, Lexed, Refused, IsFailure, IsTokens, IsRefusal}
use Rattle.tl_base.specs.declared.refusal.Refusal.{Refusal}
use Rattle.tl_base.specs.declared.refusal.Failure.{Failure}
use Rattle.tl_base.specs.declared.refusal.Failure.TheVariants as failure
use Rattle.lua_lexer.specs.Brackets.{Opens}
use Rattle.lua_lexer.proofs.Spelled.{letters_once, spelling_not_empty}
use Rattle.lua_lexer.proofs.Once.{skips_two, reads_two, spoils_two, reads_or_spoils, opens_two, closes_levels, meant_two}

cut_cases : {c d : Class} {r q : Text} → ((d ≡ c) × (q ≡ r)) ⊎ (length r < length q) → ((c ≡ d) × (r ≡ q)) ⊎ (length q < length r) → (d ≡ c) × (q ≡ r)
cut_cases (inl h) _ = h
cut_cases (inr h) (inl k) = (sym k.0, sym k.1)
cut_cases (inr h) (inr k) = absurd (omega arith)

pub cut_once : {c d : Class} {t r q : Text} → Cut c t r → Cut d t q → (d ≡ c) × (q ≡ r)
cut_once {c = c} {d = d} {t = t} {r = r} {q = q} a b = cut_cases (a.longest d q b.piece) (b.longest c r a.piece)

-- of one cut, at a text that is given in two ways
pub cuts_two : {c d : Class} {s t r q : Text} → s ≡ t → Cut c s r → Cut d t q → (d ≡ c) × (q ≡ r)
cuts_two {c = c} {r = r} e a b = cut_once (subst (λ x. Cut c x r) e a) b

-- the quotes of a short piece
short_quote : {c : Class} {t r : Text} (q : ℕ) → c ≡ Short → Piece c (q ∷ t) r → is_quote q ≡ true
short_quote q h (Piece.word b l f) = cc
short_quote q h (Piece.numeral b l f) = cc
short_quote q h (Piece.short b l f) = l
short_quote q h (Piece.long n o f) = cc
short_quote q h (Piece.quote b l) = cc
short_quote q h (Piece.bracket n o) = cc
short_quote q h (Piece.comment n o) = cc
short_quote q h (Piece.sign s e) = cc

shorts_two : {p q : ℕ} {s t out up r u : Text} → p ≡ q → is_quote p ≡ true → s ≡ t → Reads p s out r → Reads q t up u → (out ≡ up) × (r ≡ u)
shorts_two {t = t} {up = up} {u = u} e l h f g = reads_two l h f (subst (λ x. Reads x t up u) (sym e) g)

spoils_at : {p q : ℕ} {s t r u : Text} → p ≡ q → s ≡ t → Spoils p s r → Spoils q t u → r ≡ u
spoils_at {t = t} {u = u} e h f g = spoils_two h f (subst (λ x. Spoils x t u) (sym e) g)

spoils_not_read : {p q : ℕ} {s t out r u : Text} → p ≡ q → is_quote p ≡ true → s ≡ t → Reads p s out r → Spoils q t u → ⊥
spoils_not_read {t = t} {u = u} e l h f g = reads_or_spoils l h f (subst (λ x. Spoils x t u) (sym e) g)

pub means_two : {c d : Class} {s t r q : Text} {k l : TokenKind} → c ≡ d → s ≡ t → r ≡ q → Cut c s r → Means c s r k → Means d t q l → k ≡ l
means_two e h i u (Means.name f) (Means.name g) = refl
means_two e h i u (Means.name f) (Means.word w g) = absurd (f w (ap₂ span h i ∙ g))
means_two e h i u (Means.word w f) (Means.name g) = absurd (g w (ap₂ span (sym h) (sym i) ∙ f))
means_two e h i u (Means.word v f) (Means.word w g) = ap kind.Word (letters_once v w (sym f ∙ ap₂ span h i ∙ g))
means_two e h i u (Means.integer m f) (Means.integer n g) = let j : Some m ≡ Some n = sym f ∙ ap integer_of (ap₂ span h i) ∙ g in (let p : m ≡ n = cc in ap kind.Int p)
means_two e h i u (Means.short q f) (Means.short p g) = ap kind.Str (shorts_two (cc) (short_quote q refl u.piece) (cc) f g).0
means_two e h i u (Means.long m o f w) (Means.long n p g x) = let a = opens_two h o p in ap kind.Str (meant_two (closes_levels a.0 a.1 f g).0 w x)
means_two e h i u (Means.symbol a) (Means.symbol b) = let j : a ≡ b = cc in ap kind.Sym j
means_two e h i u a b = cc

means_not_opening : {c : Class} {t r : Text} {k : TokenKind} → c ≡ Opening → Means c t r k → ⊥
means_not_opening h (Means.name f) = cc
means_not_opening h (Means.word w f) = cc
means_not_opening h (Means.integer m f) = cc
means_not_opening h (Means.short q f) = cc
means_not_opening h (Means.long m o f w) = cc
means_not_opening h (Means.symbol a) = cc

means_not_spoiled : {c : Class} {s t r at : Text} {q : ℕ} {k : TokenKind} → c ≡ Short → Cut c s r → s ≡ q ∷ t → Means c s r k → Spoils q t at → ⊥
means_not_spoiled e u h (Means.name f) x = cc
means_not_spoiled e u h (Means.word w f) x = cc
means_not_spoiled e u h (Means.integer m f) x = cc
means_not_spoiled e u h (Means.short p f) x = spoils_not_read (cc) (short_quote p refl u.piece) (cc) f x
means_not_spoiled e u h (Means.long m o f w) x = cc
means_not_spoiled e u h (Means.symbol a) x = cc

means_not_none : {c : Class} {t r bs : Text} {k : TokenKind} → c ≡ Numeral → span t r ≡ bs → Means c t r k → integer_of bs ≡ None → ⊥
means_not_none e h (Means.name f) n = cc
means_not_none e h (Means.word w f) n = cc
means_not_none e h (Means.integer m f) n = let d : Some m ≡ None = sym f ∙ ap integer_of h ∙ n in cc
means_not_none e h (Means.short q f) n = cc
means_not_none e h (Means.long m o f w) n = cc
means_not_none e h (Means.symbol a) n = cc

-- tokens of equal parts are equal
tokens_alike : (file : ℕ) (all : Text) {k l : TokenKind} {s t r q : Text} {xs ys : List Token} → k ≡ l → s ≡ t → r ≡ q → xs ≡ ys → token_at file all k s r ∷ xs ≡ token_at file all l t q ∷ ys
tokens_alike file all {k = k} {t = t} {q = q} {xs = xs} e f g h = cc

-- A piece that means a token is no fault.
pub means_or_fault : {c : Class} {code : RefusalCode} {s t r place : Text} {k : TokenKind} → s ≡ t → Cut c s r → Means c s r k → Faults code t place → ⊥
means_or_fault {c = c} {r = r} h u m (Faults.bad_byte b f) = f c r (subst (λ x. Piece c x r) h u.piece)
means_or_fault h u m (Faults.not_ended v) = means_not_opening (sym (cuts_two h u v).0) m
means_or_fault h u m (Faults.bad_escape q v x) = let e = cuts_two h u v in means_not_spoiled (sym e.0) u h m x
means_or_fault h u m (Faults.bad_numeral v n) = let e = cuts_two h u v in means_not_none (sym e.0) (ap₂ span h (sym e.1)) m n

pub faults_two : {c d : RefusalCode} {s t p q : Text} → s ≡ t → Faults c s p → Faults d t q → (c ≡ d) × (p ≡ q)
faults_two h (Faults.bad_byte b f) (Faults.bad_byte e g) = (refl, h)
faults_two {t = t} h (Faults.bad_byte b f) (Faults.not_ended {r = r} v) = absurd (f Opening r (subst (λ x. Piece Opening x r) (sym h) v.piece))
faults_two h (Faults.bad_byte b f) (Faults.bad_escape {r = r} q v x) = absurd (f Short r (subst (λ x. Piece Short x r) (sym h) v.piece))
faults_two h (Faults.bad_byte b f) (Faults.bad_numeral {r = r} v n) = absurd (f Numeral r (subst (λ x. Piece Numeral x r) (sym h) v.piece))
faults_two h (Faults.not_ended {r = r} v) (Faults.bad_byte b f) = absurd (f Opening r (subst (λ x. Piece Opening x r) h v.piece))
faults_two h (Faults.bad_escape {r = r} q v x) (Faults.bad_byte b f) = absurd (f Short r (subst (λ x. Piece Short x r) h v.piece))
faults_two h (Faults.bad_numeral {r = r} v n) (Faults.bad_byte b f) = absurd (f Numeral r (subst (λ x. Piece Numeral x r) h v.piece))
faults_two h (Faults.not_ended v) (Faults.not_ended w) = (refl, h)
faults_two h (Faults.not_ended v) (Faults.bad_escape q w x) = let e : Short ≡ Opening = (cuts_two h v w).0 in cc
faults_two h (Faults.not_ended v) (Faults.bad_numeral w n) = let e : Numeral ≡ Opening = (cuts_two h v w).0 in cc
faults_two h (Faults.bad_escape q v x) (Faults.not_ended w) = let e : Opening ≡ Short = (cuts_two h v w).0 in cc
faults_two h (Faults.bad_escape q v x) (Faults.bad_escape p w y) = (refl, spoils_at (cc) (cc) x y)
faults_two h (Faults.bad_escape q v x) (Faults.bad_numeral w n) = let e : Numeral ≡ Short = (cuts_two h v w).0 in cc
faults_two h (Faults.bad_numeral v n) (Faults.not_ended w) = let e : Opening ≡ Numeral = (cuts_two h v w).0 in cc
faults_two h (Faults.bad_numeral v n) (Faults.bad_escape q w x) = let e : Short ≡ Numeral = (cuts_two h v w).0 in cc
faults_two h (Faults.bad_numeral v n) (Faults.bad_numeral w m) = (refl, h)

-- Nothing begins at the end of a text.
pub no_piece_at_end : {c : Class} {t r : Text} → t ≡ [] → Piece c t r → ⊥
no_piece_at_end h (Piece.word b l f) = cc
no_piece_at_end h (Piece.numeral b l f) = cc
no_piece_at_end h (Piece.short b l f) = cc
no_piece_at_end h (Piece.long n (Opens.opens o) f) = cc
no_piece_at_end h (Piece.quote b l) = cc
no_piece_at_end h (Piece.bracket n (Opens.opens o)) = cc
no_piece_at_end h (Piece.comment n o) = cc
no_piece_at_end {r = r} h (Piece.sign s e) = spelling_not_empty s r (sym e ∙ h)

pub no_fault_at_end : {c : RefusalCode} {t p : Text} → t ≡ [] → Faults c t p → ⊥
no_fault_at_end h (Faults.bad_byte b f) = cc
no_fault_at_end h (Faults.not_ended v) = no_piece_at_end h v.piece
no_fault_at_end h (Faults.bad_escape q v x) = cc
no_fault_at_end h (Faults.bad_numeral v n) = no_piece_at_end h v.piece

pub lexes_two : {file : ℕ} {all s t : Text} {xs ys : List Token} → s ≡ t → Lexes file all s xs → Lexes file all t ys → xs ≡ ys
lexes_two h (Lexes.finish f) (Lexes.finish g) = refl
lexes_two h (Lexes.finish f) (Lexes.token g v m w) = absurd (no_piece_at_end (sym (skips_two h f g)) v.piece)
lexes_two h (Lexes.token f u l v) (Lexes.finish g) = absurd (no_piece_at_end (skips_two h f g) u.piece)
lexes_two {file = file} {all = all} h (Lexes.token f u l v) (Lexes.token g w m x) =
    let e = skips_two h f g in
    let d = cuts_two e u w in
    let k = means_two (sym d.0) e (sym d.1) u l m in
    let ts = lexes_two (sym d.1) v x in
    tokens_alike file all k e (sym d.1) ts

pub refuses_two : {c d : RefusalCode} {s t p q : Text} → s ≡ t → Refuses s c p → Refuses t d q → (c ≡ d) × (p ≡ q)
refuses_two h (Refuses.here f x) (Refuses.here g y) = faults_two (skips_two h f g) x y
refuses_two h (Refuses.here f x) (Refuses.later g v m y) = absurd (means_or_fault (sym (skips_two h f g)) v m x)
refuses_two h (Refuses.later f u l x) (Refuses.here g y) = absurd (means_or_fault (skips_two h f g) u l y)
refuses_two h (Refuses.later f u l x) (Refuses.later g v m y) = refuses_two (sym (cuts_two (skips_two h f g) u v).1) x y

pub lexes_or_refuses : {file : ℕ} {all s t p : Text} {c : RefusalCode} {xs : List Token} → s ≡ t → Lexes file all s xs → Refuses t c p → ⊥
lexes_or_refuses h (Lexes.finish f) (Refuses.here g y) = no_fault_at_end (sym (skips_two h f g)) y
lexes_or_refuses h (Lexes.finish f) (Refuses.later g v m y) = no_piece_at_end (sym (skips_two h f g)) v.piece
lexes_or_refuses h (Lexes.token f u l v) (Refuses.here g y) = means_or_fault (skips_two h f g) u l y
lexes_or_refuses h (Lexes.token f u l v) (Refuses.later g w m y) = lexes_or_refuses (sym (cuts_two (skips_two h f g) u w).1) v y

pub lexed_once : {file : ℕ} {text : Text} {xs ys : List Token} → Lexed file text xs → Lexed file text ys → xs ≡ ys
lexed_once a b = lexes_two refl a.tokens b.tokens

pub lexed_or_refused : {file : ℕ} {text : Text} {xs : List Token} {r : Refusal} → Lexed file text xs → Refused file text r → ⊥
lexed_or_refused a (Refused.too_long h) = let k = a.fits in omega (arith, k, h)
lexed_or_refused a (Refused.fault h f) = lexes_or_refuses refl a.tokens f

pub refused_once : {file : ℕ} {text : Text} {q r : Refusal} → Refused file text q → Refused file text r → q ≡ r
refused_once (Refused.too_long h) (Refused.too_long k) = refl
refused_once (Refused.too_long h) (Refused.fault k g) = absurd (omega arith)
refused_once (Refused.fault h f) (Refused.too_long k) = absurd (omega arith)
refused_once {file = file} {text = text} (Refused.fault h f) (Refused.fault k g) = let e = refuses_two refl f g in ap₂ (λ x y. record { code = x; pos = pos_at file text y }) e.0 e.1

-- what is answered is what is defined
pub only_tokens : {file : ℕ} {text : Text} {ts : List Token} (r : Result (List Token) Failure) → IfOk r (λ us. Lexed file text us) → IfErr r (λ e. IsFailure file text e) → Lexed file text ts → IsTokens ts r
only_tokens (Ok us) h k l = lexed_once h l
only_tokens (Err failure.NoMemory) h k l = tt
only_tokens (Err (failure.Refused r)) h k l = lexed_or_refused l k

pub only_refusal : {file : ℕ} {text : Text} {q : Refusal} (r : Result (List Token) Failure) → IfOk r (λ us. Lexed file text us) → IfErr r (λ e. IsFailure file text e) → Refused file text q → IsRefusal q r
only_refusal (Ok us) h k f = lexed_or_refused h f
only_refusal (Err failure.NoMemory) h k f = tt
only_refusal (Err (failure.Refused r)) h k f = refused_once k f
