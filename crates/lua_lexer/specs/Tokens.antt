-- The tokens of a text, and its first refusal.
use Rattle.std.specs.Prelude.{◌≡◌, ℕ, ◌-◌, ◌<◌, ◌≤◌, true, ℤ, Some, None, List, [], ◌∷◌, length, ◌==◌, if◌then◌else◌, Result, Ok, Err}
use Rattle.tl_base.specs.declared.refusal.Refusal.{Refusal}
use Rattle.tl_base.specs.declared.refusal.RefusalCode.{RefusalCode}
use Rattle.tl_base.specs.declared.refusal.RefusalCode.TheVariants as code
use Rattle.tl_base.specs.declared.refusal.Failure.{Failure}
use Rattle.tl_base.specs.declared.refusal.Failure.TheVariants as failure
use Rattle.lua_lexer.specs.declared.token.Keyword.{Keyword}
use Rattle.lua_lexer.specs.declared.token.Symbol.{Symbol}
use Rattle.lua_lexer.specs.declared.token.Token.{Token}
use Rattle.lua_lexer.specs.declared.token.TokenKind.{TokenKind}
use Rattle.lua_lexer.specs.declared.token.TokenKind.TheVariants as kind
use Rattle.lua_lexer.specs.Letters.{Text, is_blank}
use Rattle.lua_lexer.specs.Lines.{span, pos_at, to_line_end}
use Rattle.lua_lexer.specs.Numerals.{integer_of}
use Rattle.lua_lexer.specs.Strings.{Reads, Spoils}
use Rattle.lua_lexer.specs.Brackets.{Opens, Closes, Meant}
use Rattle.lua_lexer.specs.Spellings.{letters}
use Rattle.lua_lexer.specs.Pieces.{Class, Wordlike, Numeral, Short, Long, Opening, Sign, Piece, Cut}

-- White space or a comment at the front of a text, and what follows. A comment goes to the line's end, or where it opens a long
-- bracket to the bracket's end; without that end it is none.
pub data Separator : Text → Text → Type 0 where
  blank : {t : Text} (b : ℕ) → is_blank b ≡ true → Separator (b ∷ t) t
  line : {t : Text} → ((level : ℕ) (r : Text) → Opens level t r → ⊥) → Separator (45 ∷ 45 ∷ t) (to_line_end t)
  bracket : {t u bs r : Text} (level : ℕ) → Opens level t u → Closes level u bs r → Separator (45 ∷ 45 ∷ t) r

-- All separators at the front are left out.
pub data Skips : Text → Text → Type 0 where
  stop : {t : Text} → ((u : Text) → Separator t u → ⊥) → Skips t t
  further : {t u r : Text} → Separator t u → Skips u r → Skips t r

-- what a piece means, if it is a token's spelling
pub data Means : Class → Text → Text → TokenKind → Type 0 where
  name : {t r : Text} → ((w : Keyword) → span t r ≡ letters w → ⊥) → Means Wordlike t r kind.Name
  word : {t r : Text} (w : Keyword) → span t r ≡ letters w → Means Wordlike t r (kind.Word w)
  integer : {t r : Text} (n : ℤ) → integer_of (span t r) ≡ Some n → Means Numeral t r (kind.Int n)
  short : {t out r : Text} (quote : ℕ) → Reads quote t out r → Means Short (quote ∷ t) r (kind.Str out)
  long : {t u bs out r : Text} (level : ℕ) → Opens level t u → Closes level u bs r → Meant bs out → Means Long t r (kind.Str out)
  symbol : {t r : Text} (s : Symbol) → Means (Sign s) t r (kind.Sym s)

-- the token whose spelling begins where the second text does, and is followed by the third, in a whole text
abbrev pub token_at : ℕ → Text → TokenKind → Text → Text → Token
token_at file all kind from rest = record { kind = kind; start = length all - length from; end = length all - length rest; pos = pos_at file all from }

-- The tokens of the last part of a whole text. No separator begins at a token, and no longer piece.
pub data Lexes (file : ℕ) (all : Text) : Text → List Token → Type 0 where
  finish : {t : Text} → Skips t [] → Lexes file all t (token_at file all kind.End [] [] ∷ [])
  token : {t from rest : Text} {c : Class} {kind : TokenKind} {ts : List Token} → Skips t from → Cut c from rest → Means c from rest kind → Lexes file all rest ts → Lexes file all t (token_at file all kind from rest ∷ ts)

-- a fault at the front of a text: its code, and the text from its place on
pub data Faults : RefusalCode → Text → Text → Type 0 where
  bad_byte : {t : Text} (b : ℕ) → ((c : Class) (r : Text) → Piece c (b ∷ t) r → ⊥) → Faults code.L1 (b ∷ t) (b ∷ t)
  not_ended : {t r : Text} → Cut Opening t r → Faults code.L2 t t
  bad_escape : {t r at : Text} (quote : ℕ) → Cut Short (quote ∷ t) r → Spoils quote t at → Faults code.L3 (quote ∷ t) at
  bad_numeral : {t r : Text} → Cut Numeral t r → integer_of (span t r) ≡ None → Faults code.L4 t t

-- the first fault behind tokens: its code, and the text from its place on
pub data Refuses : Text → RefusalCode → Text → Type 0 where
  here : {t from place : Text} {code : RefusalCode} → Skips t from → Faults code from place → Refuses t code place
  later : {t from rest place : Text} {c : Class} {kind : TokenKind} {code : RefusalCode} → Skips t from → Cut c from rest → Means c from rest kind → Refuses rest code place → Refuses t code place

-- A first line that begins with `#` is left out.
abbrev pub body : Text → Text
body [] = []
body (b ∷ t) = if b == 35 then to_line_end (b ∷ t) else b ∷ t

-- the greatest length of a file
abbrev pub most : ℕ
most = 1048576

-- The tokens belong to the file's text.
pub record Lexed (file : ℕ) (text : Text) (ts : List Token) : Type 0 where
  pub fits : length text ≤ most
  pub tokens : Lexes file text (body text) ts

-- The file's text is refused with this code at this place: for its length, or else with its first fault.
pub data Refused (file : ℕ) (text : Text) : Refusal → Type 0 where
  too_long : most < length text → Refused file text (record { code = code.L5; pos = record { «module» = file; line = 1; column = 1 } })
  fault : {code : RefusalCode} {place : Text} → length text ≤ most → Refuses (body text) code place → Refused file text (record { code = code; pos = pos_at file text place })

-- what a stage's failure says: the text is refused so, or memory ran out
abbrev pub IsFailure : ℕ → Text → Failure → Type 0
IsFailure file text (failure.Refused r) = Refused file text r
IsFailure file text failure.NoMemory = Unit {0}

-- the answer is these tokens, or memory ran out
abbrev pub IsTokens : List Token → Result (List Token) Failure → Type 0
IsTokens ts (Ok us) = us ≡ ts
IsTokens ts (Err failure.NoMemory) = Unit {0}
IsTokens ts (Err (failure.Refused r)) = ⊥

-- the answer is this refusal, or memory ran out
abbrev pub IsRefusal : Refusal → Result (List Token) Failure → Type 0
IsRefusal r (Ok us) = ⊥
IsRefusal r (Err failure.NoMemory) = Unit {0}
IsRefusal r (Err (failure.Refused q)) = q ≡ r

-- From an offset on tokens are in order in a text of that length, none but the last is empty, and the last is `End` at the text's end.
pub data InOrder (all : ℕ) : ℕ → List Token → Type 0 where
  last : {from : ℕ} (t : Token) → from ≤ all → t.kind ≡ kind.End → t.start ≡ all → t.end ≡ all → InOrder all from (t ∷ [])
  next : {from : ℕ} {ts : List Token} (t : Token) → from ≤ t.start → t.start < t.end → InOrder all t.end ts → InOrder all from (t ∷ ts)
