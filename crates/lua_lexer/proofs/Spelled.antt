-- Words and symbols are told apart by their spellings.
use Rattle.std.proofs.Common.{◌≡◌, ℕ, Bool, true, false, ◌&&◌, ◌==◌, if◌then◌else◌, List, [], ◌∷◌, Option, Some, None, refl, ap, sym, ◌∙◌, not, length, ◌++◌, ◌⊎◌, inl, inr}
use Rattle.lua_lexer.specs.Letters.{Text, is_letter, is_digit, is_quote}
use Rattle.lua_lexer.specs.Spellings.{letters, spelling}
use Rattle.lua_lexer.specs.declared.token.Symbol.{Symbol}
use Rattle.lua_lexer.specs.declared.token.Symbol.TheVariants as s
use Rattle.lua_lexer.specs.declared.token.Keyword.{Keyword}
use Rattle.lua_lexer.specs.declared.token.Keyword.TheVariants as k

abbrev pub same_text : Text → Text → Bool
same_text [] [] = true
same_text (a ∷ s) (b ∷ t) = (a == b) && same_text s t
same_text _ _ = false

abbrev pub among : List Keyword → Text → Option Keyword
among [] t = None
among (w ∷ ws) t = if same_text (letters w) t then Some w else among ws t

abbrev pub all_words : List Keyword
all_words = k.And ∷ k.Break ∷ k.Do ∷ k.Else ∷ k.Elseif ∷ k.End ∷ k.False ∷ k.For ∷ k.Function ∷ k.Goto ∷ k.If ∷ k.In ∷ k.Local ∷ k.Nil ∷ k.Not ∷ k.Or ∷ k.Repeat ∷ k.Return ∷ k.Then ∷ k.True ∷ k.Until ∷ k.While ∷ []

-- the word that is spelled so
abbrev pub word_of : Text → Option Keyword
word_of t = among all_words t

pub word_of-letters : (w : Keyword) → word_of (letters w) ≡ Some w
word_of-letters k.And = refl
word_of-letters k.Break = refl
word_of-letters k.Do = refl
word_of-letters k.Else = refl
word_of-letters k.Elseif = refl
word_of-letters k.End = refl
word_of-letters k.False = refl
word_of-letters k.For = refl
word_of-letters k.Function = refl
word_of-letters k.Goto = refl
word_of-letters k.If = refl
word_of-letters k.In = refl
word_of-letters k.Local = refl
word_of-letters k.Nil = refl
word_of-letters k.Not = refl
word_of-letters k.Or = refl
word_of-letters k.Repeat = refl
word_of-letters k.Return = refl
word_of-letters k.Then = refl
word_of-letters k.True = refl
word_of-letters k.Until = refl
word_of-letters k.While = refl

pub letters_once : (v w : Keyword) → letters v ≡ letters w → v ≡ w
letters_once v w h = let e : Some v ≡ Some w = sym (word_of-letters v) ∙ ap word_of h ∙ word_of-letters w in cc

-- the first byte of a symbol, and the bytes behind it
abbrev pub first : Text → ℕ
first [] = 0
first (b ∷ t) = b

abbrev pub behind_first : Text → Text
behind_first [] = []
behind_first (b ∷ t) = t

pub spelled : (y : Symbol) → spelling y ≡ first (spelling y) ∷ behind_first (spelling y)
spelled s.Plus = refl
spelled s.Minus = refl
spelled s.Star = refl
spelled s.Slash = refl
spelled s.Percent = refl
spelled s.Caret = refl
spelled s.Hash = refl
spelled s.Ampersand = refl
spelled s.Tilde = refl
spelled s.Pipe = refl
spelled s.ShiftLeft = refl
spelled s.ShiftRight = refl
spelled s.DoubleSlash = refl
spelled s.Equal = refl
spelled s.NotEqual = refl
spelled s.LessEqual = refl
spelled s.GreaterEqual = refl
spelled s.Less = refl
spelled s.Greater = refl
spelled s.Assign = refl
spelled s.OpenParen = refl
spelled s.CloseParen = refl
spelled s.OpenBrace = refl
spelled s.CloseBrace = refl
spelled s.OpenBracket = refl
spelled s.CloseBracket = refl
spelled s.DoubleColon = refl
spelled s.Semicolon = refl
spelled s.Colon = refl
spelled s.Comma = refl
spelled s.Dot = refl
spelled s.Concat = refl
spelled s.Dots = refl
spelled s.Question = refl
spelled s.Arrow = refl

pub spelling_not_empty : (y : Symbol) (t : Text) → spelling y ++ t ≡ [] → ⊥
spelling_not_empty y t h = let e = sym (ap (λ x. x ++ t) (spelled y)) ∙ h in cc

abbrev pub among_symbols : List Symbol → Text → Option Symbol
among_symbols [] t = None
among_symbols (y ∷ ys) t = if same_text (spelling y) t then Some y else among_symbols ys t

abbrev pub all_symbols : List Symbol
all_symbols = s.Plus ∷ s.Minus ∷ s.Star ∷ s.Slash ∷ s.Percent ∷ s.Caret ∷ s.Hash ∷ s.Ampersand ∷ s.Tilde ∷ s.Pipe ∷ s.ShiftLeft ∷ s.ShiftRight ∷ s.DoubleSlash ∷ s.Equal ∷ s.NotEqual ∷ s.LessEqual ∷ s.GreaterEqual ∷ s.Less ∷ s.Greater ∷ s.Assign ∷ s.OpenParen ∷ s.CloseParen ∷ s.OpenBrace ∷ s.CloseBrace ∷ s.OpenBracket ∷ s.CloseBracket ∷ s.DoubleColon ∷ s.Semicolon ∷ s.Colon ∷ s.Comma ∷ s.Dot ∷ s.Concat ∷ s.Dots ∷ s.Question ∷ s.Arrow ∷ []

-- the symbol that is spelled so
abbrev pub symbol_of : Text → Option Symbol
symbol_of t = among_symbols all_symbols t

pub symbol_of-spelling : (y : Symbol) → symbol_of (spelling y) ≡ Some y
symbol_of-spelling s.Plus = refl
symbol_of-spelling s.Minus = refl
symbol_of-spelling s.Star = refl
symbol_of-spelling s.Slash = refl
symbol_of-spelling s.Percent = refl
symbol_of-spelling s.Caret = refl
symbol_of-spelling s.Hash = refl
symbol_of-spelling s.Ampersand = refl
symbol_of-spelling s.Tilde = refl
symbol_of-spelling s.Pipe = refl
symbol_of-spelling s.ShiftLeft = refl
symbol_of-spelling s.ShiftRight = refl
symbol_of-spelling s.DoubleSlash = refl
symbol_of-spelling s.Equal = refl
symbol_of-spelling s.NotEqual = refl
symbol_of-spelling s.LessEqual = refl
symbol_of-spelling s.GreaterEqual = refl
symbol_of-spelling s.Less = refl
symbol_of-spelling s.Greater = refl
symbol_of-spelling s.Assign = refl
symbol_of-spelling s.OpenParen = refl
symbol_of-spelling s.CloseParen = refl
symbol_of-spelling s.OpenBrace = refl
symbol_of-spelling s.CloseBrace = refl
symbol_of-spelling s.OpenBracket = refl
symbol_of-spelling s.CloseBracket = refl
symbol_of-spelling s.DoubleColon = refl
symbol_of-spelling s.Semicolon = refl
symbol_of-spelling s.Colon = refl
symbol_of-spelling s.Comma = refl
symbol_of-spelling s.Dot = refl
symbol_of-spelling s.Concat = refl
symbol_of-spelling s.Dots = refl
symbol_of-spelling s.Question = refl
symbol_of-spelling s.Arrow = refl

pub spelling_once : (x y : Symbol) → spelling x ≡ spelling y → x ≡ y
spelling_once x y h = let e : Some x ≡ Some y = sym (symbol_of-spelling x) ∙ ap symbol_of h ∙ symbol_of-spelling y in cc

-- A symbol has one byte, or two, or it is three dots.
pub sized : (y : Symbol) → ((a : ℕ) × (spelling y ≡ a ∷ [])) ⊎ (((p : ℕ × ℕ) × (spelling y ≡ p.0 ∷ p.1 ∷ [])) ⊎ (y ≡ s.Dots))
sized s.Plus = inl (43, refl)
sized s.Minus = inl (45, refl)
sized s.Star = inl (42, refl)
sized s.Slash = inl (47, refl)
sized s.Percent = inl (37, refl)
sized s.Caret = inl (94, refl)
sized s.Hash = inl (35, refl)
sized s.Ampersand = inl (38, refl)
sized s.Tilde = inl (126, refl)
sized s.Pipe = inl (124, refl)
sized s.ShiftLeft = inr (inl ((60, 60), refl))
sized s.ShiftRight = inr (inl ((62, 62), refl))
sized s.DoubleSlash = inr (inl ((47, 47), refl))
sized s.Equal = inr (inl ((61, 61), refl))
sized s.NotEqual = inr (inl ((126, 61), refl))
sized s.LessEqual = inr (inl ((60, 61), refl))
sized s.GreaterEqual = inr (inl ((62, 61), refl))
sized s.Less = inl (60, refl)
sized s.Greater = inl (62, refl)
sized s.Assign = inl (61, refl)
sized s.OpenParen = inl (40, refl)
sized s.CloseParen = inl (41, refl)
sized s.OpenBrace = inl (123, refl)
sized s.CloseBrace = inl (125, refl)
sized s.OpenBracket = inl (91, refl)
sized s.CloseBracket = inl (93, refl)
sized s.DoubleColon = inr (inl ((58, 58), refl))
sized s.Semicolon = inl (59, refl)
sized s.Colon = inl (58, refl)
sized s.Comma = inl (44, refl)
sized s.Dot = inl (46, refl)
sized s.Concat = inr (inl ((46, 46), refl))
sized s.Dots = inr (inr refl)
sized s.Question = inl (63, refl)
sized s.Arrow = inr (inl ((45, 62), refl))

abbrev pub second : Text → ℕ
second (a ∷ b ∷ t) = b
second _ = 0

-- No symbol begins with what begins another token.
pub no_letter : (y : Symbol) → is_letter (first (spelling y)) ≡ false
no_letter s.Plus = refl
no_letter s.Minus = refl
no_letter s.Star = refl
no_letter s.Slash = refl
no_letter s.Percent = refl
no_letter s.Caret = refl
no_letter s.Hash = refl
no_letter s.Ampersand = refl
no_letter s.Tilde = refl
no_letter s.Pipe = refl
no_letter s.ShiftLeft = refl
no_letter s.ShiftRight = refl
no_letter s.DoubleSlash = refl
no_letter s.Equal = refl
no_letter s.NotEqual = refl
no_letter s.LessEqual = refl
no_letter s.GreaterEqual = refl
no_letter s.Less = refl
no_letter s.Greater = refl
no_letter s.Assign = refl
no_letter s.OpenParen = refl
no_letter s.CloseParen = refl
no_letter s.OpenBrace = refl
no_letter s.CloseBrace = refl
no_letter s.OpenBracket = refl
no_letter s.CloseBracket = refl
no_letter s.DoubleColon = refl
no_letter s.Semicolon = refl
no_letter s.Colon = refl
no_letter s.Comma = refl
no_letter s.Dot = refl
no_letter s.Concat = refl
no_letter s.Dots = refl
no_letter s.Question = refl
no_letter s.Arrow = refl

pub no_digit : (y : Symbol) → is_digit (first (spelling y)) ≡ false
no_digit s.Plus = refl
no_digit s.Minus = refl
no_digit s.Star = refl
no_digit s.Slash = refl
no_digit s.Percent = refl
no_digit s.Caret = refl
no_digit s.Hash = refl
no_digit s.Ampersand = refl
no_digit s.Tilde = refl
no_digit s.Pipe = refl
no_digit s.ShiftLeft = refl
no_digit s.ShiftRight = refl
no_digit s.DoubleSlash = refl
no_digit s.Equal = refl
no_digit s.NotEqual = refl
no_digit s.LessEqual = refl
no_digit s.GreaterEqual = refl
no_digit s.Less = refl
no_digit s.Greater = refl
no_digit s.Assign = refl
no_digit s.OpenParen = refl
no_digit s.CloseParen = refl
no_digit s.OpenBrace = refl
no_digit s.CloseBrace = refl
no_digit s.OpenBracket = refl
no_digit s.CloseBracket = refl
no_digit s.DoubleColon = refl
no_digit s.Semicolon = refl
no_digit s.Colon = refl
no_digit s.Comma = refl
no_digit s.Dot = refl
no_digit s.Concat = refl
no_digit s.Dots = refl
no_digit s.Question = refl
no_digit s.Arrow = refl

pub no_quote : (y : Symbol) → is_quote (first (spelling y)) ≡ false
no_quote s.Plus = refl
no_quote s.Minus = refl
no_quote s.Star = refl
no_quote s.Slash = refl
no_quote s.Percent = refl
no_quote s.Caret = refl
no_quote s.Hash = refl
no_quote s.Ampersand = refl
no_quote s.Tilde = refl
no_quote s.Pipe = refl
no_quote s.ShiftLeft = refl
no_quote s.ShiftRight = refl
no_quote s.DoubleSlash = refl
no_quote s.Equal = refl
no_quote s.NotEqual = refl
no_quote s.LessEqual = refl
no_quote s.GreaterEqual = refl
no_quote s.Less = refl
no_quote s.Greater = refl
no_quote s.Assign = refl
no_quote s.OpenParen = refl
no_quote s.CloseParen = refl
no_quote s.OpenBrace = refl
no_quote s.CloseBrace = refl
no_quote s.OpenBracket = refl
no_quote s.CloseBracket = refl
no_quote s.DoubleColon = refl
no_quote s.Semicolon = refl
no_quote s.Colon = refl
no_quote s.Comma = refl
no_quote s.Dot = refl
no_quote s.Concat = refl
no_quote s.Dots = refl
no_quote s.Question = refl
no_quote s.Arrow = refl

-- No symbol goes on with a digit.
pub no_second_digit : (y : Symbol) → is_digit (second (spelling y)) ≡ false
no_second_digit s.Plus = refl
no_second_digit s.Minus = refl
no_second_digit s.Star = refl
no_second_digit s.Slash = refl
no_second_digit s.Percent = refl
no_second_digit s.Caret = refl
no_second_digit s.Hash = refl
no_second_digit s.Ampersand = refl
no_second_digit s.Tilde = refl
no_second_digit s.Pipe = refl
no_second_digit s.ShiftLeft = refl
no_second_digit s.ShiftRight = refl
no_second_digit s.DoubleSlash = refl
no_second_digit s.Equal = refl
no_second_digit s.NotEqual = refl
no_second_digit s.LessEqual = refl
no_second_digit s.GreaterEqual = refl
no_second_digit s.Less = refl
no_second_digit s.Greater = refl
no_second_digit s.Assign = refl
no_second_digit s.OpenParen = refl
no_second_digit s.CloseParen = refl
no_second_digit s.OpenBrace = refl
no_second_digit s.CloseBrace = refl
no_second_digit s.OpenBracket = refl
no_second_digit s.CloseBracket = refl
no_second_digit s.DoubleColon = refl
no_second_digit s.Semicolon = refl
no_second_digit s.Colon = refl
no_second_digit s.Comma = refl
no_second_digit s.Dot = refl
no_second_digit s.Concat = refl
no_second_digit s.Dots = refl
no_second_digit s.Question = refl
no_second_digit s.Arrow = refl

-- No symbol of two bytes begins with `[`.
pub bracket_alone : (y : Symbol) → ((first (spelling y) == 91) && not (length (spelling y) == 1)) ≡ false
bracket_alone s.Plus = refl
bracket_alone s.Minus = refl
bracket_alone s.Star = refl
bracket_alone s.Slash = refl
bracket_alone s.Percent = refl
bracket_alone s.Caret = refl
bracket_alone s.Hash = refl
bracket_alone s.Ampersand = refl
bracket_alone s.Tilde = refl
bracket_alone s.Pipe = refl
bracket_alone s.ShiftLeft = refl
bracket_alone s.ShiftRight = refl
bracket_alone s.DoubleSlash = refl
bracket_alone s.Equal = refl
bracket_alone s.NotEqual = refl
bracket_alone s.LessEqual = refl
bracket_alone s.GreaterEqual = refl
bracket_alone s.Less = refl
bracket_alone s.Greater = refl
bracket_alone s.Assign = refl
bracket_alone s.OpenParen = refl
bracket_alone s.CloseParen = refl
bracket_alone s.OpenBrace = refl
bracket_alone s.CloseBrace = refl
bracket_alone s.OpenBracket = refl
bracket_alone s.CloseBracket = refl
bracket_alone s.DoubleColon = refl
bracket_alone s.Semicolon = refl
bracket_alone s.Colon = refl
bracket_alone s.Comma = refl
bracket_alone s.Dot = refl
bracket_alone s.Concat = refl
bracket_alone s.Dots = refl
bracket_alone s.Question = refl
bracket_alone s.Arrow = refl

-- the first byte of a text that a symbol begins
pub sign_first : (y : Symbol) (q : Text) {t u : Text} {b : ℕ} → t ≡ b ∷ u → t ≡ spelling y ++ q → b ≡ first (spelling y)
sign_first y q h e = let k = e ∙ ap (λ x. x ++ q) (spelled y) in cc
