-- What a text is cut into, whether or not a token is meant.
use Rattle.std.specs.Prelude.{◌≡◌, ℕ, ◌<◌, Bool, true, ◌⊎◌, ◌∷◌, ◌++◌, length}
use Rattle.lua_lexer.specs.Letters.{Text, is_letter, is_word_byte, is_quote}
use Rattle.lua_lexer.specs.Numerals.{begins_numeral, is_hexadecimal, in_numeral}
use Rattle.lua_lexer.specs.Strings.{Ends}
use Rattle.lua_lexer.specs.Brackets.{Opens, Closes}
use Rattle.lua_lexer.specs.Spellings.{spelling}
use Rattle.lua_lexer.specs.declared.token.Symbol.{Symbol}

-- the kinds of pieces; an opening is a quote, a long bracket or a comment with a long bracket that has begun
pub data Class : Type 0 where
  Wordlike : Class
  Numeral : Class
  Short : Class
  Long : Class
  Opening : Class
  Sign : Symbol → Class

-- bytes that go on a piece, each allowed behind the one before it, and what follows
pub data Follows (allowed : ℕ → ℕ → Bool) : ℕ → Text → Text → Type 0 where
  done : {t : Text} (last : ℕ) → Follows allowed last t t
  more : {t r : Text} (last b : ℕ) → allowed last b ≡ true → Follows allowed b t r → Follows allowed last (b ∷ t) r

abbrev pub in_word : ℕ → ℕ → Bool
in_word last b = is_word_byte b

-- A piece of the class stands at the front of the text, and the second text follows it.
pub data Piece : Class → Text → Text → Type 0 where
  word : {t r : Text} (b : ℕ) → is_letter b ≡ true → Follows in_word b t r → Piece Wordlike (b ∷ t) r
  numeral : {t r : Text} (b : ℕ) → begins_numeral (b ∷ t) ≡ true → Follows (in_numeral (is_hexadecimal (b ∷ t))) b t r → Piece Numeral (b ∷ t) r
  short : {t r : Text} (quote : ℕ) → is_quote quote ≡ true → Ends quote t r → Piece Short (quote ∷ t) r
  long : {t u bs r : Text} (level : ℕ) → Opens level t u → Closes level u bs r → Piece Long t r
  quote : {t : Text} (b : ℕ) → is_quote b ≡ true → Piece Opening (b ∷ t) t
  bracket : {t r : Text} (level : ℕ) → Opens level t r → Piece Opening t r
  comment : {t r : Text} (level : ℕ) → Opens level t r → Piece Opening (45 ∷ 45 ∷ t) r
  sign : {t r : Text} (s : Symbol) → t ≡ spelling s ++ r → Piece (Sign s) t r

-- Every piece that begins at a text's front is this one or shorter.
abbrev pub IsLongest : Class → Text → Text → Type 0
IsLongest c t r = (d : Class) (q : Text) → Piece d t q → ((d ≡ c) × (q ≡ r)) ⊎ (length r < length q)

-- the piece that a text is cut at
pub record Cut (c : Class) (t r : Text) : Type 0 where
  pub piece : Piece c t r
  pub longest : IsLongest c t r
