-- What the grammar sees of a token: what it is, with a name's text, and its place.
use Rattle.std.specs.Prelude.{ℕ, ℤ, List, ◌-◌, take, drop, map}
use Rattle.tl_base.specs.declared.place.Pos.{Pos}
use Rattle.lua_tree.specs.declared.annotation.Name.{Name}
use Rattle.lua_lexer.specs.declared.token.Keyword.{Keyword}
use Rattle.lua_lexer.specs.declared.token.Symbol.{Symbol}
use Rattle.lua_lexer.specs.declared.token.Token.{Token}
use Rattle.lua_lexer.specs.declared.token.TokenKind.{TokenKind}
use Rattle.lua_lexer.specs.declared.token.TokenKind.TheVariants as kind

-- what has one spelling: a keyword, a symbol or the end of the file
pub data Mark : Type 0 where
  key : Keyword → Mark
  sign : Symbol → Mark
  finish : Mark

pub data WordKind : Type 0 where
  mark : Mark → WordKind
  name : List ℕ → WordKind
  number : ℤ → WordKind
  text : List ℕ → WordKind

pub record Word : Type 0 where
  pub kind : WordKind
  pub pos : Pos

abbrev pub Words : Type 0
Words = List Word

abbrev pub marked : Mark → Pos → Word
marked m p = record { kind = WordKind.mark m; pos = p }

abbrev pub keyword : Keyword → Pos → Word
keyword w p = marked (Mark.key w) p

abbrev pub symbol : Symbol → Pos → Word
symbol s p = marked (Mark.sign s) p

abbrev pub end_of_file : Pos → Word
end_of_file p = marked Mark.finish p

-- A name's word is its text and its place.
abbrev pub named : Name → Word
named x = record { kind = WordKind.name x.text; pos = x.pos }

abbrev pub numeral : ℤ → Pos → Word
numeral n p = record { kind = WordKind.number n; pos = p }

abbrev pub quoted : List ℕ → Pos → Word
quoted t p = record { kind = WordKind.text t; pos = p }

-- the name with this text at this place
abbrev pub name_at : Pos → List ℕ → Name
name_at p t = record { pos = p; text = t }

-- the text of a token
abbrev pub slice_of : List ℕ → Token → List ℕ
slice_of source t = take (t.end - t.start) (drop t.start source)

abbrev pub kind_of : TokenKind → List ℕ → WordKind
kind_of (kind.Word w) t = WordKind.mark (Mark.key w)
kind_of kind.Name t = WordKind.name t
kind_of (kind.Int n) t = WordKind.number n
kind_of (kind.Str s) t = WordKind.text s
kind_of (kind.Sym s) t = WordKind.mark (Mark.sign s)
kind_of kind.End t = WordKind.mark Mark.finish

abbrev pub word_of : List ℕ → Token → Word
word_of source t = record { kind = kind_of t.kind (slice_of source t); pos = t.pos }

-- the words of the tokens of a source
abbrev pub words_of : List ℕ → List Token → Words
words_of source ts = map (word_of source) ts
