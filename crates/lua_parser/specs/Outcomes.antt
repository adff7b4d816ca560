-- What the calls that read a part say of the words before and behind it.
use Rattle.std.specs.Prelude.{◌≡◌, ℕ, ℤ, drop, Option, Some, None, Bool, true, false, List, [], ◌∷◌, Result, Ok, Err}
use Rattle.tl_base.specs.declared.place.Pos.{Pos}
use Rattle.lua_tree.specs.declared.annotation.Name.{Name}
use Rattle.lua_tree.specs.declared.syntax.UnaryOperator.{UnaryOperator}
use Rattle.lua_tree.specs.declared.syntax.UnaryOperator.TheVariants as u
use Rattle.lua_tree.specs.declared.syntax.BinaryOperator.{BinaryOperator}
use Rattle.lua_parser.specs.declared.cursor.Stop.{Stop}
use Rattle.lua_parser.specs.declared.cursor.Stop.TheVariants as stop
use Rattle.lua_lexer.specs.declared.token.Keyword.TheVariants as w
use Rattle.lua_lexer.specs.declared.token.Symbol.TheVariants as s
use Rattle.lua_parser.specs.declared.starters.Starter.{Starter}
use Rattle.lua_parser.specs.declared.starters.Starter.TheVariants as starts
use Rattle.lua_parser.specs.declared.starters.Start.TheVariants as start
use Rattle.lua_parser.specs.declared.starters.Opener.{Opener}
use Rattle.lua_parser.specs.declared.starters.Opener.TheVariants as openers
use Rattle.lua_parser.specs.declared.starters.Suffix.{Suffix}
use Rattle.lua_parser.specs.declared.starters.Suffix.TheVariants as suffixes
use Rattle.lua_parser.specs.Words.{Words, WordKind, Mark, mark, key, sign, marked, named, quoted}
use Rattle.lua_parser.specs.Machine.Steps.{is_mark, if_name, if_number, if_text, unary_at, binary_at}

-- whether the first word is this mark
abbrev pub head_is : Mark → Words → Bool
head_is m [] = false
head_is m (x ∷ ts) = is_mark m x.kind

-- the first word's place
abbrev pub head_pos : Words → Pos
head_pos [] = record { «module» = 0; line = 0; column = 0 }
head_pos (x ∷ ts) = x.pos

abbrev pub head_number : Words → Option ℤ
head_number [] = None
head_number (x ∷ ts) = if_number x.kind (λ n. Some n) None

abbrev pub head_name : Words → Option (List ℕ)
head_name [] = None
head_name (x ∷ ts) = if_name x.kind (λ n. Some n) None

abbrev pub head_text : Words → Option (List ℕ)
head_text [] = None
head_text (x ∷ ts) = if_text x.kind (λ n. Some n) None

-- whether the first word is a name, a numeral or a string
abbrev pub is_atom : WordKind → Bool
is_atom (WordKind.mark m) = false
is_atom k = true

abbrev pub head_atom : Words → Bool
head_atom [] = false
head_atom (x ∷ ts) = is_atom x.kind

abbrev pub head_unary : Words → Option UnaryOperator
head_unary [] = None
head_unary (x ∷ ts) = unary_at x.kind

abbrev pub head_binary : Words → Option BinaryOperator
head_binary [] = None
head_binary (x ∷ ts) = binary_at x.kind

-- The mark was the first word and is taken, or it isn't and nothing is taken.
abbrev pub Eats : Mark → Words → Bool → Words → Type 0
Eats m old true new = (p : Pos) × (old ≡ marked m p ∷ new)
Eats m old false new = (new ≡ old) × (head_is m old ≡ false)

abbrev pub Takes : Mark → Words → Result (Unit {0}) Stop → Words → Type 0
Takes m old (Ok u) new = (p : Pos) × (old ≡ marked m p ∷ new)
Takes m old (Err e) new = (e ≡ stop.Unexpected) × (new ≡ old) × (head_is m old ≡ false)

-- The first word was this text and is taken, or it is no text and nothing is taken; or memory ran out.
abbrev pub EatsText : Words → Result (Option (List ℕ)) Stop → Words → Type 0
EatsText old (Ok (Some x)) new = (p : Pos) × (old ≡ quoted x p ∷ new)
EatsText old (Ok None) new = (new ≡ old) × (head_text old ≡ None)
EatsText old (Err e) new = e ≡ stop.NoMemory

-- The first word was this name and is taken; or it is no name and nothing is taken; or memory ran out.
abbrev pub TakesName : Words → Result Name Stop → Words → Type 0
TakesName old (Ok x) new = old ≡ named x ∷ new
TakesName old (Err stop.Unexpected) new = (new ≡ old) × (head_name old ≡ None)
TakesName old (Err e) new = e ≡ stop.NoMemory

-- what an expression's first word is
abbrev pub starter_of : WordKind → Starter
starter_of (mark (key w.Nil)) = starts.Nil
starter_of (mark (key w.False)) = starts.False
starter_of (mark (key w.True)) = starts.True
starter_of (mark (sign s.Dots)) = starts.Dots
starter_of (mark (key w.Function)) = starts.Function
starter_of (mark (sign s.OpenParen)) = starts.OpenParen
starter_of (mark (sign s.OpenBrace)) = starts.OpenBrace
starter_of (mark (key w.Not)) = starts.Unary u.Not
starter_of (mark (sign s.Hash)) = starts.Unary u.Length
starter_of (mark (sign s.Minus)) = starts.Unary u.Negate
starter_of (mark (sign s.Tilde)) = starts.Unary u.BitNot
starter_of (WordKind.number n) = starts.Int n
starter_of (WordKind.text t) = starts.Text
starter_of (WordKind.name x) = starts.Name
starter_of k = starts.Other

abbrev pub head_starter : Words → Starter
head_starter [] = starts.Other
head_starter (x ∷ ts) = starter_of x.kind

-- The reading stops for another reason than that no spelling goes on.
abbrev pub IsOther : Stop → Type 0
IsOther stop.Unexpected = ⊥
IsOther e = Unit {0}

-- The first word is taken.
abbrev pub Passes : Words → Result (Unit {0}) Stop → Words → Type 0
Passes old (Ok u) new = new ≡ drop 1 old
Passes old (Err e) new = IsOther e

-- The mark was the first word and is taken, or it isn't and nothing is taken.
abbrev pub TakesMark : Mark → Words → Result Bool Stop → Words → Type 0
TakesMark m old (Ok true) new = (p : Pos) × (old ≡ marked m p ∷ new)
TakesMark m old (Ok false) new = (new ≡ old) × (head_is m old ≡ false)
TakesMark m old (Err e) new = IsOther e

-- The mark was the first word and is taken; or it isn't.
abbrev pub Needs : Mark → Words → Result (Unit {0}) Stop → Words → Type 0
Needs m old (Ok u) new = (p : Pos) × (old ≡ marked m p ∷ new)
Needs m old (Err stop.Unexpected) new = (new ≡ old) × (head_is m old ≡ false)
Needs m old (Err e) new = IsOther e

-- The first word was this name and is taken; or it is no name.
abbrev pub NeedsName : Words → Result Name Stop → Words → Type 0
NeedsName old (Ok x) new = old ≡ named x ∷ new
NeedsName old (Err stop.Unexpected) new = (new ≡ old) × (head_name old ≡ None)
NeedsName old (Err e) new = IsOther e

-- The first word was this text and is taken, or it is no text and nothing is taken.
abbrev pub TakesText : Words → Result (Option (List ℕ)) Stop → Words → Type 0
TakesText old (Ok (Some x)) new = (p : Pos) × (old ≡ quoted x p ∷ new) × (p ≡ head_pos old)
TakesText old (Ok None) new = (new ≡ old) × (head_text old ≡ None)
TakesText old (Err e) new = IsOther e

-- what a part of a prefix begins with
abbrev pub suffix_of : WordKind → Suffix
suffix_of (mark (sign s.Dot)) = suffixes.Dot
suffix_of (mark (sign s.OpenBracket)) = suffixes.OpenBracket
suffix_of (mark (sign s.Colon)) = suffixes.Colon
suffix_of (mark (sign s.OpenParen)) = suffixes.OpenParen
suffix_of (mark (sign s.OpenBrace)) = suffixes.OpenBrace
suffix_of (WordKind.text t) = suffixes.Text
suffix_of k = suffixes.Other

-- whether it is arguments that it begins
abbrev pub begins_arguments : Suffix → Bool
begins_arguments suffixes.OpenParen = true
begins_arguments suffixes.OpenBrace = true
begins_arguments suffixes.Text = true
begins_arguments x = false

abbrev pub head_suffix : Words → Suffix
head_suffix [] = suffixes.Other
head_suffix (x ∷ ts) = suffix_of x.kind

-- Nothing is taken.
abbrev pub Grows : Words → Result (Unit {0}) Stop → Words → Type 0
Grows old (Ok u) new = new ≡ old
Grows old (Err e) new = IsOther e

-- what a statement begins with
abbrev pub opener_of : WordKind → Opener
opener_of (mark (sign s.Semicolon)) = openers.Plain start.Semicolon
opener_of (mark (key w.Break)) = openers.Plain start.Break
opener_of (mark (key w.Do)) = openers.Plain start.Do
opener_of (mark (key w.While)) = openers.Plain start.While
opener_of (mark (key w.Repeat)) = openers.Plain start.Repeat
opener_of (mark (key w.If)) = openers.Plain start.If
opener_of (mark (key w.For)) = openers.Plain start.For
opener_of (mark (key w.Function)) = openers.Plain start.Function
opener_of (mark (key w.Local)) = openers.Plain start.Local
opener_of (mark (key w.Return)) = openers.Return
opener_of (mark (sign s.OpenParen)) = openers.OpenParen
opener_of (WordKind.name x) = openers.Name
opener_of k = openers.Other

abbrev pub head_opener : Words → Opener
head_opener [] = openers.Other
head_opener (x ∷ ts) = opener_of x.kind

-- whether the first word is a name
abbrev pub head_is_name : Words → Bool
head_is_name [] = false
head_is_name (x ∷ ts) = if_name x.kind (λ n. true) false

abbrev pub is_starter : Starter → Bool
is_starter starts.Other = false
is_starter x = true
