-- One turn of the counting of tokens.
use Rattle.std.proofs.Common.{◌≡◌, ℕ, suc, ◌+◌, ◌<◌, List, ◌∷◌, length, drop, get_or, sym, ap, ◌∙◌, arith}
use Rattle.std.proofs.Math.Seq.{drop-cons}
use Rattle.lua_lexer.specs.declared.token.Token.{Token}
use Rattle.lua_parser.specs.Words.{Word, words_of, word_of}
use Rattle.lua_parser.specs.Grammar.Depth.{Reached, word}
use Rattle.lua_parser.specs.declared.signs.Sign.{Sign}
use Rattle.lua_parser.specs.Counting.Count.{Count, at, meet, take, count}

pub item_seen : {A : Type 0} (xs : List A) (i : ℕ) (x : A) → i < length xs → x ≡ get_or xs i x → drop i xs ≡ x ∷ drop (i + 1) xs
item_seen xs i x h e = let more : suc i ≡ i + 1 = omega arith in drop-cons xs i x h ∙ ap (λ z. z ∷ drop (suc i) xs) (sym e) ∙ ap (λ n. x ∷ drop n xs) more

pub taken : (w : Word) (ss : List Sign) (h : ℕ) (r u : Reached) (m : Count) → at ss h r ≡ m → u ≡ word w r → at ss h u ≡ take w m
taken w ss h r u m f g = ap (λ z. at ss h z) g ∙ ap (take w) f

pub counted_on : (source : List ℕ) (ts us : List Token) (x : Token) (t v e : Count) → ts ≡ x ∷ us → count (words_of source ts) t ≡ e → v ≡ take (word_of source x) (meet t.expected t.height (word_of source x).kind t.reached) → count (words_of source us) v ≡ e
counted_on source ts us x t v e d f g = ap (count (words_of source us)) g ∙ ap (λ z. count (words_of source z) t) (sym d) ∙ f
