-- Words that begin others, by their tokens.
use Rattle.std.proofs.Common.{◌≡◌, ℕ, suc, ◌+◌, ◌<◌, ◌≤◌, true, List, [], ◌∷◌, ◌++◌, length, take, drop, get_or, sym, ap, append_assoc, ◌∙◌, arith}
use Rattle.std.proofs.lemmas.List.{length-append, length-map, take-map, map-append, take-append-drop, length-take-le}
use Rattle.std.specs.Prelude.{nat_lt}
use Rattle.std.proofs.lemmas.Bool.Decides.{nat_tests}
use Rattle.std.proofs.Math.Seq.{take-append_seam, drop-cons}
use Rattle.lua_lexer.specs.declared.token.Token.{Token}
use Rattle.lua_parser.specs.Words.{Word, Words, words_of, word_of}

-- as many words as tokens
pub count_words : (source : List ℕ) (ts : List Token) → length (words_of source ts) ≡ length ts
count_words source ts = length-map ts (word_of source)

pub words_cut : (source : List ℕ) (n : ℕ) (ts : List Token) → words_of source ts ≡ words_of source (take n ts) ++ words_of source (drop n ts)
words_cut source n ts = ap (words_of source) (sym (take-append-drop n ts)) ∙ map-append (word_of source) (take n ts) (drop n ts)

-- the words before those that are left
pub front_is : (source : List ℕ) (ts : List Token) (front left : Words) (n : ℕ) → words_of source ts ≡ front ++ left → n + length left ≡ length ts → words_of source (take n ts) ≡ front
front_is source ts front left n e l =
    let a = ap (λ z. length z) e in
    let m : n ≡ length front = omega (arith, l, a, count_words source ts, length-append front left) in
    sym (take-map (word_of source) n ts) ∙ ap (λ z. take n z) e ∙ ap (λ z. take z (front ++ left)) m ∙ take-append_seam front left

-- the same with the first of those
pub front_and_one : (source : List ℕ) (ts : List Token) (front : Words) (x : Word) (us : Words) (n : ℕ) → words_of source ts ≡ front ++ x ∷ us → n + length us ≡ length ts → words_of source (take n ts) ≡ front ++ x ∷ []
front_and_one source ts front x us n e l = front_is source ts (front ++ x ∷ []) us n (e ∙ sym (append_assoc front (x ∷ []) us)) l

pub take_length : (source : List ℕ) (n : ℕ) (ts : List Token) → n ≤ length ts → length (words_of source (take n ts)) ≡ n
take_length source n ts l = count_words source (take n ts) ∙ length-take-le n ts l

pub within : (n m : ℕ) → true ≡ nat_lt n m → n < m
within n m e = grind (arith, nat_tests)

-- what was found at a number stands there
pub seen_at : {A : Type 0} (xs : List A) (i : ℕ) (x d : A) → i < length xs → x ≡ get_or xs i d → drop i xs ≡ x ∷ drop (i + 1) xs
seen_at xs i x d h e = let more : suc i ≡ i + 1 = omega arith in drop-cons xs i d h ∙ ap (λ z. z ∷ drop (suc i) xs) (sym e) ∙ ap (λ n. x ∷ drop n xs) more
