-- The piece that is found is the longest.
use Rattle.std.proofs.Common.{◌≡◌, ℕ, ◌+◌, ◌<◌, ◌≤◌, ◌⊎◌, inl, inr, ◌==◌, Bool, true, false, not, ◌&&◌, ◌||◌, [], ◌∷◌, ◌++◌, length, refl, ap, sym, ◌∙◌, subst, subst₂, arith, if◌then◌else◌}
use Rattle.std.proofs.lemmas.Bool.Decides.{nat_tests}
use Rattle.lua_lexer.specs.Letters.{Text, is_letter, is_digit, is_quote, is_word_byte}
use Rattle.lua_lexer.specs.Numerals.{begins_numeral, is_hexadecimal, in_numeral}
use Rattle.lua_lexer.specs.Strings.{Ends}
use Rattle.lua_lexer.specs.Brackets.{Fence, Opens, Closes}
use Rattle.lua_lexer.specs.Spellings.{spelling}
use Rattle.lua_lexer.specs.Pieces.{Class, Wordlike, Numeral, Short, Long, Opening, Sign, Piece, Cut, Follows, in_word}
use Rattle.lua_lexer.specs.Reading.{rest_of, behind_word, behind_numeral, SignAt, NoSign, NeverOpens, NeverCloses, NeverEnds}
use Rattle.lua_lexer.specs.declared.token.Symbol.{Symbol}
use Rattle.lua_lexer.specs.declared.token.Symbol.TheVariants as sy
use Rattle.lua_lexer.proofs.Spelled.{first, second, sized, sign_first, no_letter, no_digit, no_quote, no_second_digit, bracket_alone}
use Rattle.lua_lexer.proofs.Longest.{begun, dots_begun}
use Rattle.lua_lexer.proofs.Once.{opens_two, closes_levels, ends_two}
use Rattle.lua_lexer.proofs.Shorter.{ends_shorter}
use Rattle.lua_lexer.proofs.Fences.{never_closes_at, closes_shorter}

-- ---- bytes that go on a piece
rest_step : (c : Bool) (x b : ℕ) (p : ℕ → ℕ → Bool) (t : Text) → length (rest_of p b t) ≤ length t → length (if c then rest_of p b t else x ∷ t) ≤ length (x ∷ t)
rest_step true x b p t h = omega arith
rest_step false x b p t h = omega arith

pub rest_shorter : (p : ℕ → ℕ → Bool) (last : ℕ) (t : Text) → length (rest_of p last t) ≤ length t
rest_shorter p last [] = omega arith
rest_shorter p last (b ∷ t) = rest_step (p last b) b b p t (rest_shorter p b t)

follows_step : (c : Bool) (last b : ℕ) (p : ℕ → ℕ → Bool) (t : Text) → p last b ≡ c → Follows p b t (rest_of p b t) → Follows p last (b ∷ t) (if c then rest_of p b t else b ∷ t)
follows_step true last b p t h f = Follows.more last b h f
follows_step false last b p t h f = Follows.done last

pub rest_follows : (p : ℕ → ℕ → Bool) (last : ℕ) (t : Text) → Follows p last t (rest_of p last t)
rest_follows p last [] = Follows.done last
rest_follows p last (b ∷ t) = follows_step (p last b) last b p t refl (rest_follows p b t)

done_step : (c : Bool) (b : ℕ) (p : ℕ → ℕ → Bool) (t : Text) → length (rest_of p b t) ≤ length t → ((b ∷ t) ≡ (if c then rest_of p b t else b ∷ t)) ⊎ (length (if c then rest_of p b t else b ∷ t) < length (b ∷ t))
done_step true b p t h = inr (omega arith)
done_step false b p t h = inl refl

done_full : (p : ℕ → ℕ → Bool) (last : ℕ) (t : Text) → (t ≡ rest_of p last t) ⊎ (length (rest_of p last t) < length t)
done_full p last [] = inl refl
done_full p last (b ∷ t) = done_step (p last b) b p t (rest_shorter p b t)

rest_at : {x y q : Text} → x ≡ y → (q ≡ x) ⊎ (length x < length q) → (q ≡ y) ⊎ (length y < length q)
rest_at e (inl h) = inl (h ∙ e)
rest_at e (inr h) = let k = ap length e in inr (omega (arith, h, k))

pub rest_full : {p : ℕ → ℕ → Bool} {last : ℕ} {t q : Text} → Follows p last t q → (q ≡ rest_of p last t) ⊎ (length (rest_of p last t) < length q)
rest_full {p = p} (Follows.done {t = t} last) = done_full p last t
rest_full {p = p} (Follows.more {t = t} last b h f) = let e : rest_of p b t ≡ rest_of p last (b ∷ t) = rw h refl in rest_at e (rest_full f)

pub word_rest : (last : ℕ) (t : Text) → behind_word t ≡ rest_of in_word last t
word_rest last [] = refl
word_rest last (b ∷ t) = ap (λ x. if is_word_byte b then x else b ∷ t) (word_rest b t)

pub numeral_rest : (h : Bool) (last : ℕ) (t : Text) → behind_numeral h last t ≡ rest_of (in_numeral h) last t
numeral_rest h last [] = refl
numeral_rest h last (b ∷ t) = ap (λ x. if in_numeral h last b then x else b ∷ t) (numeral_rest h b t)

-- ---- first bytes that exclude each other
letter_numeral : (b : ℕ) (t : Text) → is_letter b ≡ true → begins_numeral (b ∷ t) ≡ true → ⊥
letter_numeral b t l h = grind (arith, nat_tests)

letter_quote : (b : ℕ) → is_letter b ≡ true → is_quote b ≡ true → ⊥
letter_quote b l h = grind (arith, nat_tests)

numeral_quote : (b : ℕ) (t : Text) → begins_numeral (b ∷ t) ≡ true → is_quote b ≡ true → ⊥
numeral_quote b t l h = grind (arith, nat_tests)

-- a test that holds of a byte, and not of another that is equal
pub differ : (p : ℕ → Bool) (a b : ℕ) → p a ≡ true → p b ≡ false → a ≡ b → ⊥
differ p a b h k e = let g : true ≡ false = sym h ∙ ap p e ∙ k in cc

pub numeral_not : (b : ℕ) (t : Text) (c : ℕ) → begins_numeral (b ∷ t) ≡ true → (is_digit c || c == 46) ≡ false → b ≡ c → ⊥
numeral_not b t c h k e = grind (arith, nat_tests)

carry : (p : ℕ → Bool) (a b : ℕ) → p a ≡ true → a ≡ b → p b ≡ true
carry p a b h e = sym (ap p e) ∙ h

carry_numeral : (a b : ℕ) (t u : Text) → begins_numeral (a ∷ t) ≡ true → a ∷ t ≡ b ∷ u → begins_numeral (b ∷ u) ≡ true
carry_numeral a b t u h e = sym (ap begins_numeral e) ∙ h

-- ---- words
word_full_at : {u v q x : Text} → behind_word u ≡ x → u ≡ v → (q ≡ x) ⊎ (length x < length q) → ((Wordlike ≡ Wordlike) × (q ≡ behind_word v)) ⊎ (length (behind_word v) < length q)
word_full_at e h (inl k) = inl (refl, k ∙ sym e ∙ ap behind_word h)
word_full_at e h (inr k) = let g = ap length (sym e ∙ ap behind_word h) in inr (omega (arith, k, g))

word_longest : {d : Class} {s t q : Text} (b : ℕ) → is_letter b ≡ true → s ≡ b ∷ t → Piece d s q → ((d ≡ Wordlike) × (q ≡ behind_word t)) ⊎ (length (behind_word t) < length q)
word_longest {t = t} b l h (Piece.word {t = u} c k f) = let g : u ≡ t = cc in word_full_at (word_rest c u) g (rest_full f)
word_longest {t = t} b l h (Piece.numeral {t = u} c k f) = absurd (letter_numeral b t l (carry_numeral c b u t k h))
word_longest b l h (Piece.short c k f) = absurd (letter_quote b l (carry is_quote c b k (cc)))
word_longest b l h (Piece.long n (Opens.opens o) f) = absurd (differ is_letter b 91 l refl (cc))
word_longest b l h (Piece.quote c k) = absurd (letter_quote b l (carry is_quote c b k (cc)))
word_longest b l h (Piece.bracket n (Opens.opens o)) = absurd (differ is_letter b 91 l refl (cc))
word_longest b l h (Piece.comment n o) = absurd (differ is_letter b 45 l refl (cc))
word_longest {q = q} b l h (Piece.sign y e) = absurd (differ is_letter b _ l (no_letter y) (sign_first y q h e))

pub cut_word : {s t : Text} (b : ℕ) → is_letter b ≡ true → s ≡ b ∷ t → Cut Wordlike s (behind_word t)
cut_word {s = s} {t = t} b l h = record {
  piece = subst₂ (λ x y. Piece Wordlike x y) (sym h) (sym (word_rest b t)) (Piece.word b l (rest_follows in_word b t));
  longest = λ d q p. word_longest b l h p;
}

-- ---- numerals
behind_same : (c b : ℕ) (u t : Text) → c ∷ u ≡ b ∷ t → behind_numeral (is_hexadecimal (c ∷ u)) c u ≡ behind_numeral (is_hexadecimal (b ∷ t)) b t
behind_same c b u t h = let e : c ≡ b = cc in let f : u ≡ t = cc in cc

numeral_moved : {x y q : Text} → x ≡ y → (q ≡ x) ⊎ (length x < length q) → ((Numeral ≡ Numeral) × (q ≡ y)) ⊎ (length y < length q)
numeral_moved e (inl k) = inl (refl, k ∙ e)
numeral_moved e (inr k) = let g = ap length e in inr (omega (arith, k, g))

numeral_full_at : {q : Text} (c b : ℕ) (u t : Text) → c ∷ u ≡ b ∷ t → (q ≡ rest_of (in_numeral (is_hexadecimal (c ∷ u))) c u) ⊎ (length (rest_of (in_numeral (is_hexadecimal (c ∷ u))) c u) < length q) → ((Numeral ≡ Numeral) × (q ≡ behind_numeral (is_hexadecimal (b ∷ t)) b t)) ⊎ (length (behind_numeral (is_hexadecimal (b ∷ t)) b t) < length q)
numeral_full_at c b u t h k = numeral_moved (sym (numeral_rest (is_hexadecimal (c ∷ u)) c u) ∙ behind_same c b u t h) k

dot_digit_of : (b c : ℕ) (t : Text) → begins_numeral (b ∷ c ∷ t) ≡ true → is_digit b ≡ false → (is_digit c ≡ true) × (b ≡ 46)
dot_digit_of b c t l h = (grind (arith, nat_tests), grind (arith, nat_tests))

dot_end_of : (b : ℕ) → begins_numeral (b ∷ []) ≡ true → is_digit b ≡ false → ⊥
dot_end_of b l h = grind (arith, nat_tests)

digit_allowed : (h : Bool) (b c : ℕ) → is_digit c ≡ true → in_numeral h b c ≡ true
digit_allowed h b c l = grind (arith, nat_tests)

dot_shorter_of : (h : Bool) (b c : ℕ) (t : Text) → in_numeral h b c ≡ true → length (behind_numeral h b (c ∷ t)) ≤ length t
dot_shorter_of h b c t l = let e : behind_numeral h b (c ∷ t) ≡ behind_numeral h c t = rw l refl in let f = ap length e in let g = ap length (numeral_rest h c t) in let k = rest_shorter (in_numeral h) c t in omega (arith, f, g, k)

dot_shorter : (y : Symbol) (b : ℕ) (t q : Text) → begins_numeral (b ∷ t) ≡ true → t ≡ q → b ≡ first (spelling y) → length (behind_numeral (is_hexadecimal (b ∷ t)) b t) < length q
dot_shorter y b [] q l h e = absurd (dot_end_of b l (ap is_digit e ∙ no_digit y))
dot_shorter y b (c ∷ t) q l h e =
    let k = dot_digit_of b c t l (ap is_digit e ∙ no_digit y) in
    let g = dot_shorter_of (is_hexadecimal (b ∷ c ∷ t)) b c t (digit_allowed (is_hexadecimal (b ∷ c ∷ t)) b c k.0) in
    let m = ap length h in
    omega (arith, g, m)

-- the second byte of a numeral that begins as a symbol does
dot_digit : (y : Symbol) (b c : ℕ) (t : Text) → begins_numeral (b ∷ c ∷ t) ≡ true → b ≡ first (spelling y) → (is_digit c ≡ true) × (b ≡ 46)
dot_digit y b c t l e = dot_digit_of b c t l (ap is_digit e ∙ no_digit y)

dot_second : (y : Symbol) (b c : ℕ) (t q : Text) → begins_numeral (b ∷ t) ≡ true → b ≡ first (spelling y) → t ≡ c ∷ q → second (spelling y) ≡ c → ⊥
dot_second y b c t q l e h k =
    let m = dot_digit y b c q (sym (ap (λ x. begins_numeral (b ∷ x)) h) ∙ l) e in
    let g : true ≡ false = sym m.0 ∙ ap is_digit (sym k) ∙ no_second_digit y in cc

-- A numeral has a second byte that no symbol has, or its first is none of a symbol.
numeral_sign : (y : Symbol) (q : Text) {s t : Text} (b : ℕ) → begins_numeral (b ∷ t) ≡ true → s ≡ b ∷ t → s ≡ spelling y ++ q → ((a : ℕ) × (spelling y ≡ a ∷ [])) ⊎ (((p : ℕ × ℕ) × (spelling y ≡ p.0 ∷ p.1 ∷ [])) ⊎ (y ≡ sy.Dots)) → length (behind_numeral (is_hexadecimal (b ∷ t)) b t) < length q
numeral_sign y q {t = t} b l h e (inl (a, k)) = let g = begun y q e k in dot_shorter y b t q l (cc) (sign_first y q h e)
numeral_sign y q {t = t} b l h e (inr (inl (p, k))) = let g = begun y q e k in absurd (dot_second y b p.1 t q l (sign_first y q h e) (cc) (ap second k))
numeral_sign y q {t = t} b l h e (inr (inr k)) = let g = dots_begun y q e k in absurd (dot_second y b 46 t (46 ∷ q) l (sign_first y q h e) (cc) (ap second (ap spelling k)))

numeral_longest : {d : Class} {s t q : Text} (b : ℕ) → begins_numeral (b ∷ t) ≡ true → s ≡ b ∷ t → Piece d s q → ((d ≡ Numeral) × (q ≡ behind_numeral (is_hexadecimal (b ∷ t)) b t)) ⊎ (length (behind_numeral (is_hexadecimal (b ∷ t)) b t) < length q)
numeral_longest {t = t} b l h (Piece.word {t = u} c k f) = absurd (letter_numeral b t (carry is_letter c b k (cc)) l)
numeral_longest {t = t} b l h (Piece.numeral {t = u} c k f) = numeral_full_at c b u t h (rest_full f)
numeral_longest {t = t} b l h (Piece.short c k f) = absurd (numeral_quote b t l (carry is_quote c b k (cc)))
numeral_longest {t = t} b l h (Piece.long n (Opens.opens o) f) = absurd (numeral_not b t 91 l refl (cc))
numeral_longest {t = t} b l h (Piece.quote c k) = absurd (numeral_quote b t l (carry is_quote c b k (cc)))
numeral_longest {t = t} b l h (Piece.bracket n (Opens.opens o)) = absurd (numeral_not b t 91 l refl (cc))
numeral_longest {t = t} b l h (Piece.comment n o) = absurd (numeral_not b t 45 l refl (cc))
numeral_longest {q = q} b l h (Piece.sign y e) = inr (numeral_sign y q b l h e (sized y))

pub cut_numeral : {s t : Text} (b : ℕ) → begins_numeral (b ∷ t) ≡ true → s ≡ b ∷ t → Cut Numeral s (behind_numeral (is_hexadecimal (b ∷ t)) b t)
cut_numeral {s = s} {t = t} b l h = record {
  piece = subst₂ (λ x y. Piece Numeral x y) (sym h) (sym (numeral_rest (is_hexadecimal (b ∷ t)) b t)) (Piece.numeral b l (rest_follows (in_numeral (is_hexadecimal (b ∷ t))) b t));
  longest = λ d q p. numeral_longest b l h p;
}

-- ---- short strings
short_longest : {d : Class} {s u r q : Text} (b : ℕ) → is_quote b ≡ true → s ≡ b ∷ u → Ends b u r → Piece d s q → ((d ≡ Short) × (q ≡ r)) ⊎ (length r < length q)
short_longest b l h g (Piece.word c k f) = absurd (letter_quote b (carry is_letter c b k (cc)) l)
short_longest {u = u} b l h g (Piece.numeral {t = t} c k f) = absurd (numeral_quote b u (carry_numeral c b t u k h) l)
short_longest {u = u} {r = r} {q = q} b l h g (Piece.short {t = t} c k f) = let e : c ≡ b = cc in let i : u ≡ t = cc in inl (refl, sym (ends_two l i g (subst (λ x. Ends x t q) e f)))
short_longest b l h g (Piece.long n (Opens.opens o) f) = absurd (differ is_quote b 91 l refl (cc))
short_longest {u = u} {r = r} {q = q} b l h g (Piece.quote c k) = let i : u ≡ q = cc in let m = ap length i in let n = ends_shorter g in inr (omega (arith, m, n))
short_longest b l h g (Piece.bracket n (Opens.opens o)) = absurd (differ is_quote b 91 l refl (cc))
short_longest b l h g (Piece.comment n o) = absurd (differ is_quote b 45 l refl (cc))
short_longest {q = q} b l h g (Piece.sign y e) = absurd (differ is_quote b _ l (no_quote y) (sign_first y q h e))

pub cut_short : {s u r : Text} (b : ℕ) → is_quote b ≡ true → s ≡ b ∷ u → Ends b u r → Cut Short s r
cut_short {s = s} {u = u} {r = r} b l h g = record {
  piece = subst (λ x. Piece Short x r) (sym h) (Piece.short b l g);
  longest = λ d q p. short_longest b l h g p;
}

unended_longest : {d : Class} {s u q : Text} (b : ℕ) → is_quote b ≡ true → s ≡ b ∷ u → NeverEnds b u → Piece d s q → ((d ≡ Opening) × (q ≡ u)) ⊎ (length u < length q)
unended_longest b l h g (Piece.word c k f) = absurd (letter_quote b (carry is_letter c b k (cc)) l)
unended_longest {u = u} b l h g (Piece.numeral {t = t} c k f) = absurd (numeral_quote b u (carry_numeral c b t u k h) l)
unended_longest {u = u} {q = q} b l h g (Piece.short {t = t} c k f) = let e : c ≡ b = cc in let i : t ≡ u = cc in absurd (g q (subst₂ (λ x y. Ends x y q) e i f))
unended_longest b l h g (Piece.long n (Opens.opens o) f) = absurd (differ is_quote b 91 l refl (cc))
unended_longest b l h g (Piece.quote c k) = inl (refl, cc)
unended_longest b l h g (Piece.bracket n (Opens.opens o)) = absurd (differ is_quote b 91 l refl (cc))
unended_longest b l h g (Piece.comment n o) = absurd (differ is_quote b 45 l refl (cc))
unended_longest {q = q} b l h g (Piece.sign y e) = absurd (differ is_quote b _ l (no_quote y) (sign_first y q h e))

pub cut_unended : {s u : Text} (b : ℕ) → is_quote b ≡ true → s ≡ b ∷ u → NeverEnds b u → Cut Opening s u
cut_unended {s = s} {u = u} b l h g = record {
  piece = subst (λ x. Piece Opening x u) (sym h) (Piece.quote b l);
  longest = λ d q p. unended_longest b l h g p;
}

-- ---- long brackets
fence_longer : {last n : ℕ} {s u : Text} → Fence last n s u → length u + 1 ≤ length s
fence_longer Fence.done = omega arith
fence_longer (Fence.more f) = let h = fence_longer f in omega arith

opens_longer : {n : ℕ} {s u : Text} → Opens n s u → length u + 2 ≤ length s
opens_longer (Opens.opens f) = let h = fence_longer f in omega arith

not_alone : (y : Symbol) (a b : ℕ) → spelling y ≡ a ∷ b ∷ [] → a ≡ 91 → ⊥
not_alone y a b g h =
    let e : spelling y ≡ 91 ∷ b ∷ [] = g ∙ ap (λ x. x ∷ b ∷ []) h in
    let k : true ≡ false = sym (ap (λ x. (first x == 91) && not (length x == 1)) e) ∙ bracket_alone y in
    cc

long_sign : (y : Symbol) (q r : Text) {s u : Text} {n : ℕ} → Opens n s u → length r < length u → s ≡ spelling y ++ q → ((a : ℕ) × (spelling y ≡ a ∷ [])) ⊎ (((p : ℕ × ℕ) × (spelling y ≡ p.0 ∷ p.1 ∷ [])) ⊎ (y ≡ sy.Dots)) → length r < length q
long_sign y q r o k e (inl (a, g)) = let h = ap length (begun y q e g) in let i = opens_longer o in omega (arith, h, i, k)
long_sign y q r o k e (inr (inl (p, g))) = let h = ap length (begun y q e g) in let i = opens_longer o in omega (arith, h, i, k)
long_sign y q r (Opens.opens o) k e (inr (inr g)) = let h = dots_begun y q e g in let i : ◌≡◌ {A = ℕ} 91 46 = cc in absurd (omega (arith, i))

bracket_sign : (y : Symbol) (q : Text) {s u : Text} {n : ℕ} → Opens n s u → s ≡ spelling y ++ q → ((a : ℕ) × (spelling y ≡ a ∷ [])) ⊎ (((p : ℕ × ℕ) × (spelling y ≡ p.0 ∷ p.1 ∷ [])) ⊎ (y ≡ sy.Dots)) → length u < length q
bracket_sign y q o e (inl (a, g)) = let h = ap length (begun y q e g) in let i = opens_longer o in omega (arith, h, i)
bracket_sign y q (Opens.opens o) e (inr (inl (p, g))) = let h = begun y q e g in let i : p.0 ≡ 91 = cc in absurd (not_alone y p.0 p.1 g i)
bracket_sign y q (Opens.opens o) e (inr (inr g)) = let h = dots_begun y q e g in let i : ◌≡◌ {A = ℕ} 91 46 = cc in absurd (omega (arith, i))

long_longest : {d : Class} {n : ℕ} {s u t bs r q : Text} → s ≡ t → Opens n s u → Closes n u bs r → Piece d t q → ((d ≡ Long) × (q ≡ r)) ⊎ (length r < length q)
long_longest h (Opens.opens o) g (Piece.word c k f) = absurd (differ is_letter c 91 k refl (cc))
long_longest h (Opens.opens o) g (Piece.numeral {t = t} c k f) = absurd (numeral_not c t 91 k refl (cc))
long_longest h (Opens.opens o) g (Piece.short c k f) = absurd (differ is_quote c 91 k refl (cc))
long_longest h o g (Piece.long m p f) = let e = opens_two h o p in inl (refl, sym (closes_levels e.0 e.1 g f).1)
long_longest h (Opens.opens o) g (Piece.quote c k) = absurd (differ is_quote c 91 k refl (cc))
long_longest h o g (Piece.bracket m p) = let e = ap length (opens_two h o p).1 in let k = closes_shorter g in inr (omega (arith, e, k))
long_longest h (Opens.opens o) g (Piece.comment m p) = let i : ◌≡◌ {A = ℕ} 91 45 = cc in absurd (omega (arith, i))
long_longest {r = r} {q = q} h o g (Piece.sign y e) = inr (long_sign y q r o (closes_shorter g) (h ∙ e) (sized y))

pub cut_long : {n : ℕ} {s u bs r : Text} → Opens n s u → Closes n u bs r → Cut Long s r
cut_long {n = n} o g = record { piece = Piece.long n o g; longest = λ d q p. long_longest refl o g p }

bracket_longest : {d : Class} {n : ℕ} {s u t q : Text} → s ≡ t → Opens n s u → NeverCloses n u → Piece d t q → ((d ≡ Opening) × (q ≡ u)) ⊎ (length u < length q)
bracket_longest h (Opens.opens o) g (Piece.word c k f) = absurd (differ is_letter c 91 k refl (cc))
bracket_longest h (Opens.opens o) g (Piece.numeral {t = t} c k f) = absurd (numeral_not c t 91 k refl (cc))
bracket_longest h (Opens.opens o) g (Piece.short c k f) = absurd (differ is_quote c 91 k refl (cc))
bracket_longest {q = q} h o g (Piece.long {bs = bs} m p f) = let e = opens_two h o p in absurd (never_closes_at e.0 e.1 g bs q f)
bracket_longest h (Opens.opens o) g (Piece.quote c k) = absurd (differ is_quote c 91 k refl (cc))
bracket_longest h o g (Piece.bracket m p) = inl (refl, sym (opens_two h o p).1)
bracket_longest h (Opens.opens o) g (Piece.comment m p) = let i : ◌≡◌ {A = ℕ} 91 45 = cc in absurd (omega (arith, i))
bracket_longest {q = q} h o g (Piece.sign y e) = inr (bracket_sign y q o (h ∙ e) (sized y))

pub cut_bracket : {n : ℕ} {s u : Text} → Opens n s u → NeverCloses n u → Cut Opening s u
cut_bracket {n = n} o g = record { piece = Piece.bracket n o; longest = λ d q p. bracket_longest refl o g p }

-- ---- comments
comment_sign : (y : Symbol) (q : Text) {s t u : Text} {n : ℕ} → s ≡ 45 ∷ 45 ∷ t → Opens n t u → s ≡ spelling y ++ q → ((a : ℕ) × (spelling y ≡ a ∷ [])) ⊎ (((p : ℕ × ℕ) × (spelling y ≡ p.0 ∷ p.1 ∷ [])) ⊎ (y ≡ sy.Dots)) → length u < length q
comment_sign y q h o e (inl (a, g)) = let k = ap length (begun y q e g) in let j = ap length h in let i = opens_longer o in omega (arith, k, i, j)
comment_sign y q h o e (inr (inl (p, g))) = let k = ap length (begun y q e g) in let j = ap length h in let i = opens_longer o in omega (arith, k, i, j)
comment_sign y q h o e (inr (inr g)) = let k = dots_begun y q e g in let i : ◌≡◌ {A = ℕ} 45 46 = cc in absurd (omega (arith, i))

comment_longest : {d : Class} {n : ℕ} {s t u q : Text} → s ≡ 45 ∷ 45 ∷ t → Opens n t u → Piece d s q → ((d ≡ Opening) × (q ≡ u)) ⊎ (length u < length q)
comment_longest h o (Piece.word c k f) = absurd (differ is_letter c 45 k refl (cc))
comment_longest h o (Piece.numeral {t = t} c k f) = absurd (numeral_not c t 45 k refl (cc))
comment_longest h o (Piece.short c k f) = absurd (differ is_quote c 45 k refl (cc))
comment_longest h o (Piece.long m (Opens.opens p) f) = let i : ◌≡◌ {A = ℕ} 91 45 = cc in absurd (omega (arith, i))
comment_longest h o (Piece.quote c k) = absurd (differ is_quote c 45 k refl (cc))
comment_longest h o (Piece.bracket m (Opens.opens p)) = let i : ◌≡◌ {A = ℕ} 91 45 = cc in absurd (omega (arith, i))
comment_longest {t = t} h o (Piece.comment {t = v} m p) = let e : t ≡ v = cc in inl (refl, sym (opens_two e o p).1)
comment_longest {q = q} h o (Piece.sign y e) = inr (comment_sign y q h o e (sized y))

pub cut_comment : {n : ℕ} {s t u : Text} → s ≡ 45 ∷ 45 ∷ t → Opens n t u → Cut Opening s u
cut_comment {n = n} {s = s} {u = u} h o = record {
  piece = subst (λ x. Piece Opening x u) (sym h) (Piece.comment n o);
  longest = λ d q p. comment_longest h o p;
}

-- ---- symbols
-- Nothing but a symbol begins here.
pub record IsElse (s : Text) : Type 0 where
  pub no_numeral : begins_numeral s ≡ false
  pub no_bracket : NeverOpens s
  pub no_comment : (t : Text) → s ≡ 45 ∷ 45 ∷ t → NeverOpens t

sign_same : {r q : Text} (x y : Symbol) → ((y ≡ x) × (q ≡ r)) ⊎ (length r < length q) → ((Sign y ≡ Sign x) × (q ≡ r)) ⊎ (length r < length q)
sign_same x y (inl h) = inl (ap Sign h.0, h.1)
sign_same x y (inr h) = inr h

sign_longest : {d : Class} {s r q : Text} (x : Symbol) → IsElse s → SignAt s x r → Piece d s q → ((d ≡ Sign x) × (q ≡ r)) ⊎ (length r < length q)
sign_longest {r = r} x i g (Piece.word c k f) = absurd (differ is_letter c _ k (no_letter x) (sign_first x r refl g.0))
sign_longest x i g (Piece.numeral c k f) = let e : true ≡ false = sym k ∙ i.no_numeral in cc
sign_longest {r = r} x i g (Piece.short c k f) = absurd (differ is_quote c _ k (no_quote x) (sign_first x r refl g.0))
sign_longest x i g (Piece.long {u = u} n o f) = absurd (i.no_bracket n u o)
sign_longest {r = r} x i g (Piece.quote c k) = absurd (differ is_quote c _ k (no_quote x) (sign_first x r refl g.0))
sign_longest {q = q} x i g (Piece.bracket n o) = absurd (i.no_bracket n q o)
sign_longest {q = q} x i g (Piece.comment {t = t} n o) = absurd (i.no_comment t refl n q o)
sign_longest {q = q} x i g (Piece.sign y e) = sign_same x y (g.1 y q e)

pub cut_sign : {s r : Text} (x : Symbol) → IsElse s → SignAt s x r → Cut (Sign x) s r
cut_sign x i g = record { piece = Piece.sign x g.0; longest = λ d q p. sign_longest x i g p }

-- ---- nothing
pub no_piece : {d : Class} {s t q : Text} (b : ℕ) → s ≡ b ∷ t → is_letter b ≡ false → begins_numeral s ≡ false → is_quote b ≡ false → NoSign s → Piece d s q → ⊥
no_piece b h l m n g (Piece.word c k f) = differ is_letter c b k l (cc)
no_piece b h l m n g (Piece.numeral c k f) = let e : true ≡ false = sym k ∙ m in cc
no_piece b h l m n g (Piece.short c k f) = differ is_quote c b k n (cc)
no_piece b h l m n g (Piece.long i (Opens.opens {t = v} o) f) = g sy.OpenBracket v refl
no_piece b h l m n g (Piece.quote c k) = differ is_quote c b k n (cc)
no_piece b h l m n g (Piece.bracket i (Opens.opens {t = v} o)) = g sy.OpenBracket v refl
no_piece b h l m n g (Piece.comment {t = v} i o) = g sy.Minus (45 ∷ v) refl
no_piece {q = q} b h l m n g (Piece.sign y e) = g y q e
