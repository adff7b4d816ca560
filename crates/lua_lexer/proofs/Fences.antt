-- Steps of the search for long brackets and separators.
use Rattle.std.proofs.Common.{◌≡◌, ℕ, suc, ◌-◌, ◌<◌, ◌≤◌, Bool, true, false, [], ◌∷◌, ◌++◌, length, take, refl, ap, sym, ◌∙◌, subst, subst₂, arith, if◌then◌else◌, append_assoc, append-nil, length-append}
use Rattle.std.proofs.Math.Seq.{take-append_seam}
use Rattle.lua_lexer.specs.Letters.{Text, is_line_byte, is_blank}
use Rattle.lua_lexer.specs.Lines.{span, to_line_end}
use Rattle.lua_lexer.specs.Brackets.{Fence, Opens, Shuts, Closes}
use Rattle.lua_lexer.specs.Tokens.{Separator}
use Rattle.lua_lexer.specs.Reading.{NoFence, NeverOpens, NeverShuts, NeverCloses, Comment, NoComment}
use Rattle.lua_lexer.proofs.Once.{fence_two, opens_two, no_blank}

pub fence_done : {last b : ℕ} {s t : Text} → s ≡ b ∷ t → b ≡ last → Fence last 0 s t
fence_done {last = last} {s = s} {t = t} h e = let k : s ≡ last ∷ t = cc in subst (λ x. Fence last 0 x t) (sym k) Fence.done

pub fence_more : {last b n : ℕ} {s t r : Text} → s ≡ b ∷ t → b ≡ 61 → Fence last n t r → Fence last (suc n) s r
fence_more {last = last} {n = n} {s = s} {t = t} {r = r} h e f = let k : s ≡ 61 ∷ t = cc in subst (λ x. Fence last (suc n) x r) (sym k) (Fence.more f)

pub fence_absent : {last b : ℕ} {s t : Text} → s ≡ b ∷ t → (b ≡ last → ⊥) → NoFence last t → NoFence last s
fence_absent h e out n r Fence.done = e (cc)
fence_absent {last = last} h e out n r (Fence.more {n = m} f) = out m r (subst (λ x. Fence last m x r) (cc) f)

pub opens_at : {b n : ℕ} {s t r : Text} → s ≡ b ∷ t → b ≡ 91 → Fence 91 n t r → Opens n s r
opens_at {n = n} {s = s} {t = t} {r = r} h e f = let k : s ≡ 91 ∷ t = cc in subst (λ x. Opens n x r) (sym k) (Opens.opens f)

pub never_opens : {b : ℕ} {s t : Text} → s ≡ b ∷ t → NoFence 91 t → NeverOpens s
never_opens h out n r (Opens.opens f) = out n r (subst (λ x. Fence 91 n x r) (cc) f)

pub shuts_at : {b n m : ℕ} {s t r : Text} → s ≡ b ∷ t → b ≡ 93 → n ≡ m → Fence 93 n t r → Shuts m s r
shuts_at {n = n} {m = m} {s = s} {t = t} {r = r} h e d f = let k : s ≡ 93 ∷ t = cc in subst (λ x. Shuts m x r) (sym k) (Shuts.shuts (subst (λ x. Fence 93 x t r) d f))

pub other_level : {b n m : ℕ} {s t r : Text} → s ≡ b ∷ t → (n ≡ m → ⊥) → Fence 93 n t r → NeverShuts m s
other_level h e f r (Shuts.shuts g) = e (fence_two refl (cc) f g).0

pub never_closes : {b n : ℕ} {s t : Text} → s ≡ b ∷ t → NeverShuts n s → NeverCloses n t → NeverCloses n s
never_closes h none out bs r (Closes.here f) = none r f
never_closes {n = n} h none out bs r (Closes.further {bs = cs} c e f) = out cs r (subst (λ x. Closes n x cs r) (cc) f)

pub closes_further : {b n : ℕ} {s t bs r : Text} → s ≡ b ∷ t → NeverShuts n s → Closes n t bs r → Closes n s (b ∷ bs) r
closes_further {b = b} {n = n} {bs = bs} {r = r} h none f = subst (λ x. Closes n x (b ∷ bs) r) (sym h) (Closes.further b (λ u k. none u (subst (λ x. Shuts n x u) (sym h) k)) f)

pub never_closes_empty : {n : ℕ} {s : Text} → s ≡ [] → NeverCloses n s
never_closes_empty h bs r (Closes.here (Shuts.shuts f)) = cc
never_closes_empty h bs r (Closes.further c e f) = cc

pub span_pre : (pre r : Text) {t : Text} → t ≡ pre ++ r → span t r ≡ pre
span_pre pre r {t = t} h =
    let n = ap length h in
    let e : length t - length r ≡ length pre = omega (arith, n, length-append pre r) in
    ap (λ x. take x t) e ∙ ap (λ x. take (length pre) x) h ∙ take-append_seam pre r

pub closes_span : {n : ℕ} {t r : Text} (pre s : Text) → t ≡ pre ++ s → Closes n t (pre ++ []) r → Closes n t (span t s) r
closes_span {n = n} {t = t} {r = r} pre s h f = subst (λ x. Closes n t x r) (append-nil pre ∙ sym (span_pre pre s h)) f

pub closes_from : {n : ℕ} {t r : Text} (pre bs : Text) (b : ℕ) → Closes n t (pre ++ b ∷ bs) r → Closes n t ((pre ++ b ∷ []) ++ bs) r
closes_from {n = n} {t = t} {r = r} pre bs b f = subst (λ x. Closes n t x r) (sym (append_assoc pre (b ∷ []) bs)) f

fence_shorter : {last n : ℕ} {t r : Text} → Fence last n t r → length r < length t
fence_shorter Fence.done = omega arith
fence_shorter (Fence.more f) = let h = fence_shorter f in omega arith

pub opens_shorter : {n : ℕ} {t r : Text} → Opens n t r → length r < length t
opens_shorter (Opens.opens f) = let h = fence_shorter f in omega arith

pub pre_further : (pre : Text) {b : ℕ} {t s u : Text} → t ≡ pre ++ s → s ≡ b ∷ u → t ≡ (pre ++ b ∷ []) ++ u
pre_further pre {b = b} {u = u} h e = h ∙ ap (λ x. pre ++ x) e ∙ sym (append_assoc pre (b ∷ []) u)

pub closes_shorter : {n : ℕ} {t bs r : Text} → Closes n t bs r → length r < length t
closes_shorter (Closes.here (Shuts.shuts f)) = let h = fence_shorter f in omega arith
closes_shorter (Closes.further b e f) = let h = closes_shorter f in omega arith

line_end_step : (c : Bool) (b : ℕ) (t : Text) → length (to_line_end t) ≤ length t → length (if c then b ∷ t else to_line_end t) ≤ length (b ∷ t)
line_end_step true b t h = omega arith
line_end_step false b t h = omega arith

line_end_shorter : (t : Text) → length (to_line_end t) ≤ length t
line_end_shorter [] = omega arith
line_end_shorter (b ∷ t) = let h = line_end_shorter t in line_end_step (is_line_byte b) b t h

pub separator_shorter : {t u : Text} → Separator t u → length u < length t
separator_shorter (Separator.blank b l) = omega arith
separator_shorter (Separator.line {t = t} e) = let h = line_end_shorter t in omega arith
separator_shorter (Separator.bracket n o f) = let h = opens_shorter o in let k = closes_shorter f in omega arith

pub comment_line : {t r : Text} → NeverOpens t → r ≡ to_line_end t → Comment t r
comment_line {t = t} {r = r} out e = subst (λ x. Comment t x) (sym e) (Separator.line out)

pub never_closes_at : {n m : ℕ} {u v : Text} → n ≡ m → u ≡ v → NeverCloses n u → NeverCloses m v
never_closes_at {n = n} {v = v} e h out = subst₂ (λ x y. NeverCloses x y) e h out

no_comment_of : {n : ℕ} {s t u r : Text} → Opens n t u → NeverCloses n u → s ≡ 45 ∷ 45 ∷ t → Separator s r → ⊥
no_comment_of o out h (Separator.blank b l) = no_blank b l (cc)
no_comment_of {n = n} {u = u} o out h (Separator.line e) = e n u (subst (λ x. Opens n x u) (cc) o)
no_comment_of {u = u} {r = r} o out h (Separator.bracket {bs = bs} m p f) = let k = opens_two (cc) o p in never_closes_at k.0 k.1 out bs r f

pub no_comment : {n : ℕ} {t u : Text} → Opens n t u → NeverCloses n u → NoComment t
no_comment {n = n} {t = t} {u = u} o out r f = no_comment_of o out refl f

pub blank_at : {b : ℕ} {s t : Text} → s ≡ b ∷ t → is_blank b ≡ true → Separator s t
blank_at {b = b} {s = s} {t = t} h e = subst (λ x. Separator x t) (sym h) (Separator.blank b e)
