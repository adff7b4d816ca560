-- Steps of the reading of short strings and of long ones.
use Rattle.std.proofs.Common.{◌≡◌, ℕ, ◌≤◌, ◌==◌, Bool, true, false, not, ◌&&◌, [], ◌∷◌, ◌++◌, Some, None, length, refl, ap, sym, ◌∙◌, subst, arith, append_assoc, append-nil, if◌then◌else◌}
use Rattle.std.proofs.lemmas.Bool.Decides.{nat_tests}
use Rattle.lua_lexer.specs.Letters.{Text, is_line_byte, is_quote}
use Rattle.lua_lexer.specs.Lines.{behind_line_byte, behind_line_end}
use Rattle.lua_lexer.specs.Strings.{escape, is_plain, Part, Ends, Reads, Spoils}
use Rattle.lua_lexer.specs.Brackets.{Unified}
use Rattle.lua_lexer.specs.Reading.{NeverEnds}
use Rattle.lua_lexer.proofs.Once.{part_two, part_bad, part_quote}

pub plain_of : (q b : ℕ) → (b ≡ q → ⊥) → (b ≡ 92 → ⊥) → is_line_byte b ≡ false → is_plain q b ≡ true
plain_of q b h e l = grind (arith, nat_tests)

pub plain_at : {q b : ℕ} {s t : Text} → s ≡ b ∷ t → (b ≡ q → ⊥) → (b ≡ 92 → ⊥) → is_line_byte b ≡ false → Part q s (b ∷ []) t
plain_at {q = q} {b = b} {s = s} {t = t} h e d l = subst (λ x. Part q x (b ∷ []) t) (sym h) (Part.plain b (plain_of q b e d l))

pub escaped_at : {q b : ℕ} {s t bs r : Text} → s ≡ b ∷ t → b ≡ 92 → escape t ≡ Some (bs, r) → Part q s bs r
escaped_at {q = q} {s = s} {t = t} {bs = bs} {r = r} h e d = let k : s ≡ 92 ∷ t = cc in subst (λ x. Part q x bs r) (sym k) (Part.escaped d)

pub close_at : {q b : ℕ} {s t : Text} → s ≡ b ∷ t → b ≡ q → Ends q s t
close_at {q = q} {s = s} {t = t} h e = let k : s ≡ q ∷ t = cc in subst (λ x. Ends q x t) (sym k) Ends.close

pub read_close : {q b : ℕ} {s t : Text} → s ≡ b ∷ t → b ≡ q → Reads q s [] t
read_close {q = q} {s = s} {t = t} h e = let k : s ≡ q ∷ t = cc in subst (λ x. Reads q x [] t) (sym k) Reads.close

pub spoils_here : {q b : ℕ} {s t : Text} → s ≡ b ∷ t → b ≡ 92 → escape t ≡ None → Spoils q s s
spoils_here {q = q} {s = s} {t = t} h e d = let k : s ≡ 92 ∷ t = cc in subst (λ x. Spoils q x x) (sym k) (Spoils.here d)

pub bad_at : {q b c : ℕ} {s t u r : Text} → s ≡ b ∷ t → b ≡ 92 → t ≡ c ∷ u → escape t ≡ None → Ends q u r → Ends q s r
bad_at {q = q} {c = c} {s = s} {t = t} {u = u} {r = r} h e k d f = let g : s ≡ 92 ∷ c ∷ u = cc in subst (λ x. Ends q x r) (sym g) (Ends.bad c (sym (ap escape k) ∙ d) f)

slash_quote : {q : ℕ} → is_quote q ≡ true → 92 ≡ q → ⊥
slash_quote {q = q} l e = grind (arith, nat_tests)

line_end_at : (b : ℕ) (t : Text) → is_line_byte b ≡ true → behind_line_end (b ∷ t) ≡ Some (behind_line_byte b t)
line_end_at b t l = rw l refl

part_front : {q : ℕ} {s bs u : Text} → Part q s bs u → (t : Text) → s ≡ q ∷ t → is_quote q ≡ true → ⊥
part_front p t h l = part_quote l h p

never_ends_part_of : {q : ℕ} {s t bs u r : Text} → is_quote q ≡ true → Part q s bs u → NeverEnds q u → s ≡ t → Ends q t r → ⊥
never_ends_part_of l p out h (Ends.close {t = t}) = part_front p t h l
never_ends_part_of {q = q} {r = r} l p out h (Ends.good w g) = out r (subst (λ x. Ends q x r) (sym (part_two h p w).1) g)
never_ends_part_of l p out h (Ends.bad b n g) = part_bad n h p

pub never_ends_part : {q : ℕ} {s bs u : Text} → is_quote q ≡ true → Part q s bs u → NeverEnds q u → NeverEnds q s
never_ends_part l p out r f = never_ends_part_of l p out refl f

pub never_ends_bad : {q b c : ℕ} {s t u : Text} → is_quote q ≡ true → s ≡ b ∷ t → b ≡ 92 → t ≡ c ∷ u → escape t ≡ None → NeverEnds q u → NeverEnds q s
never_ends_bad {q = q} l h e k d out r Ends.close = let g : ◌≡◌ {A = ℕ} 92 q = cc in slash_quote l g
never_ends_bad {s = s} {t = t} l h e k d out r (Ends.good p g) = let i : s ≡ 92 ∷ t = cc in part_bad d i p
never_ends_bad {q = q} {u = u} l h e k d out r (Ends.bad {t = v} b n g) = let i : v ≡ u = cc in out r (subst (λ x. Ends q x r) i g)

pub never_ends_empty : {q : ℕ} {s : Text} → s ≡ [] → NeverEnds q s
never_ends_empty h r Ends.close = cc
never_ends_empty h r (Ends.good (Part.plain b l) g) = cc
never_ends_empty h r (Ends.good (Part.escaped l) g) = cc
never_ends_empty h r (Ends.bad b n g) = cc

pub spoils_ends : {q : ℕ} {t u r : Text} → Spoils q t u → Ends q u r → Ends q t r
spoils_ends (Spoils.here n) f = f
spoils_ends (Spoils.later p g) f = Ends.good p (spoils_ends g f)

pub spoils_never : {q : ℕ} {t u : Text} → is_quote q ≡ true → Spoils q t u → NeverEnds q u → NeverEnds q t
spoils_never l (Spoils.here n) out = out
spoils_never l (Spoils.later p g) out = never_ends_part l p (spoils_never l g out)

pub reads_ends : {q : ℕ} {t out r : Text} → Reads q t out r → Ends q t r
reads_ends Reads.close = Ends.close
reads_ends (Reads.part p f) = Ends.good p (reads_ends f)

-- what is read behind a part, behind what was read before
pub reads_on : {q : ℕ} {t r : Text} (out bs more : Text) → Reads q t (out ++ (bs ++ more)) r → Reads q t ((out ++ bs) ++ more) r
reads_on {q = q} {t = t} {r = r} out bs more f = subst (λ x. Reads q t x r) (sym (append_assoc out bs more)) f

pub unified_line : {b : ℕ} {s t u : Text} → s ≡ b ∷ t → is_line_byte b ≡ true → u ≡ behind_line_byte b t → (out : Text) → Unified u out → Unified s (10 ∷ out)
unified_line {b = b} {s = s} {t = t} {u = u} h l e out f = let k : behind_line_end s ≡ Some u = ap behind_line_end h ∙ line_end_at b t l ∙ ap (λ x. Some x) (sym e) in Unified.line k f

pub unified_byte : {b : ℕ} {s t : Text} → s ≡ b ∷ t → is_line_byte b ≡ false → (out : Text) → Unified t out → Unified s (b ∷ out)
unified_byte {b = b} h l out f = subst (λ x. Unified x (b ∷ out)) (sym h) (Unified.byte b l f)

-- the same behind what has become of what was read before
pub reads_to : {q : ℕ} {t new r : Text} (out bs more : Text) → new ≡ out ++ bs → Reads q t (out ++ (bs ++ more)) r → Reads q t (new ++ more) r
reads_to {q = q} {t = t} {r = r} out bs more e f = subst (λ x. Reads q t (x ++ more) r) (sym e) (reads_on out bs more f)

line_byte_step : (x : Bool) (c : ℕ) (t : Text) → length (if x then t else c ∷ t) ≤ length (c ∷ t)
line_byte_step true c t = omega arith
line_byte_step false c t = omega arith

pub line_byte_shorter : (b : ℕ) (t : Text) → length (behind_line_byte b t) ≤ length t
line_byte_shorter b [] = omega arith
line_byte_shorter b (c ∷ t) = line_byte_step (is_line_byte c && not (b == c)) c t

pub unified_end : {t s : Text} (out : Text) → s ≡ [] → ((more : Text) → Unified s more → Unified t (out ++ more)) → Unified t out
unified_end {t = t} {s = s} out h f = subst (λ x. Unified t x) (append-nil out) (f [] (subst (λ x. Unified x []) (sym h) Unified.nothing))

pub open_byte : {q b : ℕ} {s t : Text} → ((u : Text) → s ≡ q ∷ u → ⊥) → s ≡ b ∷ t → b ≡ q → ⊥
open_byte {t = t} out h e = out t (cc)
