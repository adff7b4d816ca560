-- Each part of a text is read in one way.
use Rattle.std.proofs.Common.{◌≡◌, ℕ, suc, true, false, ◌==◌, ◌∷◌, ◌++◌, Option, Some, None, refl, ap, sym, ◌∙◌, arith, subst, ap₂}
use Rattle.std.proofs.lemmas.Bool.Decides.{nat_tests}
use Rattle.lua_lexer.specs.Letters.{Text, is_line_byte, is_blank, is_quote}
use Rattle.lua_lexer.specs.Lines.{behind_line_end, to_line_end}
use Rattle.lua_lexer.specs.Strings.{escape, is_plain, Part, Ends, Reads, Spoils}
use Rattle.lua_lexer.specs.Brackets.{Fence, Opens, Shuts, Closes, Unified, Meant}
use Rattle.lua_lexer.specs.Tokens.{Separator, Skips}

pub no_test : (a b : ℕ) → (a == b) ≡ false → a ≡ b → ⊥
no_test a b h e = grind (arith, nat_tests)

pub fence_two : {last n m : ℕ} {s t r q : Text} → (last == 61) ≡ false → s ≡ t → Fence last n s r → Fence last m t q → (n ≡ m) × (r ≡ q)
fence_two l h Fence.done Fence.done = (refl, cc)
fence_two {last = last} l h Fence.done (Fence.more f) = let k : ◌≡◌ {A = ℕ} last 61 = cc in absurd (no_test last 61 l k)
fence_two {last = last} l h (Fence.more f) Fence.done = let k : ◌≡◌ {A = ℕ} last 61 = cc in absurd (no_test last 61 l k)
fence_two l h (Fence.more f) (Fence.more g) = let k = fence_two l (cc) f g in (ap suc k.0, k.1)

pub opens_two : {n m : ℕ} {s t r q : Text} → s ≡ t → Opens n s r → Opens m t q → (n ≡ m) × (r ≡ q)
opens_two h (Opens.opens f) (Opens.opens g) = fence_two refl (cc) f g

pub shuts_two : {n : ℕ} {s t r q : Text} → s ≡ t → Shuts n s r → Shuts n t q → r ≡ q
shuts_two h (Shuts.shuts f) (Shuts.shuts g) = (fence_two refl (cc) f g).1

pub closes_two : {n : ℕ} {s t bs cs r q : Text} → s ≡ t → Closes n s bs r → Closes n t cs q → (bs ≡ cs) × (r ≡ q)
closes_two h (Closes.here f) (Closes.here g) = (refl, shuts_two h f g)
closes_two {n = n} {q = q} h (Closes.here {r = r} f) (Closes.further b out g) = absurd (out r (subst (λ u. Shuts n u r) h f))
closes_two {n = n} h (Closes.further b out f) (Closes.here {r = r} g) = absurd (out r (subst (λ u. Shuts n u r) (sym h) g))
closes_two h (Closes.further b out f) (Closes.further c na g) = let k = closes_two (cc) f g in (let e : b ≡ c = cc in ap₂ (λ x y. x ∷ y) e k.0, k.1)

pub no_line_end : (b : ℕ) (t : Text) → is_line_byte b ≡ false → behind_line_end (b ∷ t) ≡ None
no_line_end b t l = rw l refl

pub closes_levels : {n m : ℕ} {s t bs cs r q : Text} → n ≡ m → s ≡ t → Closes n s bs r → Closes m t cs q → (bs ≡ cs) × (r ≡ q)
closes_levels {s = s} {bs = bs} {r = r} e h f g = closes_two h (subst (λ x. Closes x s bs r) e f) g

pub no_blank : (b : ℕ) → is_blank b ≡ true → b ≡ 45 → ⊥
no_blank b l e = grind (arith, nat_tests)

pub unified_two : {s t out up : Text} → s ≡ t → Unified s out → Unified t up → out ≡ up
unified_two h Unified.nothing Unified.nothing = refl
unified_two h Unified.nothing (Unified.byte b l f) = cc
unified_two h Unified.nothing (Unified.line l f) = let e = ap behind_line_end h in cc
unified_two h (Unified.byte b l f) Unified.nothing = cc
unified_two h (Unified.byte b l f) (Unified.byte c k g) = let e = unified_two (cc) f g in (let d : b ≡ c = cc in ap₂ (λ x y. x ∷ y) d e)
unified_two h (Unified.byte {t = t} b l f) (Unified.line k g) = let e = ap behind_line_end h in let d = no_line_end b t l in cc
unified_two h (Unified.line l f) Unified.nothing = let e = ap behind_line_end h in cc
unified_two h (Unified.line l f) (Unified.byte {t = t} b k g) = let e = ap behind_line_end h in let d = no_line_end b t k in cc
unified_two h (Unified.line l f) (Unified.line k g) = let d = ap behind_line_end h in (let e = unified_two (cc) f g in ap (λ x. 10 ∷ x) e)

pub meant_two : {s t out up : Text} → s ≡ t → Meant s out → Meant t up → out ≡ up
meant_two h (Meant.dropped l f) (Meant.dropped k g) = let d = ap behind_line_end h in unified_two (cc) f g
meant_two h (Meant.dropped l f) (Meant.whole k g) = let d = ap behind_line_end h in cc
meant_two h (Meant.whole k f) (Meant.dropped l g) = let d = ap behind_line_end h in cc
meant_two h (Meant.whole l f) (Meant.whole k g) = unified_two h f g

-- a byte that a plain part is not
pub plain_quote : (q b : ℕ) → is_plain q b ≡ true → b ≡ q → ⊥
plain_quote q b l e = grind (arith, nat_tests)

pub plain_backslash : (q b : ℕ) → is_plain q b ≡ true → b ≡ 92 → ⊥
plain_backslash q b l e = grind (arith, nat_tests)

pub quote_backslash : (q : ℕ) → is_quote q ≡ true → q ≡ 92 → ⊥
quote_backslash q l e = grind (arith, nat_tests)

pub pair_parts : {bs cs r u : Text} → ◌≡◌ {A = Option (Text × Text)} (Some (bs, r)) (Some (cs, u)) → (bs ≡ cs) × (r ≡ u)
pair_parts {bs = bs} {cs = cs} {r = r} {u = u} h = let e : ◌≡◌ {A = Text × Text} (bs, r) (cs, u) = cc in (ap (λ (x : Text × Text). x.0) e, ap (λ (x : Text × Text). x.1) e)

pub part_two : {q : ℕ} {s t bs cs r u : Text} → s ≡ t → Part q s bs r → Part q t cs u → (bs ≡ cs) × (r ≡ u)
part_two h (Part.plain b l) (Part.plain c k) = (cc, cc)
part_two {q = q} h (Part.plain b l) (Part.escaped k) = let e : ◌≡◌ {A = ℕ} b 92 = cc in absurd (plain_backslash q b l e)
part_two {q = q} h (Part.escaped k) (Part.plain b l) = let e : ◌≡◌ {A = ℕ} b 92 = cc in absurd (plain_backslash q b l e)
part_two h (Part.escaped {t = s} l) (Part.escaped {t = t} k) = let d : s ≡ t = cc in let e = ap escape d in pair_parts (cc)

-- no part begins with the quote
pub part_quote : {q : ℕ} {s t bs r : Text} → is_quote q ≡ true → s ≡ q ∷ t → Part q s bs r → ⊥
part_quote {q = q} l h (Part.plain b k) = plain_quote q b k (cc)
part_quote {q = q} l h (Part.escaped k) = let e : ◌≡◌ {A = ℕ} q 92 = cc in quote_backslash q l e

-- no part begins with a bad backslash
pub part_bad : {q : ℕ} {s t bs r : Text} → escape t ≡ None → s ≡ 92 ∷ t → Part q s bs r → ⊥
part_bad {q = q} n h (Part.plain b k) = let e : ◌≡◌ {A = ℕ} b 92 = cc in plain_backslash q b k e
part_bad {t = t} n h (Part.escaped {t = u} k) = let d : u ≡ t = cc in let e = ap escape d in (let c : None ≡ Some _ = sym n ∙ sym e ∙ k in cc)

pub ends_two : {q : ℕ} {s t r u : Text} → is_quote q ≡ true → s ≡ t → Ends q s r → Ends q t u → r ≡ u
ends_two l h Ends.close Ends.close = cc
ends_two l h Ends.close (Ends.good p g) = absurd (part_quote l (sym h) p)
ends_two {q = q} l h Ends.close (Ends.bad b n g) = let e : ◌≡◌ {A = ℕ} q 92 = cc in absurd (quote_backslash q l e)
ends_two l h (Ends.good p f) Ends.close = absurd (part_quote l h p)
ends_two l h (Ends.good p f) (Ends.good w g) = ends_two l (part_two h p w).1 f g
ends_two l h (Ends.good p f) (Ends.bad b n g) = absurd (part_bad n h p)
ends_two {q = q} l h (Ends.bad b n f) Ends.close = let e : ◌≡◌ {A = ℕ} q 92 = cc in absurd (quote_backslash q l e)
ends_two l h (Ends.bad b n f) (Ends.good p g) = absurd (part_bad n (sym h) p)
ends_two l h (Ends.bad b n f) (Ends.bad c m g) = ends_two l (cc) f g

pub reads_two : {q : ℕ} {s t out up r u : Text} → is_quote q ≡ true → s ≡ t → Reads q s out r → Reads q t up u → (out ≡ up) × (r ≡ u)
reads_two l h Reads.close Reads.close = (refl, cc)
reads_two l h Reads.close (Reads.part p g) = absurd (part_quote l (sym h) p)
reads_two l h (Reads.part p f) Reads.close = absurd (part_quote l h p)
reads_two l h (Reads.part p f) (Reads.part w g) = let e = part_two h p w in let k = reads_two l e.1 f g in (ap₂ (λ x y. x ++ y) e.0 k.0, k.1)

pub spoils_two : {q : ℕ} {s t r u : Text} → s ≡ t → Spoils q s r → Spoils q t u → r ≡ u
spoils_two h (Spoils.here n) (Spoils.here m) = h
spoils_two h (Spoils.here n) (Spoils.later p g) = absurd (part_bad n (sym h) p)
spoils_two h (Spoils.later p f) (Spoils.here n) = absurd (part_bad n h p)
spoils_two h (Spoils.later p f) (Spoils.later w g) = spoils_two (part_two h p w).1 f g

pub reads_or_spoils : {q : ℕ} {s t out r u : Text} → is_quote q ≡ true → s ≡ t → Reads q s out r → Spoils q t u → ⊥
reads_or_spoils {q = q} l h Reads.close (Spoils.here n) = let e : ◌≡◌ {A = ℕ} q 92 = cc in quote_backslash q l e
reads_or_spoils l h Reads.close (Spoils.later p g) = part_quote l (sym h) p
reads_or_spoils l h (Reads.part p f) (Spoils.here n) = part_bad n h p
reads_or_spoils l h (Reads.part p f) (Spoils.later w g) = reads_or_spoils l (part_two h p w).1 f g

pub separator_two : {s t r u : Text} → s ≡ t → Separator s r → Separator t u → r ≡ u
separator_two h (Separator.blank b l) (Separator.blank c k) = cc
separator_two h (Separator.blank b l) (Separator.line k) = absurd (no_blank b l (cc))
separator_two h (Separator.blank b l) (Separator.bracket n k g) = absurd (no_blank b l (cc))
separator_two h (Separator.line k) (Separator.blank b l) = absurd (no_blank b l (cc))
separator_two h (Separator.line {t = s} k) (Separator.line {t = t} m) = let e : s ≡ t = cc in ap to_line_end e
separator_two h (Separator.line {t = s} k) (Separator.bracket {t = t} {u = v} n m g) = let e : s ≡ t = cc in absurd (k n v (subst (λ x. Opens n x v) (sym e) m))
separator_two h (Separator.bracket n k g) (Separator.blank b l) = absurd (no_blank b l (cc))
separator_two h (Separator.bracket {t = s} {u = v} n k g) (Separator.line {t = t} m) = let e : s ≡ t = cc in absurd (m n v (subst (λ x. Opens n x v) e k))
separator_two h (Separator.bracket n k f) (Separator.bracket m l g) = let e = opens_two (cc) k l in (closes_levels e.0 e.1 f g).1

pub skips_two : {s t r u : Text} → s ≡ t → Skips s r → Skips t u → r ≡ u
skips_two h (Skips.stop f) (Skips.stop g) = h
skips_two h (Skips.stop f) (Skips.further {u = v} p g) = absurd (f v (subst (λ x. Separator x v) (sym h) p))
skips_two h (Skips.further {u = v} p f) (Skips.stop g) = absurd (g v (subst (λ x. Separator x v) h p))
skips_two h (Skips.further p f) (Skips.further w g) = skips_two (separator_two h p w) f g
