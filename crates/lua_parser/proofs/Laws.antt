-- Words spell at most one tree, and where they spell none the machine stops at the first word with which no spelling goes on.
use Rattle.std.proofs.Common.{◌≡◌, ℕ, ◌⊎◌, inl, inr, Bool, true, false, Option, Some, None, ◌<◌, ◌≤◌, [], ◌∷◌, ◌++◌, length, Result, Ok, Err, refl, sym, subst, ap, append_assoc, append-nil, ◌∙◌, arith}
use Rattle.std.proofs.lemmas.List.{length-append}
use Rattle.std.specs.Prelude.{nat_lt}
use Rattle.std.proofs.lemmas.Bool.Decides.{nat_tests}
use Rattle.tl_base.specs.declared.place.ModuleKind.{ModuleKind}
use Rattle.tl_base.specs.declared.place.ModuleKind.TheVariants as module_kind
use Rattle.tl_base.specs.declared.refusal.RefusalCode.{RefusalCode}
use Rattle.tl_base.specs.declared.refusal.RefusalCode.TheVariants as code
use Rattle.lua_tree.specs.declared.syntax.Block.{Block}
use Rattle.lua_parser.specs.Words.{Word, Words}
use Rattle.lua_parser.specs.Grammar.Syntax.{SpellsChunk}
use Rattle.lua_parser.specs.Grammar.Fault.{IsViable, IsDead, FaultAt, HasCode, foreign}
use Rattle.lua_parser.specs.Machine.Plan.{Plan, done, want, want_name, read, Reply, stuck, ends, takes}
use Rattle.lua_parser.specs.Machine.Run.{meet, run, module_plan}
use Rattle.lua_parser.proofs.Viability.Runs.{Outcome, module_outcome}
use Rattle.lua_parser.proofs.Completeness.Plans.{after}
use Rattle.lua_parser.proofs.Completeness.Reads.{chunk_reads}

pub one_tree : {kind : ModuleKind} {a b : Block} {ts : Words} → SpellsChunk kind a ts → SpellsChunk kind b ts → a ≡ b
one_tree {kind = kind} {a = a} {b = b} x y = let e : ◌≡◌ {A = Result Block Words} (Ok a) (Ok b) = sym (chunk_reads kind x) ∙ chunk_reads kind y in cc

module _ (kind : ModuleKind) {A : Type 0} where
  err_once : (us vs : Words) → ◌≡◌ {A = Result A Words} (Err us) (Err vs) → us ≡ vs
  err_once us vs e = cc

  -- what is left is no longer than what was there
  left_short : (ts : Words) (p : Plan A) (rest : Words) → run kind p ts ≡ Err rest → length rest ≤ length ts
  left_short [] (done a) rest e = cc
  left_short [] (want m k) rest e = let d = err_once [] rest e in rw (sym d) (omega arith)
  left_short [] (want_name k) rest e = let d = err_once [] rest e in rw (sym d) (omega arith)
  left_short [] (read j k) rest e = let d = err_once [] rest e in rw (sym d) (omega arith)
  left_short (x ∷ ts) p rest e = go (λ q f. left_short ts q rest f) (meet kind p x) e
    where
      go : ((q : Plan A) → run kind q ts ≡ Err rest → length rest ≤ length ts) → (r : Reply A) → after kind x ts r ≡ Err rest → length rest ≤ length (x ∷ ts)
      go h stuck f = let d = err_once (x ∷ ts) rest f in rw (sym d) (omega arith)
      go h (ends a) f = let d = err_once (x ∷ ts) rest f in rw (sym d) (omega arith)
      go h (takes q) f = omega (arith, h q f)

  -- where a run stops at a word, it stops there whatever follows the word
  stops_there : (front : Words) (p : Plan A) (x : Word) (us vs : Words) → run kind p (front ++ x ∷ us) ≡ Err (x ∷ us) → run kind p (front ++ x ∷ vs) ≡ Err (x ∷ vs)
  stops_there [] p x us vs e = go (meet kind p x) e
    where
      go : (r : Reply A) → after kind x us r ≡ Err (x ∷ us) → after kind x vs r ≡ Err (x ∷ vs)
      go stuck f = refl
      go (ends a) f = refl
      go (takes q) f = absurd (omega (arith, left_short us q (x ∷ us) f))
  stops_there (y ∷ front) p x us vs e = go (λ q f. stops_there front q x us vs f) (meet kind p y) e
    where
      too_long : ◌≡◌ {A = Result A Words} (Err (y ∷ (front ++ x ∷ us))) (Err (x ∷ us)) → ⊥
      too_long f = let d = ap (λ z. length z) (err_once (y ∷ (front ++ x ∷ us)) (x ∷ us) f) in absurd (omega (arith, d, length-append front (x ∷ us)))

      go : ((q : Plan A) → run kind q (front ++ x ∷ us) ≡ Err (x ∷ us) → run kind q (front ++ x ∷ vs) ≡ Err (x ∷ vs)) → (r : Reply A)
          → after kind y (front ++ x ∷ us) r ≡ Err (x ∷ us) → after kind y (front ++ x ∷ vs) r ≡ Err (x ∷ vs)
      go h stuck f = absurd (too_long f)
      go h (ends a) f = absurd (too_long f)
      go h (takes q) f = h q f

module _ (kind : ModuleKind) where
  ok_or_err : (b : Block) (us : Words) → ◌≡◌ {A = Result Block Words} (Ok b) (Err us) → ⊥
  ok_or_err b us e = cc

  dead_at : (front rest : Words) → run kind module_plan (front ++ rest) ≡ Err rest → IsDead kind front rest
  dead_at front [] e = λ b d. ok_or_err b [] (sym (chunk_reads kind d) ∙ ap (run kind module_plan) (sym (append-nil front)) ∙ e)
  dead_at front (x ∷ us) e = λ v. ok_or_err v.1 (x ∷ v.0)
      (sym (chunk_reads kind v.2) ∙ ap (run kind module_plan) (append_assoc front (x ∷ []) v.0) ∙ stops_there kind front module_plan x us v.0 e)

  pub fault_at : (all rest : Words) → run kind module_plan all ≡ Err rest → FaultAt kind all rest
  fault_at all rest e = go (run kind module_plan all) (module_outcome kind all) refl
    where
      go : (r : Result Block Words) → Outcome kind all r → run kind module_plan all ≡ r → FaultAt kind all rest
      go (Ok b) o f = absurd (ok_or_err b rest (sym f ∙ e))
      go (Err us) o f = let d = err_once kind us rest (sym f ∙ e) in
          subst (FaultAt kind all) d (o.0, o.1, o.2, dead_at o.0 us (ap (run kind module_plan) (sym o.1) ∙ f))

  pub spelled : (all : Words) (b : Block) → run kind module_plan all ≡ Ok b → SpellsChunk kind b all
  spelled all b e = subst (Outcome kind all) e (module_outcome kind all)

-- ---- whether a word would go on in a module of a kind, by where a run at that kind stops

pub viable_front : {kind : ModuleKind} (front more : Words) → IsViable kind (front ++ more) → IsViable kind front
viable_front {kind = kind} front more v = (more ++ v.0, v.1, subst (SpellsChunk kind v.1) (append_assoc front more v.0) v.2)

alike : (x y : Word) (c d : Words) → x ≡ y → c ≡ d → ◌≡◌ {A = Words} (y ∷ c) (x ∷ d)
alike x y c d e f = cc

-- two ways to cut words, the first no longer in front than the second
pub cuts : (a b c d : Words) → a ++ b ≡ c ++ d → length d ≤ length b → (m : Words) × (c ≡ a ++ m)
cuts [] b c d e l = (c, refl)
cuts (x ∷ a) b [] d e l = let f = ap (λ z. length z) e in absurd (omega (arith, f, l, length-append a b))
cuts (x ∷ a) b (y ∷ c) d e l = let g : x ≡ y = cc in let f : a ++ b ≡ c ++ d = cc in let r = cuts a b c d f l in (r.0, alike x y c (a ++ r.0) g r.1)

-- A run at the kind goes on past the word.
pub goes_on : (kind : ModuleKind) (front : Words) (x : Word) (us rest : Words) → run kind module_plan (front ++ x ∷ us) ≡ Err rest → length rest < length (x ∷ us) → IsViable kind (front ++ x ∷ [])
goes_on kind front x us rest e l =
    let f = fault_at kind (front ++ x ∷ us) rest e in
    let c = cuts (front ++ x ∷ []) us f.0 rest (append_assoc front (x ∷ []) us ∙ f.1) (omega arith) in
    viable_front (front ++ x ∷ []) c.0 (subst (IsViable kind) c.1 f.2)

pub whole_goes_on : (kind : ModuleKind) (front : Words) (x : Word) (us : Words) (b : Block) → run kind module_plan (front ++ x ∷ us) ≡ Ok b → IsViable kind (front ++ x ∷ [])
whole_goes_on kind front x us b e = (us, b, subst (SpellsChunk kind b) (sym (append_assoc front (x ∷ []) us)) (spelled kind _ b e))

-- A run at the kind stops at the word or before.
pub stops_before : (kind : ModuleKind) (front : Words) (x : Word) (us rest : Words) → run kind module_plan (front ++ x ∷ us) ≡ Err rest → length (x ∷ us) ≤ length rest → IsViable kind (front ++ x ∷ []) → ⊥
stops_before kind front x us [] e l v = omega (arith, l)
stops_before kind front x us (z ∷ rest) e l v =
    let f = fault_at kind (front ++ x ∷ us) (z ∷ rest) e in
    let c = cuts (f.0 ++ z ∷ []) rest (front ++ x ∷ []) us (append_assoc f.0 (z ∷ []) rest ∙ sym f.1 ∙ sym (append_assoc front (x ∷ []) us)) (omega (arith, l)) in
    f.3 (viable_front (f.0 ++ z ∷ []) c.0 (subst (IsViable kind) c.1 v))

-- ---- the first fault is one, and there is one exactly where no tree is spelled

pub same_length : (a b c d : Words) → a ++ b ≡ c ++ d → length b ≡ length d → b ≡ d
same_length [] b [] d e l = e
same_length [] b (y ∷ c) d e l = let f = ap (λ z. length z) e in absurd (omega (arith, f, l, length-append c d))
same_length (x ∷ a) b [] d e l = let f = ap (λ z. length z) e in absurd (omega (arith, f, l, length-append a b))
same_length (x ∷ a) b (y ∷ c) d e l = let f : a ++ b ≡ c ++ d = cc in same_length a b c d f l

-- a front that can go on, and an earlier first word that can't
pub not_earlier : {kind : ModuleKind} (all front rest other left : Words) → all ≡ front ++ rest → IsViable kind front → all ≡ other ++ left → IsDead kind other left → length rest < length left → ⊥
not_earlier all front rest other [] e v f d l = omega (arith, l)
not_earlier all front rest other (x ∷ left) e v f d l =
    let c = cuts (other ++ x ∷ []) left front rest (append_assoc other (x ∷ []) left ∙ sym f ∙ e) (omega (arith, l)) in
    d (viable_front (other ++ x ∷ []) c.0 (subst (IsViable _) c.1 v))

pub shorter_or_not : (n m : ℕ) → (n < m) ⊎ (m ≤ n)
shorter_or_not n m = go (nat_lt n m) refl
  where
    go : (c : Bool) → nat_lt n m ≡ c → (n < m) ⊎ (m ≤ n)
    go true e = inl (grind (arith, nat_tests))
    go false e = inr (grind (arith, nat_tests))

pub one_fault : {kind : ModuleKind} {all r s : Words} → FaultAt kind all r → FaultAt kind all s → r ≡ s
one_fault {all = all} {r = r} {s = s} f g = go (shorter_or_not (length r) (length s)) (shorter_or_not (length s) (length r))
  where
    go : (length r < length s) ⊎ (length s ≤ length r) → (length s < length r) ⊎ (length r ≤ length s) → r ≡ s
    go (inl l) m = absurd (not_earlier all f.0 r g.0 s f.1 f.2 g.1 g.3 l)
    go (inr l) (inl m) = absurd (not_earlier all g.0 s f.0 r g.1 g.2 f.1 f.3 m)
    go (inr l) (inr m) = same_length f.0 r g.0 s (sym f.1 ∙ g.1) (omega arith)

pub no_tree_at_fault : {kind : ModuleKind} {all rest : Words} {b : Block} → SpellsChunk kind b all → FaultAt kind all rest → ⊥
no_tree_at_fault {kind = kind} {rest = []} {b = b} d f = f.3 b (subst (SpellsChunk kind b) (f.1 ∙ append-nil f.0) d)
no_tree_at_fault {kind = kind} {rest = x ∷ us} {b = b} d f = f.3 (us, b, subst (SpellsChunk kind b) (f.1 ∙ sym (append_assoc f.0 (x ∷ []) us)) d)

pub tree_or_fault : (kind : ModuleKind) (all : Words) → ((b : Block) × SpellsChunk kind b all) ⊎ ((rest : Words) × FaultAt kind all rest)
tree_or_fault kind all = go (run kind module_plan all) refl
  where
    go : (r : Result Block Words) → run kind module_plan all ≡ r → ((b : Block) × SpellsChunk kind b all) ⊎ ((rest : Words) × FaultAt kind all rest)
    go (Ok b) e = inl (b, spelled kind all b e)
    go (Err rest) e = inr (rest, fault_at kind all rest e)

pub one_code : {front rest : Words} {c d : RefusalCode} → HasCode front rest c → HasCode front rest d → c ≡ d
one_code (HasCode.foreign_word {c = c} x e) (HasCode.foreign_word {c = d} y f) = let g : Some c ≡ Some d = sym e ∙ f in cc
one_code (HasCode.foreign_word {c = c} x e) (HasCode.types y f v) = let g : Some c ≡ None = sym e ∙ f in cc
one_code (HasCode.foreign_word {c = c} x e) (HasCode.other y f v) = let g : Some c ≡ None = sym e ∙ f in cc
one_code (HasCode.types x e v) (HasCode.foreign_word {c = c} y f) = let g : None ≡ Some c = sym e ∙ f in cc
one_code (HasCode.types x e v) (HasCode.types y f u) = refl
one_code (HasCode.types x e v) (HasCode.other y f u) = absurd (u v)
one_code (HasCode.other x e v) (HasCode.foreign_word {c = c} y f) = let g : None ≡ Some c = sym e ∙ f in cc
one_code (HasCode.other x e v) (HasCode.types y f u) = absurd (v u)
one_code (HasCode.other x e v) (HasCode.other y f u) = refl

-- each first fault has a code
pub has_code : (front : Words) (x : Word) (us : Words) → (c : RefusalCode) × HasCode front (x ∷ us) c
has_code front x us = go (foreign x.kind) refl
  where
    typed : (r : Result Block Words) → run module_kind.Typed module_plan (front ++ x ∷ us) ≡ r → foreign x.kind ≡ None → (c : RefusalCode) × HasCode front (x ∷ us) c
    typed (Ok b) e n = (code.P5, HasCode.types x n (whole_goes_on module_kind.Typed front x us b e))
    typed (Err rest) e n = past (shorter_or_not (length rest) (length (x ∷ us)))
      where
        past : (length rest < length (x ∷ us)) ⊎ (length (x ∷ us) ≤ length rest) → (c : RefusalCode) × HasCode front (x ∷ us) c
        past (inl l) = (code.P5, HasCode.types x n (goes_on module_kind.Typed front x us rest e l))
        past (inr l) = (code.P1, HasCode.other x n (stops_before module_kind.Typed front x us rest e l))

    go : (r : Option RefusalCode) → foreign x.kind ≡ r → (c : RefusalCode) × HasCode front (x ∷ us) c
    go (Some c) e = (c, HasCode.foreign_word x e)
    go None e = typed (run module_kind.Typed module_plan (front ++ x ∷ us)) refl e
