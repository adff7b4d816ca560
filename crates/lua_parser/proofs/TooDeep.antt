-- At most one word is the first that is too deep, and it stands before the first fault.
use Rattle.std.proofs.Common.{◌≡◌, ◌<◌, ◌≤◌, ◌⊎◌, inl, inr, [], ◌∷◌, ◌++◌, length, refl, sym, subst, ap, ◌∙◌, arith}
use Rattle.std.proofs.lemmas.List.{length-append}
use Rattle.tl_base.specs.declared.place.ModuleKind.{ModuleKind}
use Rattle.lua_parser.specs.Words.{Word, Words}
use Rattle.lua_parser.specs.Grammar.Fault.{FaultAt}
use Rattle.lua_parser.specs.Grammar.TooDeep.{Limits, Readable, IsOverIn, TooDeepAt}
use Rattle.lua_parser.proofs.Laws.{one_fault, no_tree_at_fault, same_length, shorter_or_not}

more_same : (x y : Word) (us vs : Words) → x ≡ y → us ≡ vs → ◌≡◌ {A = Words} (x ∷ us) (y ∷ vs)
more_same x y us vs e f = cc

-- two ways to cut the same words with as much behind
same_front : (a b c d : Words) → a ++ b ≡ c ++ d → length b ≡ length d → a ≡ c
same_front [] b [] d e l = refl
same_front [] b (y ∷ c) d e l = let f = ap (λ z. length z) e in absurd (omega (arith, f, l, length-append c d))
same_front (x ∷ a) b [] d e l = let f = ap (λ z. length z) e in absurd (omega (arith, f, l, length-append a b))
same_front (x ∷ a) b (y ∷ c) d e l = let g : x ≡ y = cc in let f : a ++ b ≡ c ++ d = cc in more_same x y a c g (same_front a b c d f l)

pub one_readable : {kind : ModuleKind} {all u v : Words} → Readable kind all u → Readable kind all v → u ≡ v
one_readable (Readable.whole d) (Readable.whole f) = refl
one_readable (Readable.whole d) (Readable.before_fault {front = front} rest e v k) = absurd (no_tree_at_fault d (front, e, v, k))
one_readable (Readable.before_fault {front = front} rest e v k) (Readable.whole d) = absurd (no_tree_at_fault d (front, e, v, k))
one_readable (Readable.before_fault {front = front} rest e v k) (Readable.before_fault {front = other} left f w j) =
    same_front front rest other left (sym e ∙ f) (ap (λ z. length z) (one_fault (front, e, v, k) (other, f, w, j)))

pub one_too_deep : {m : Limits} {kind : ModuleKind} {all r s : Words} → TooDeepAt m kind all r → TooDeepAt m kind all s → r ≡ s
one_too_deep {m = m} {kind = kind} {all = all} {r = r} {s = s} x y = go (shorter_or_not (length x.1) (length y.1)) (shorter_or_not (length y.1) (length x.1))
  where
    go : (length x.1 < length y.1) ⊎ (length y.1 ≤ length x.1) → (length y.1 < length x.1) ⊎ (length x.1 ≤ length y.1) → r ≡ s
    go (inl l) n = absurd (y.5 (length x.1) l (subst (λ z. IsOverIn m kind z (length x.1)) (one_readable x.2 y.2) x.4))
    go (inr l) (inl n) = absurd (x.5 (length y.1) n (subst (λ z. IsOverIn m kind z (length y.1)) (one_readable y.2 x.2) y.4))
    go (inr l) (inr n) = let f = ap (λ z. length z) (sym x.3 ∙ y.3) in same_length x.1 r y.1 s (sym x.3 ∙ y.3) (omega (arith, f, l, n, length-append x.1 r, length-append y.1 s))

-- what is left at the first fault is less than what is left at the first word that is too deep
pub too_deep_first : {m : Limits} {kind : ModuleKind} {all r s : Words} → TooDeepAt m kind all r → FaultAt kind all s → length s < length r
too_deep_first {all = all} {r = r} {s = s} x f =
    let e : x.0 ≡ f.0 = one_readable x.2 (Readable.before_fault s f.1 f.2 f.3) in
    let l : length x.0 ≡ length f.0 = ap (λ z. length z) e in
    let g : length (x.1 ++ r) ≡ length (f.0 ++ s) = ap (λ z. length z) (sym x.3 ∙ f.1) in
    omega (arith, x.4.0, l, g, length-append x.1 r, length-append f.0 s)
