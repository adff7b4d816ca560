-- The first label that is over the limits, where labels are looked at one after the other.
use Rattle.std.proofs.Common.{◌≡◌, ℕ, ◌+◌, ◌-◌, ◌<◌, ◌≤◌, ◌⊎◌, inl, inr, Bool, true, false, Option, Some, None, List, length, reverse, map, get_or, refl, sym, subst, ap, ◌∙◌, arith}
use Rattle.std.specs.Prelude.{nat_eq, IsTrue}
use Rattle.std.proofs.lemmas.List.{length-map, length-reverse, get_or-map, get_or-reverse}
use Rattle.std.proofs.lemmas.Bool.Decides.{nat_tests}
use Rattle.lua_parser.specs.Grammar.Depth.{Label}
use Rattle.lua_parser.specs.Grammar.TooDeep.{Limits, limits, IsOver, plain}
use Rattle.lua_parser.specs.declared.labels.Label as declared_label
use Rattle.lua_parser.specs.Words.{Words}
use Rattle.lua_parser.specs.Counting.Labels.{label_of}
use Rattle.lua_parser.specs.Counting.Count.{Count, count, start}
use Rattle.lua_parser.specs.Counting.Most.{rise}
use Rattle.lua_parser.specs.Counting.Verdict.{IsFirst, IsSettled, IsVerdict}
use Rattle.lua_parser.proofs.Counting.Labels.{count_length}

seen_label : (xs : List declared_label.Label) (n : ℕ) (d : declared_label.Label) → n < length xs → get_or (reverse (map label_of xs)) n plain ≡ label_of (get_or (reverse xs) n d)
seen_label xs n d l =
    let m : length (map label_of xs) ≡ length xs = length-map xs label_of in
    get_or-reverse (map label_of xs) n plain (omega (arith, l, m)) ∙ ap (λ z. get_or (map label_of xs) (z - 1 - n) plain) m
    ∙ get_or-map label_of xs (length xs - 1 - n) d plain (omega (arith, l)) ∙ ap label_of (sym (get_or-reverse xs n d l))

same_or_less : (i n : ℕ) → i < n + 1 → (i < n) ⊎ (i ≡ n)
same_or_less i n l = go (nat_eq i n) refl
  where
    go : (c : Bool) → nat_eq i n ≡ c → (i < n) ⊎ (i ≡ n)
    go true e = inr (grind (arith, nat_tests))
    go false e = inl (grind (arith, nat_tests))

-- none of one label more, where the next isn't over
pub none_more : (m : Limits) (xs ys : List declared_label.Label) (ls : List Label) (n : ℕ) (d : declared_label.Label) (b : Bool) → ys ≡ reverse xs → ls ≡ map label_of xs → ((i : ℕ) → i < n → IsOver m (get_or (reverse ls) i plain) → ⊥)
    → n < length ys → b ≡ false → (IsOver m (label_of (get_or ys n d)) → IsTrue b) → (i : ℕ) → i < n + 1 → IsOver m (get_or (reverse ls) i plain) → ⊥
none_more m xs ys ls n d b e f before l c over i h o = go (same_or_less i n h)
  where
    there : n < length xs
    there = let a = ap (λ z. length z) e in omega (arith, l, a, length-reverse xs)

    at : get_or (reverse ls) n plain ≡ label_of (get_or ys n d)
    at = ap (λ z. get_or (reverse z) n plain) f ∙ seen_label xs n d there ∙ ap (λ z. label_of (get_or z n d)) (sym e)

    go : (i < n) ⊎ (i ≡ n) → ⊥
    go (inl j) = before i j o
    go (inr j) = let no : false ≡ true = subst IsTrue c (over (subst (IsOver m) at (subst (λ z. IsOver m (get_or (reverse ls) z plain)) j o))) in cc

-- ---- the verdict

as_many : (ts : Words) → length (reverse (count ts start).reached.labels) ≡ length ts
as_many ts = length-reverse (count ts start).reached.labels ∙ count_length ts start ∙ omega arith

verdict_of : (ts : Words) (first : Option ℕ) (words later : ℕ) → words ≡ length ts → IsFirst limits (reverse (count ts start).reached.labels) first → later ≡ rise (count ts start).expected (count ts start).height → IsSettled first words later
    → IsVerdict limits ts first
verdict_of ts None words later l f e s = record { none = λ n h. f n (omega (arith, h, as_many ts)); settled = omega (arith, e, s) }
verdict_of ts (Some n) words later l f e s = record { there = omega (arith, f.0, as_many ts); over = f.1; none = f.2; settled = go s }
  where
    go : (n + 1 < words) ⊎ (later ≤ 1000) → (n + 1 < length ts) ⊎ (rise (count ts start).expected (count ts start).height ≤ 1000)
    go (inl h) = inl (omega (arith, l, h))
    go (inr h) = inr (omega (arith, e, h))

pub is_verdict : (ts : Words) (t : Count) (first : Option ℕ) (words later : ℕ) → t ≡ count ts start → words ≡ length ts → IsFirst limits (reverse t.reached.labels) first → later ≡ rise t.expected t.height → IsSettled first words later → IsVerdict limits ts first
is_verdict ts t first words later c l f e s =
    verdict_of ts first words later l (subst (λ z. IsFirst limits (reverse z.reached.labels) first) c f) (subst (λ z. later ≡ rise z.expected z.height) c e) s
