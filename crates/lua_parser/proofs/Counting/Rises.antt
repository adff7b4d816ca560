-- How high the last words may rise, sign by sign.
use Rattle.std.proofs.Common.{◌≡◌, ℕ, max, List, [], ◌∷◌, Option, Some, None, refl, sym, ap, ◌∙◌, arith}
use Rattle.lua_parser.specs.declared.signs.Sign.{Sign}
use Rattle.lua_parser.specs.declared.signs.Sign.TheVariants.{BehindBar as behind_bar}
use Rattle.lua_parser.specs.Counting.Most.{tells, passes, most_from, bars, bar_of, rise}

bars_step : (x : Sign) (ss : List Sign) → bars (x ∷ ss) ≡ max (bar_of x) (bars ss)
bars_step (behind_bar p m) ss = refl
bars_step x ss = grind arith

-- what is found so far, and what the other signs may yet tell
abbrev pub found : ℕ → Option ℕ → List Sign → ℕ
found most read_last ss = max most (max (most_from read_last ss) (bars ss))

pub found_nothing : (ss : List Sign) (h : ℕ) → found 0 (Some h) ss ≡ rise ss h
found_nothing ss h = grind arith

none_left : (o : Option ℕ) → most_from o [] ≡ 0
none_left None = refl
none_left (Some h) = refl

pub found_all : (most : ℕ) (o : Option ℕ) → found most o [] ≡ most
found_all most o = let e = none_left o in grind arith

regroup : (m t b r s : ℕ) → max (max (max m t) b) (max r s) ≡ max m (max (max t r) (max b s))
regroup m t b r s = grind arith

pub found_told : (most h t b : ℕ) (o : Option ℕ) (x : Sign) (ss : List Sign) → t ≡ tells x h → o ≡ passes x h → b ≡ bar_of x → found (max (max most t) b) o ss ≡ found most (Some h) (x ∷ ss)
found_told most h t b o x ss e f g =
    (λ i. found (max (max most (e i)) (g i)) (f i) ss) ∙ regroup most (tells x h) (bar_of x) (most_from (passes x h) ss) (bars ss)
    ∙ ap (λ z. max most (max (max (tells x h) (most_from (passes x h) ss)) z)) (sym (bars_step x ss))

without : (m b s : ℕ) → max (max m b) (max 0 s) ≡ max m (max 0 (max b s))
without m b s = grind arith

pub found_bar : (most b : ℕ) (x : Sign) (ss : List Sign) → b ≡ bar_of x → found (max most b) None ss ≡ found most None (x ∷ ss)
found_bar most b x ss e = ap (λ z. found (max most z) None ss) e ∙ without most (bar_of x) (bars ss) ∙ ap (λ z. max most (max 0 z)) (sym (bars_step x ss))
