-- The laws of the border.
use Rattle.std.proofs.Common.{◌≡◌, ℕ, zero, suc, ◌+◌, ◌<◌, ◌≤◌, pos, Bool, true, false, cond, ◌||◌, List, [], ◌∷◌, length, Option, None, Some, refl, sym, ap, ◌∙◌, arith, ◌-◌, ◌^◌, ◌≢◌, min, ⊎_elim}
use Rattle.std.specs.Option.{is_some, IsSome}
use Rattle.std.specs.List.{IsDistinct, AllByRecursion, list_any}
use Rattle.std.proofs.lemmas.Map.Keys.{IsDistinct-cons}
use Rattle.std.proofs.lemmas.Map.Steps.{length-le_from_keys}
use borrow.Author.Count.{below_more}
use Rattle.lua_values.specs.Values.{same_value, is_nil}
use Rattle.lua_values.specs.Sameness.{same_value-Decides, same_value_equiv}
use Rattle.lua_values.specs.Tables.{Entries, shown_at, listed_at, get, nth, IsShownBelow, IsBorder, border_from, border, put}
use Rattle.lua_values.proofs.Tables.{get-put_same, get-put_other}
use Rattle.std.proofs.lemmas.Bool.{cases_lt}
use Rattle.lua_values.specs.declared.value.Value.{Value}
use Rattle.lua_values.specs.declared.value.Value.TheVariants.{Nil, Int}

-- ---- as many entries as numbers that show values

-- the keys from 1 to n, the greatest first
abbrev numbers : ℕ → List Value
numbers zero = []
numbers (suc n) = nth n ∷ numbers n

length-numbers : (n : ℕ) → length (numbers n) ≡ n
length-numbers zero = refl
length-numbers (suc n) = ap suc (length-numbers n)

nth-injective : (m n : ℕ) → nth m ≡ nth n → m ≡ n
nth-injective m n e =
    let same : Int (pos (m + 1)) ≡ Int (pos (n + 1)) = e in
    let inside : pos (m + 1) ≡ pos (n + 1) = cc in
    let number : m + 1 ≡ n + 1 = cc in
    omega arith

apart_step : (m n : ℕ) (b : Bool) → same_value (nth m) (nth n) ≡ b → n < m → b ≡ false
apart_step m n true same h = absurd (let e = nth-injective m n ((same_value-Decides (nth m) (nth n)).0 same) in omega arith)
apart_step m n false same h = refl

nth-apart : (m n : ℕ) → n < m → same_value (nth m) (nth n) ≡ false
nth-apart m n h = apart_step m n (same_value (nth m) (nth n)) refl h

numbers-below : (m n : ℕ) → n ≤ m → AllByRecursion (λ y. same_value (nth m) y ≡ false) (numbers n)
numbers-below m zero h = tt
numbers-below m (suc n) h = (nth-apart m n (omega arith), numbers-below m n (omega arith))

distinct-numbers : (n : ℕ) → IsDistinct same_value (numbers n)
unfolding IsDistinct
distinct-numbers zero = tt
distinct-numbers (suc n) = IsDistinct-cons same_value (nth n) (numbers n) (numbers-below n n (omega arith)) (distinct-numbers n)

shown_listed : (es : Entries) (k : Value) (o : Option (Option Value)) → listed_at es k ≡ o → is_nil (shown_at o) ≡ false → IsSome (listed_at es k)
shown_listed es k None found shown = absurd (let e : true ≡ false = shown in cc)
shown_listed es k (Some slot) found shown = ap is_some found

-- a key that shows a value is listed
pub listed-shown : (es : Entries) (k : Value) → is_nil (get es k) ≡ false → IsSome (listed_at es k)
listed-shown es k shown = shown_listed es k (listed_at es k) refl shown

listed_number : (es : Entries) (q : Value) (n : ℕ) (b : Bool) → same_value q (nth n) ≡ b → is_nil (get es (nth n)) ≡ false → (b || list_any (same_value q) (numbers n)) ≡ true
    → (list_any (same_value q) (numbers n) ≡ true → IsSome (listed_at es q))
    → IsSome (listed_at es q)
listed_number es q n true same shown there more = ap (λ k. is_some (listed_at es k)) ((same_value-Decides q (nth n)).0 same) ∙ listed-shown es (nth n) shown
listed_number es q n false same shown there more = more there

listed_numbers : (es : Entries) (n : ℕ) → IsShownBelow es n → (q : Value) → list_any (same_value q) (numbers n) ≡ true → IsSome (listed_at es q)
listed_numbers es zero shown q there = absurd (let e : false ≡ true = there in cc)
listed_numbers es (suc n) shown q there =
    listed_number es q n (same_value q (nth n)) refl (shown n (omega arith)) there (λ h. listed_numbers es n (λ k below. shown k (omega arith)) q h)

-- so many numbers from 1 on show values that there are at least as many entries
pub shown-length : (es : Entries) (n : ℕ) → IsShownBelow es n → n ≤ length es
shown-length es n shown = omega (arith, length-le_from_keys same_value_equiv (numbers n) es (distinct-numbers n) (listed_numbers es n shown), length-numbers n)

full_step : (es : Entries) (n : ℕ) (b : Bool) → is_nil (get es (nth n)) ≡ b → IsShownBelow es n → length es ≤ n → get es (nth n) ≡ Nil
full_step es n true nothing shown full = (same_value-Decides (get es (nth n)) Nil).0 nothing
full_step es n false present shown full =
    let P : ℕ → Type 0 = λ k. is_nil (get es (nth k)) ≡ false in
    absurd (let most = shown-length es (n + 1) (below_more P n shown present) in omega arith)

-- where as many numbers as there are entries show values, the next shows nil
pub full-nil : (es : Entries) (n : ℕ) → IsShownBelow es n → length es ≤ n → get es (nth n) ≡ Nil
full-nil es n shown full = full_step es n (is_nil (get es (nth n))) refl shown full

border_step : (steps : ℕ) (es : Entries) (n : ℕ) (b : Bool) → is_nil (get es (nth n)) ≡ b → IsShownBelow es n → (IsShownBelow es (n + 1) → IsBorder es (border_from steps es (n + 1)))
    → IsBorder es (cond b n (border_from steps es (n + 1)))
border_step steps es n true nothing shown more = record { at_end = (same_value-Decides (get es (nth n)) Nil).0 nothing; below = shown }
border_step steps es n false present shown more =
    let P : ℕ → Type 0 = λ k. is_nil (get es (nth k)) ≡ false in
    more (below_more P n shown present)

border_from-is : (steps : ℕ) (es : Entries) (n : ℕ) → IsShownBelow es n → length es ≤ n + steps → IsBorder es (border_from steps es n)
border_from-is zero es n shown enough = record { at_end = full-nil es n shown (omega arith); below = shown }
border_from-is (suc steps) es n shown enough = border_step steps es n (is_nil (get es (nth n))) refl shown (λ more. border_from-is steps es (n + 1) more (omega arith))

-- the border is one: no number from 1 to it shows nil, and the next does
pub border-is : (es : Entries) → IsBorder es (border es)
border-is es = border_from-is (length es) es 0 (λ k h. absurd (omega arith)) (omega arith)

not_below : (es : Entries) (m n : ℕ) → IsBorder es m → IsBorder es n → m < n → ⊥
not_below es m n at_m at_n h =
    let nothing : is_nil (get es (nth m)) ≡ true = ap is_nil at_m.at_end in
    let present : is_nil (get es (nth m)) ≡ false = at_n.below m h in
    cc

-- and there is no other
pub one_border : (es : Entries) (m n : ℕ) → IsBorder es m → IsBorder es n → m ≡ n
one_border es m n at_m at_n = omega (arith, not_below es m n at_m at_n, not_below es n m at_n at_m)

-- no number below it has nil behind it
pub border-least : (es : Entries) (n : ℕ) → get es (nth n) ≡ Nil → border es ≤ n
border-least es n nothing =
    ⊎_elim
    (λ below.
    let empty : is_nil (get es (nth n)) ≡ true = ap is_nil nothing in
    let present : is_nil (get es (nth n)) ≡ false = (border-is es).below n below in
    absurd (let differ : true ≡ false = sym empty ∙ present in cc))
    (λ above. above)
    (cases_lt n (border es))

-- ---- how the border moves

-- the number before a key that is a positive integer, and else a number past all those
abbrev pub place_of : Value → ℕ
place_of (Int (pos (suc n))) = n
place_of _ = 2 ^ 64 - 1

place-nth : (n : ℕ) → place_of (nth n) ≡ n
place-nth n = ap (λ m. place_of (Int (pos m))) (let next : n + 1 ≡ suc n = omega arith in next)

place-is : (k : Value) → place_of k < 2 ^ 64 - 1 → k ≡ nth (place_of k)
place-is (Int (pos (suc n))) h = ap (λ m. Int (pos m)) (let next : suc n ≡ n + 1 = omega arith in next)
place-is _ h = absurd (omega arith)

apart_place : (k : Value) (b : ℕ) (t : Bool) → same_value (nth b) k ≡ t → place_of k ≢ b → t ≡ false
apart_place k b true same apart = absurd (apart (ap place_of (sym ((same_value-Decides (nth b) k).0 same)) ∙ place-nth b))
apart_place k b false same apart = refl

apart-nth : (k : Value) (b : ℕ) → place_of k ≢ b → same_value (nth b) k ≡ false
apart-nth k b apart = apart_place k b (same_value (nth b) k) refl apart

stored_step : (es : Entries) (k v : Value) (j : ℕ) (t : Bool) → same_value (nth j) k ≡ t → is_nil v ≡ false → is_nil (get es (nth j)) ≡ false → is_nil (get (put es k (Some v)) (nth j)) ≡ false
stored_step es k v j true same present shown = ap (λ q. is_nil (get (put es k (Some v)) q)) ((same_value-Decides (nth j) k).0 same) ∙ ap is_nil (get-put_same es k (Some v)) ∙ present
stored_step es k v j false same present shown = ap is_nil (get-put_other es k (nth j) (Some v) same) ∙ shown

-- a store hides no value
pub shown-stored : (es : Entries) (k v : Value) (b : ℕ) → is_nil v ≡ false → IsShownBelow es b → IsShownBelow (put es k (Some v)) b
shown-stored es k v b present shown = λ j h. stored_step es k v j (same_value (nth j) k) refl present (shown j h)

-- a store elsewhere than at the border leaves it
pub border-stored : (es : Entries) (k v : Value) (b : ℕ) → is_nil v ≡ false → IsBorder es b → place_of k ≢ b → IsBorder (put es k (Some v)) b
border-stored es k v b present at apart =
    record { at_end = get-put_other es k (nth b) (Some v) (apart-nth k b apart) ∙ at.at_end; below = shown-stored es k v b present at.below }

removed_end : (es : Entries) (k : Value) (b n : ℕ) (t : Bool) → same_value (nth n) k ≡ t → IsBorder es b → b < 2 ^ 64 → n ≡ min b (place_of k) → get (put es k None) (nth n) ≡ Nil
removed_end es k b n true same at small least = ap (get (put es k None)) ((same_value-Decides (nth n) k).0 same) ∙ get-put_same es k None
removed_end es k b n false same at small least =
    ⊎_elim
    (λ less.
    let number : nth n ≡ k = ap nth (let e : n ≡ place_of k = omega arith in e) ∙ sym (place-is k (omega arith)) in
    let found : same_value (nth n) k ≡ true = (same_value-Decides (nth n) k).1 number in
    absurd (let differ : true ≡ false = sym found ∙ same in cc))
    (λ more. get-put_other es k (nth n) None same ∙ ap (λ m. get es (nth m)) (let e : n ≡ b = omega arith in e) ∙ at.at_end)
    (cases_lt (place_of k) b)

-- a removal lowers the border to the key, if that is a number below it
pub border-after_removal : (es : Entries) (k : Value) (b : ℕ) → IsBorder es b → b < 2 ^ 64 → IsBorder (put es k None) (min b (place_of k))
border-after_removal es k b at small =
    let n : ℕ = min b (place_of k) in
    record {
      at_end = removed_end es k b n (same_value (nth n) k) refl at small refl;
      below = λ j h. ap is_nil (get-put_other es k (nth j) None (apart-nth k j (λ e. omega arith))) ∙ at.below j (omega arith);
    }
