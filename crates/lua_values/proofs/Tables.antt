-- The laws of a table: what a store changes and what it leaves, and where `next` goes.
use Rattle.std.proofs.Common.{◌≡◌, ℕ, suc, ◌+◌, Bool, true, false, not, cond, List, [], ◌∷◌, ◌++◌, length, drop, Option, None, Some, refl, sym, ap, ◌∙◌, arith, subst, nat_lt}
use Rattle.std.proofs.lemmas.Bool.{lt-ltb}
use Rattle.std.proofs.lemmas.Bool.Decides.{nat_tests}
use Rattle.std.specs.Prelude.{option_map}
use Rattle.std.specs.Map.{keys_of}
use Rattle.std.specs.Option.{is_some}
use Rattle.std.specs.List.{IsDistinct, list_any, position_or_len}
use Rattle.std.proofs.lemmas.Map.Keys.{IsDistinct-push}
use Rattle.std.proofs.lemmas.Map.Made.{is_some-lookup}
use Rattle.lua_values.specs.Values.{same_value, is_nil}
use Rattle.lua_values.specs.Sameness.{same_value-Decides, same_value_equiv}
use Rattle.lua_values.specs.Tables.{Entries, shown, shown_at, listed_at, get, put, set, first_present, behind, next_of, AreDistinct}
use Rattle.lua_values.specs.Laws.{IsListed, IsUnlisted, AreRemoved}
use Rattle.lua_values.specs.declared.value.Value.{Value}
use Rattle.lua_values.specs.declared.value.Value.TheVariants.{Nil}

-- ---- a slot put at a key

put_step : (e : Value × Option Value) (es : Entries) (k : Value) (w : Option Value) (b : Bool) → same_value k e.0 ≡ b → listed_at (put es k w) k ≡ Some w
    → listed_at (cond b ((e.0, w) ∷ es) (e ∷ put es k w)) k ≡ Some w
put_step e es k w true h more = ap (λ b. cond b (Some w) (listed_at es k)) h
put_step e es k w false h more = ap (λ b. cond b (Some e.1) (listed_at (put es k w) k)) h ∙ more

-- the key has the slot
pub listed-put_same : (es : Entries) (k : Value) (w : Option Value) → listed_at (put es k w) k ≡ Some w
listed-put_same [] k w = ap (λ b. cond b (Some w) None) (same_value_equiv.refl k)
listed-put_same (e ∷ es) k w = put_step e es k w (same_value k e.0) refl (listed-put_same es k w)

other_step : (e : Value × Option Value) (es : Entries) (k j : Value) (w : Option Value) (b : Bool) → same_value k e.0 ≡ b → same_value j k ≡ false
    → listed_at (put es k w) j ≡ listed_at es j
    → listed_at (cond b ((e.0, w) ∷ es) (e ∷ put es k w)) j ≡ listed_at (e ∷ es) j
other_step e es k j w true h apart more =
    let differs : same_value j e.0 ≡ false = ap (same_value j) (sym ((same_value-Decides k e.0).0 h)) ∙ apart in
    ap (λ b. cond b (Some w) (listed_at es j)) differs ∙ sym (ap (λ b. cond b (Some e.1) (listed_at es j)) differs)
other_step e es k j w false h apart more = ap (λ rest. cond (same_value j e.0) (Some e.1) rest) more

-- and every other key has what it had
pub listed-put_other : (es : Entries) (k j : Value) (w : Option Value) → same_value j k ≡ false → listed_at (put es k w) j ≡ listed_at es j
listed-put_other [] k j w apart = ap (λ b. cond b (Some w) None) apart
listed-put_other (e ∷ es) k j w apart = other_step e es k j w (same_value k e.0) refl apart (listed-put_other es k j w apart)

pub get-put_same : (es : Entries) (k : Value) (w : Option Value) → get (put es k w) k ≡ shown w
get-put_same es k w = ap shown_at (listed-put_same es k w)

pub get-put_other : (es : Entries) (k j : Value) (w : Option Value) → same_value j k ≡ false → get (put es k w) j ≡ get es j
get-put_other es k j w apart = ap shown_at (listed-put_other es k j w apart)

keys_step : (e : Value × Option Value) (es : Entries) (k : Value) (w : Option Value) (b : Bool) → same_value k e.0 ≡ b → is_some (listed_at (e ∷ es) k) ≡ true
    → (is_some (listed_at es k) ≡ true → keys_of (put es k w) ≡ keys_of es)
    → keys_of (cond b ((e.0, w) ∷ es) (e ∷ put es k w)) ≡ keys_of (e ∷ es)
keys_step e es k w true h there more = refl
keys_step e es k w false h there more = ap (λ ks. e.0 ∷ ks) (more (sym (ap (λ b. is_some (cond b (Some e.1) (listed_at es k))) h) ∙ there))

-- a listed key keeps its place
pub keys-put_listed : (es : Entries) (k : Value) (w : Option Value) → is_some (listed_at es k) ≡ true → keys_of (put es k w) ≡ keys_of es
keys-put_listed [] k w there = cc
keys-put_listed (e ∷ es) k w there = keys_step e es k w (same_value k e.0) refl there (keys-put_listed es k w)

new_step : (e : Value × Option Value) (es : Entries) (k : Value) (w : Option Value) (b : Bool) → same_value k e.0 ≡ b → listed_at (e ∷ es) k ≡ None
    → (listed_at es k ≡ None → put es k w ≡ es ++ (k, w) ∷ [])
    → cond b ((e.0, w) ∷ es) (e ∷ put es k w) ≡ e ∷ (es ++ (k, w) ∷ [])
new_step e es k w true h absent more = absurd (let found : Some e.1 ≡ None = sym (ap (λ b. cond b (Some e.1) (listed_at es k)) h) ∙ absent in cc)
new_step e es k w false h absent more = ap (λ rest. e ∷ rest) (more (sym (ap (λ b. cond b (Some e.1) (listed_at es k)) h) ∙ absent))

-- and a new one goes last
pub put-new : (es : Entries) (k : Value) (w : Option Value) → listed_at es k ≡ None → put es k w ≡ es ++ (k, w) ∷ []
put-new [] k w absent = refl
put-new (e ∷ es) k w absent = new_step e es k w (same_value k e.0) refl absent (put-new es k w)

-- ---- keys are listed once

unlisted_step : (es : Entries) (k : Value) → listed_at es k ≡ None → list_any (same_value k) (keys_of es) ≡ false
unlisted_step es k absent = sym (is_some-lookup (same_value k) es) ∙ ap is_some absent

keys-push : (es : Entries) (k : Value) (w : Option Value) → keys_of (es ++ (k, w) ∷ []) ≡ keys_of es ++ k ∷ []
keys-push [] k w = refl
keys-push (e ∷ es) k w = ap (λ ks. e.0 ∷ ks) (keys-push es k w)

distinct_step : (es : Entries) (k : Value) (w : Option Value) (o : Option (Option Value)) → listed_at es k ≡ o → AreDistinct es → AreDistinct (put es k w)
distinct_step es k w (Some slot) found distinct =
    let P : List Value → Type 0 = IsDistinct same_value in
    subst P (sym (keys-put_listed es k w (ap is_some found))) distinct
distinct_step es k w None absent distinct =
    let P : Entries → Type 0 = AreDistinct in
    subst P (sym (put-new es k w absent)) (let Q : List Value → Type 0 = IsDistinct same_value in subst Q (sym (keys-push es k w)) (IsDistinct-push same_value_equiv (keys_of es) k distinct (unlisted_step es k absent)))

pub distinct-put : (es : Entries) (k : Value) (w : Option Value) → AreDistinct es → AreDistinct (put es k w)
distinct-put es k w distinct = distinct_step es k w (listed_at es k) refl distinct

-- ---- a store

is_nil-Nil : (v : Value) → is_nil v ≡ true → v ≡ Nil
is_nil-Nil v h = (same_value-Decides v Nil).0 h

set_cases : (P : Entries → Type 0) (es : Entries) (k v : Value) (is_nothing listed : Bool) → P (put es k None) → P es → P (put es k (Some v)) → P (cond is_nothing (cond listed (put es k None) es) (put es k (Some v)))
set_cases P es k v true true removed same stored = removed
set_cases P es k v true false removed same stored = same
set_cases P es k v false listed removed same stored = stored

get_set_step : (es : Entries) (k v : Value) (b : Bool) (o : Option (Option Value)) → is_nil v ≡ b → listed_at es k ≡ o → get (cond b (cond (is_some o) (put es k None) es) (put es k (Some v))) k ≡ v
get_set_step es k v true (Some slot) nothing found = get-put_same es k None ∙ sym (is_nil-Nil v nothing)
get_set_step es k v true None nothing found = ap shown_at found ∙ sym (is_nil-Nil v nothing)
get_set_step es k v false o nothing found = get-put_same es k (Some v)

-- the key has the value
pub get-set_same : (es : Entries) (k v : Value) → get (set es k v) k ≡ v
get-set_same es k v = get_set_step es k v (is_nil v) (listed_at es k) refl refl

-- and every other key has what it had
pub get-set_other : (es : Entries) (k j v : Value) → same_value j k ≡ false → get (set es k v) j ≡ get es j
get-set_other es k j v apart =
    set_cases (λ fs. get fs j ≡ get es j) es k v (is_nil v) (is_some (listed_at es k)) (get-put_other es k j None apart) refl (get-put_other es k j (Some v) apart)

pub distinct-set : (es : Entries) (k v : Value) → AreDistinct es → AreDistinct (set es k v)
distinct-set es k v distinct =
    set_cases AreDistinct es k v (is_nil v) (is_some (listed_at es k)) (distinct-put es k None distinct) distinct (distinct-put es k (Some v) distinct)

-- a store at a listed key keeps all places: so a removed key takes its place again
pub keys-set_listed : (es : Entries) (k v : Value) → is_some (listed_at es k) ≡ true → keys_of (set es k v) ≡ keys_of es
keys-set_listed es k v there =
    set_cases (λ fs. keys_of fs ≡ keys_of es) es k v (is_nil v) (is_some (listed_at es k)) (keys-put_listed es k None there) refl (keys-put_listed es k (Some v) there)

listed-keys : (es fs : Entries) (k : Value) → keys_of fs ≡ keys_of es → IsListed es k → IsListed fs k
listed-keys es fs k same there = is_some-lookup (same_value k) fs ∙ ap (list_any (same_value k)) same ∙ sym (is_some-lookup (same_value k) es) ∙ there

pub keys-set_again : (es : Entries) (k v : Value) → IsListed es k → keys_of (set (set es k Nil) k v) ≡ keys_of es
keys-set_again es k v there =
    let removed = keys-set_listed es k Nil there in
    keys-set_listed (set es k Nil) k v (listed-keys es (set es k Nil) k removed there) ∙ removed

-- and one at a new key that isn't nil puts it last
pub set-new : (es : Entries) (k v : Value) → listed_at es k ≡ None → is_nil v ≡ false → set es k v ≡ es ++ (k, Some v) ∷ []
set-new es k v absent present = ap (λ b. cond b (cond (is_some (listed_at es k)) (put es k None) es) (put es k (Some v))) present ∙ put-new es k (Some v) absent

-- nil at a new key changes nothing
pub set-nothing : (es : Entries) (k : Value) → listed_at es k ≡ None → set es k Nil ≡ es
set-nothing es k absent = ap (λ o. cond (is_some o) (put es k None) es) absent

-- ---- `next`

pub next-nil : (es : Entries) → next_of es Nil ≡ Some (first_present es)
next-nil es = refl

shift_test : (n m : ℕ) → nat_lt (1 + n) (suc m) ≡ nat_lt n m
shift_test n m = grind (arith, nat_tests)

shift_step : (e : Value × Option Value) (es : Entries) (n : ℕ) (b : Bool) → option_map (λ i. drop (i + 1) (e ∷ es)) (cond b (Some (1 + n)) None) ≡ option_map (λ i. drop (i + 1) es) (cond b (Some n) None)
shift_step e es n true = ap (λ i. Some (drop i (e ∷ es))) (let sum : 1 + n + 1 ≡ suc (n + 1) = omega arith in sum)
shift_step e es n false = refl

behind_step : (e : Value × Option Value) (es : Entries) (k : Value) (b : Bool) → same_value k e.0 ≡ b → behind (e ∷ es) k ≡ cond b (Some es) (behind es k)
behind_step e es k true h =
    let first : ℕ = 1 + position_or_len (same_value k) (keys_of es) in
    let most : ℕ = length (keys_of es) in
    ap (λ b. option_map (λ i. drop (i + 1) (e ∷ es)) (cond (nat_lt (cond (not b) first 0) (suc most)) (Some (cond (not b) first 0)) None)) h
    ∙ ap (λ t. option_map (λ i. drop (i + 1) (e ∷ es)) (cond t (Some 0) None)) (let within : nat_lt 0 (suc most) ≡ true = lt-ltb 0 (suc most) (omega arith) in within)
behind_step e es k false h =
    let n : ℕ = position_or_len (same_value k) (keys_of es) in
    let most : ℕ = length (keys_of es) in
    ap (λ b. option_map (λ i. drop (i + 1) (e ∷ es)) (cond (nat_lt (cond (not b) (1 + n) 0) (suc most)) (Some (cond (not b) (1 + n) 0)) None)) h
    ∙ ap (λ t. option_map (λ i. drop (i + 1) (e ∷ es)) (cond t (Some (1 + n)) None)) (shift_test n most)
    ∙ shift_step e es n (nat_lt n most)

-- behind the first entry stand the others
pub behind-cons : (e : Value × Option Value) (es : Entries) (k : Value) → behind (e ∷ es) k ≡ cond (same_value k e.0) (Some es) (behind es k)
behind-cons e es k = behind_step e es k (same_value k e.0) refl

behind_more : (e : Value × Option Value) (front rest : Entries) (k : Value) (b : Bool) → same_value k e.0 ≡ b → listed_at (e ∷ front) k ≡ None
    → (listed_at front k ≡ None → behind (front ++ rest) k ≡ behind rest k)
    → cond b (Some (front ++ rest)) (behind (front ++ rest) k) ≡ behind rest k
behind_more e front rest k true h absent more = absurd (let found : Some e.1 ≡ None = sym (ap (λ b. cond b (Some e.1) (listed_at front k)) h) ∙ absent in cc)
behind_more e front rest k false h absent more = more (sym (ap (λ b. cond b (Some e.1) (listed_at front k)) h) ∙ absent)

behind-append : (front rest : Entries) (k : Value) → listed_at front k ≡ None → behind (front ++ rest) k ≡ behind rest k
behind-append [] rest k absent = refl
behind-append (e ∷ front) rest k absent = behind-cons e (front ++ rest) k ∙ behind_more e front rest k (same_value k e.0) refl absent (behind-append front rest k)

pub behind-key : (front rest : Entries) (k : Value) (w : Option Value) → listed_at front k ≡ None → behind (front ++ (k, w) ∷ rest) k ≡ Some rest
behind-key front rest k w absent =
    behind-append front ((k, w) ∷ rest) k absent ∙ behind-cons (k, w) rest k ∙ ap (λ b. cond b (Some rest) (behind rest k)) (same_value_equiv.refl k)

-- from a listed key on, `next` goes to the present entry behind it
pub next-key : (front rest : Entries) (k : Value) (w : Option Value) → listed_at front k ≡ None → is_nil k ≡ false → next_of (front ++ (k, w) ∷ rest) k ≡ Some (first_present rest)
next-key front rest k w absent present =
    let es : Entries = front ++ (k, w) ∷ rest in
    ap (λ b. cond b (Some (first_present es)) (option_map first_present (behind es k))) present ∙ ap (option_map first_present) (behind-key front rest k w absent)

present-append : (front rest : Entries) → first_present front ≡ None → first_present (front ++ rest) ≡ first_present rest
present-append [] rest nothing = refl
present-append ((k, None) ∷ front) rest nothing = present-append front rest nothing
present-append ((k, Some v) ∷ front) rest nothing = absurd (let found : Some (k, v) ≡ None = nothing in cc)

-- a removed entry is passed over
pub present-removed : (front rest : Entries) (k : Value) → first_present front ≡ None → first_present (front ++ (k, None) ∷ rest) ≡ first_present rest
present-removed front rest k nothing = present-append front ((k, None) ∷ rest) nothing

-- and one with a value is given
pub present-stored : (front rest : Entries) (k v : Value) → first_present front ≡ None → first_present (front ++ (k, Some v) ∷ rest) ≡ Some (k, v)
present-stored front rest k v nothing = present-append front ((k, Some v) ∷ rest) nothing

none_step : (e : Value × Option Value) (es : Entries) (k : Value) (b : Bool) → same_value k e.0 ≡ b → listed_at (e ∷ es) k ≡ None → (listed_at es k ≡ None → behind es k ≡ None) → cond b (Some es) (behind es k) ≡ None
none_step e es k true h absent more = absurd (let found : Some e.1 ≡ None = sym (ap (λ b. cond b (Some e.1) (listed_at es k)) h) ∙ absent in cc)
none_step e es k false h absent more = more (sym (ap (λ b. cond b (Some e.1) (listed_at es k)) h) ∙ absent)

pub behind-unlisted : (es : Entries) (k : Value) → listed_at es k ≡ None → behind es k ≡ None
behind-unlisted [] k absent = refl
behind-unlisted (e ∷ es) k absent = behind-cons e es k ∙ none_step e es k (same_value k e.0) refl absent (behind-unlisted es k)

-- a key that is neither nil nor listed has no next one
pub next-unlisted : (es : Entries) (k : Value) → is_nil k ≡ false → listed_at es k ≡ None → next_of es k ≡ None
next-unlisted es k present absent =
    ap (λ b. cond b (Some (first_present es)) (option_map first_present (behind es k))) present ∙ ap (option_map first_present) (behind-unlisted es k absent)

-- ---- the order of `next`, by the entries

removed-none : (es : Entries) → AreRemoved es → first_present es ≡ None
removed-none [] all = refl
removed-none ((k, None) ∷ es) all = removed-none es all.1
removed-none ((k, Some v) ∷ es) all = absurd (let found : Some v ≡ None = all.0 in cc)

-- from nil on it goes to the first entry that isn't removed
pub next-first : (gone rest : Entries) (k v : Value) → AreRemoved gone → next_of (gone ++ (k, Some v) ∷ rest) Nil ≡ Some (Some (k, v))
next-first gone rest k v all = ap Some (present-stored gone rest k v (removed-none gone all))

-- from a key on, to the first one behind it
pub next-behind : (front gone rest : Entries) (k j v : Value) (slot : Option Value) → is_nil k ≡ false → IsUnlisted front k → AreRemoved gone
    → next_of (front ++ (k, slot) ∷ (gone ++ (j, Some v) ∷ rest)) k ≡ Some (Some (j, v))
next-behind front gone rest k j v slot present absent all =
    next-key front (gone ++ (j, Some v) ∷ rest) k slot absent present ∙ ap Some (present-stored gone rest j v (removed-none gone all))

-- and where there is none, it ends
pub next-end : (front gone : Entries) (k : Value) (slot : Option Value) → is_nil k ≡ false → IsUnlisted front k → AreRemoved gone → next_of (front ++ (k, slot) ∷ gone) k ≡ Some None
next-end front gone k slot present absent all = next-key front gone k slot absent present ∙ ap Some (removed-none gone all)

pub next-empty : (gone : Entries) → AreRemoved gone → next_of gone Nil ≡ Some None
next-empty gone all = ap Some (removed-none gone all)
