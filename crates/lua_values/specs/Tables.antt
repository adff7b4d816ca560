-- A table (Lua 5.3 manual, section 2.1): its keys in the order in which they were first assigned, each once, with a value or removed.
use Rattle.std.specs.Prelude.{◌≡◌, ℕ, zero, suc, ◌+◌, ◌-◌, ◌<◌, ◌≤◌, pos, false, cond, List, [], ◌∷◌, length, drop, position, slice_index_or, slice_set, Option, None, Some, option_map}
use Rattle.std.specs.Map.{lookup, keys_of}
use Rattle.std.specs.List.{IsDistinct}
use Rattle.std.specs.Option.{is_some}
use Rattle.lua_values.specs.Values.{same_value, is_nil}
use Rattle.lua_values.specs.declared.value.Value.{Value}
use Rattle.lua_values.specs.declared.value.Value.TheVariants.{Nil, Int}

-- a key has a value, or none where it was removed
abbrev pub Entries : Type 0
Entries = List (Value × Option Value)

-- a table with its metatable's number, if it has one
pub record Contents : Type 0 where
  pub entries : Entries
  pub meta : Option ℕ

-- ---- reading

-- what a key shows: nil where it was removed
abbrev pub shown : Option Value → Value
shown None = Nil
shown (Some v) = v

-- what stands at a key, none where it was never assigned
abbrev pub listed_at : Entries → Value → Option (Option Value)
listed_at es k = lookup (same_value k) es

abbrev pub shown_at : Option (Option Value) → Value
shown_at None = Nil
shown_at (Some slot) = shown slot

-- `rawget`
abbrev pub get : Entries → Value → Value
get es k = shown_at (listed_at es k)

-- ---- writing

-- the entries with the slot at the key: a listed key keeps its place, and a new one goes last
abbrev pub put : Entries → Value → Option Value → Entries
put [] k slot = (k, slot) ∷ []
put (e ∷ es) k slot = cond (same_value k e.0) ((e.0, slot) ∷ es) (e ∷ put es k slot)

-- `rawset` at a key that isn't nil: to store nil removes, and lists no new key
abbrev pub set : Entries → Value → Value → Entries
set es k v = cond (is_nil v) (cond (is_some (listed_at es k)) (put es k None) es) (put es k (Some v))

-- ---- going through (section 6.1, `next`)

abbrev first_of : Value → Option Value → Option (Value × Value) → Option (Value × Value)
first_of k None rest = rest
first_of k (Some v) rest = Some (k, v)

-- the first entry that isn't removed
abbrev pub first_present : Entries → Option (Value × Value)
first_present [] = None
first_present (e ∷ es) = first_of e.0 e.1 (first_present es)

-- the entries behind a key, none where it isn't listed
abbrev pub behind : Entries → Value → Option Entries
behind es k = option_map (λ i. drop (i + 1) es) (position (same_value k) (keys_of es))

-- one step of `next`: none for a key that is neither nil nor listed, and else the present entry behind it, if there is one
abbrev pub next_of : Entries → Value → Option (Option (Value × Value))
next_of es k = cond (is_nil k) (Some (first_present es)) (option_map first_present (behind es k))

-- ---- the border (section 3.4.7)

-- the number n + 1 as a key
abbrev pub nth : ℕ → Value
nth n = Int (pos (n + 1))

-- the numbers from 1 to n show values
abbrev pub IsShownBelow : Entries → ℕ → Type 0
IsShownBelow es n = (k : ℕ) → k < n → is_nil (get es (nth k)) ≡ false

-- n is the least number that has nil behind it
pub record IsBorder (es : Entries) (n : ℕ) : Type 0 where
  pub at_end : get es (nth n) ≡ Nil
  pub below : IsShownBelow es n

-- the border, looked for from n on in so many steps
abbrev pub border_from : ℕ → Entries → ℕ → ℕ
border_from zero es n = n
border_from (suc steps) es n = cond (is_nil (get es (nth n))) n (border_from steps es (n + 1))

abbrev pub border : Entries → ℕ
border es = border_from (length es) es 0

-- ---- tables

-- each key is listed once
abbrev pub AreDistinct : Entries → Type 0
AreDistinct es = IsDistinct same_value (keys_of es)

-- a new table
abbrev pub no_contents : Contents
no_contents = record { entries = []; meta = None }

-- tables are numbered from 1 in the order of making
abbrev pub IsMade : List Contents → ℕ → Type 0
IsMade tables t = (1 ≤ t) × (t ≤ length tables)

abbrev pub table_at : List Contents → ℕ → Contents
table_at tables t = slice_index_or tables (t - 1) no_contents

abbrev pub with_table : List Contents → ℕ → Contents → List Contents
with_table tables t contents = slice_set tables (t - 1) contents
