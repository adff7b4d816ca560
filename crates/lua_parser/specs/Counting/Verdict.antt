-- What the counting says of words that begin a module.
use Rattle.std.specs.Prelude.{ℕ, ◌+◌, ◌<◌, ◌≤◌, ◌⊎◌, List, length, reverse, get_or, Option, Some, None}
use Rattle.lua_parser.specs.Words.{Words}
use Rattle.lua_parser.specs.Grammar.Depth.{Label}
use Rattle.lua_parser.specs.Grammar.TooDeep.{Limits, IsOver, plain}
use Rattle.lua_parser.specs.Counting.Count.{count, start}
use Rattle.lua_parser.specs.Counting.Most.{rise}

-- the labels of these words as far as they are known
abbrev pub counted : Words → List Label
counted ts = reverse (count ts start).reached.labels

-- how high what ends with the last of them, or with the one before it, may yet be
abbrev pub may_rise : Words → ℕ
may_rise ts = rise (count ts start).expected (count ts start).height

-- The first of these labels that is over the limits is the one of this number, if one is.
abbrev pub IsFirst : Limits → List Label → Option ℕ → Type 0
IsFirst m ls None = (n : ℕ) → n < length ls → IsOver m (get_or ls n plain) → ⊥
IsFirst m ls (Some n) = (n < length ls) × IsOver m (get_or ls n plain) × ((i : ℕ) → i < n → IsOver m (get_or ls i plain) → ⊥)

-- No word is over the limits, nor will one be for what follows.
pub record IsWithin (m : Limits) (ts : Words) : Type 0 where
  pub none : (n : ℕ) → n < length ts → IsOver m (get_or (counted ts) n plain) → ⊥
  pub settled : may_rise ts ≤ m.height

-- The word of this number is over the limits, and none before it is, nor will one be for what follows.
pub record IsFirstOver (m : Limits) (ts : Words) (n : ℕ) : Type 0 where
  pub there : n < length ts
  pub over : IsOver m (get_or (counted ts) n plain)
  pub none : (i : ℕ) → i < n → IsOver m (get_or (counted ts) i plain) → ⊥
  pub settled : (n + 1 < length ts) ⊎ (may_rise ts ≤ m.height)

-- the first of these words that is over the limits, if one is
abbrev pub IsVerdict : Limits → Words → Option ℕ → Type 0
IsVerdict m ts None = IsWithin m ts
IsVerdict m ts (Some n) = IsFirstOver m ts n

-- where the first over the limits is this, if one is, and the last of so many words may rise so high, nothing that follows makes an earlier one the first
abbrev pub IsSettled : Option ℕ → ℕ → ℕ → Type 0
IsSettled None words later = later ≤ 1000
IsSettled (Some n) words later = (n + 1 < words) ⊎ (later ≤ 1000)
