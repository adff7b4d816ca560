-- The words of the laws of integers (Lua 5.3 manual, section 3.4.1) and tables (section 2.1).
use Rattle.std.specs.Prelude.{◌≡◌, ℕ, ◌*◌, ◌^◌, ℤ, pos, ◌+ℤ◌, Option, None, IsSome}
use Rattle.std.specs.List.{AllByRecursion}
use Rattle.lua_values.specs.Tables.{Entries, listed_at}
use Rattle.lua_values.specs.declared.value.Value.{Value}

-- two whole numbers differ by a multiple of 2 ^ 64
abbrev pub DifferByWords : ℤ → ℤ → Type 0
DifferByWords a b = (j : ℕ) × (k : ℕ) × (a +ℤ pos (j * 2 ^ 64) ≡ b +ℤ pos (k * 2 ^ 64))

-- the key was assigned before, and has a value now or is removed
abbrev pub IsListed : Entries → Value → Type 0
IsListed es k = IsSome (listed_at es k)

-- it was never assigned
abbrev pub IsUnlisted : Entries → Value → Type 0
IsUnlisted es k = listed_at es k ≡ None

abbrev IsRemoved : Value × Option Value → Type 0
IsRemoved e = e.1 ≡ None

-- none of the entries has a value
abbrev pub AreRemoved : Entries → Type 0
AreRemoved es = AllByRecursion IsRemoved es
