-- The functions at work over two lists: the slots of all, and the stacks of all.
use Rattle.std.specs.Prelude.{ℕ, Bool, true, ◌&&◌, nat_le, List, [], ◌∷◌, take, drop, reverse}
use Rattle.lua_code.specs.declared.frames.Slot.{Slot}
use Rattle.lua_code.specs.declared.frames.Item.{Item}
use Rattle.lua_code.specs.Configurations.{Frame, Level, caller}
use Rattle.lua_machine.specs.declared.frames.Head.{Head}
use Rattle.lua_machine.specs.Frames.{Activity}

-- a function has what stands from its beginnings on, its stack with the top last
abbrev pub frame_in : Head → List Slot → List Item → Frame
frame_in h slots stack = record { function = h.function; at = h.at; slots = drop h.slots slots; captured = h.captured; rest = h.rest; stack = reverse (drop h.stack stack) }

-- those that wait, the innermost first, each below where the one above it begins
abbrev pub levels_in : List Head → List Slot → List Item → List Level
levels_in [] slots stack = []
levels_in (h ∷ hs) slots stack = caller (frame_in h slots stack) ∷ levels_in hs (take h.slots slots) (take h.stack stack)

abbrev pub activity_in : Head → List Head → List Slot → List Item → Activity
activity_in h hs slots stack = record { frame = frame_in h slots stack; levels = levels_in hs (take h.slots slots) (take h.stack stack) }

-- each begins within the lists, and no function before one that waits for it
abbrev pub are_within : List Head → ℕ → ℕ → Bool
are_within [] m n = true
are_within (h ∷ hs) m n = nat_le h.slots m && (nat_le h.stack n && are_within hs h.slots h.stack)
