-- The three slots of a numeric `for`.
use Rattle.std.specs.Prelude.{◌≡◌, ℕ, ℤ, List, slice_get, Option, Some, None}
use Rattle.tl_base.specs.declared.place.Pos.{Pos}
use Rattle.lua_meaning.specs.World.{World}
use Rattle.lua_values.specs.declared.value.Value.{Value}
use Rattle.lua_code.specs.declared.frames.Slot.{Slot}
use Rattle.lua_code.specs.declared.frames.Slot.TheVariants as slot
use Rattle.lua_code.specs.Configurations.{Frame, Level, CodeClosure}
use Rattle.lua_code.specs.Instructions.{Row, loop_slots, wrong_bound, stuck_here}
use Rattle.lua_machine.specs.declared.jumps.Bounds.{Bounds}
use Rattle.lua_machine.specs.declared.jumps.Bounds.TheVariants.{Integers, Wrong, Missing}

abbrev pub held_value : Option Slot → Option Value
held_value (Some (slot.Held v)) = Some v
held_value s = None

-- what is done with three integers, or where the slots hold something else
abbrev pub with_bounds : Bounds → (ℤ → ℤ → ℤ → Row) → Row
with_bounds (Integers n limit step) next = next n limit step
with_bounds (Wrong v) next = wrong_bound v
with_bounds Missing next = stuck_here

-- the loop's slots are found so, whatever is done with them
abbrev pub AreBounds : Bounds → ℕ → Frame → Type 0
AreBounds b at f = (next : ℤ → ℤ → ℤ → Row) → (p : Pos) (levels : List Level) (w : World) (ks : List CodeClosure)
    → loop_slots at next p f levels w ks ≡ with_bounds b next p f levels w ks
