-- The functions at work: the one that runs, and those that wait for the results of their calls.
use Rattle.std.specs.Prelude.{◌≡◌, ℕ, ◌+◌, ◌-◌, Bool, true, false, List, [], ◌∷◌, ◌++◌, map, replicate, slice_set, Option, Some, None}
use Rattle.lua_meaning.specs.Trees.{adjust}
use Rattle.lua_values.specs.declared.value.Value.{Value}
use Rattle.lua_values.specs.declared.value.Value.TheVariants as value
use Rattle.lua_code.specs.declared.code.Proto.{Proto}
use Rattle.lua_code.specs.declared.frames.Slot.{Slot}
use Rattle.lua_code.specs.declared.frames.Slot.TheVariants as slot
use Rattle.lua_code.specs.declared.frames.Item.{Item}
use Rattle.lua_code.specs.Configurations.{Frame, Level, caller}

pub record Activity : Type 0 where
  pub frame : Frame
  -- the innermost first
  pub levels : List Level

-- a function that begins, without its slots
abbrev pub fresh : ℕ → List ℕ → List Value → Frame
fresh function captured rest = record { function = function; at = 0; slots = []; captured = captured; rest = rest; stack = [] }

abbrev pub at_next : Activity → Activity
at_next a = record a { frame = record a.frame { at = a.frame.at + 1 } }

abbrev pub at_place : ℕ → Activity → Activity
at_place to a = record a { frame = record a.frame { at = to } }

abbrev pub with_item : Item → Activity → Activity
with_item i a = record a { frame = record a.frame { stack = i ∷ a.frame.stack } }

abbrev pub with_slot : ℕ → Slot → Activity → Activity
with_slot i s a = record a { frame = record a.frame { slots = slice_set a.frame.slots i s } }

abbrev pub with_more_slots : Slot → Activity → Activity
with_more_slots s a = record a { frame = record a.frame { slots = a.frame.slots ++ s ∷ [] } }

-- further slots with these values
abbrev pub with_values : List Value → Activity → Activity
with_values vs a = record a { frame = record a.frame { slots = a.frame.slots ++ map (λ v. slot.Held v) vs } }

-- what a function has in its slots when it begins: its arguments, and nil in the others
abbrev pub slot_values : Proto → List Value → List Value
slot_values proto vs = adjust proto.params vs ++ replicate (proto.slots - proto.params) value.Nil

-- the function that runs waits for one that begins
abbrev pub entered : Frame → Activity → Activity
entered f a = record { frame = f; levels = caller a.frame ∷ a.levels }

-- the function that runs is done with, and the one that waited runs on; or none waited
abbrev pub Leaves : Bool → Activity → Activity → Type 0
Leaves true old new = old.levels ≡ caller new.frame ∷ new.levels
Leaves false old new = old.levels ≡ []

-- so many values were on the stack, and these are they; or something else was there
abbrev pub PopsMany : Bool → Option (List Value × List Item) → List Value → Activity → Activity → Type 0
PopsMany true taken vs old new = (taken ≡ Some (vs, new.frame.stack)) × (new ≡ record old { frame = record old.frame { stack = new.frame.stack } })
PopsMany false taken vs old new = taken ≡ None

abbrev pub with_stack : List Item → Activity → Activity
with_stack items a = record a { frame = record a.frame { stack = items } }
