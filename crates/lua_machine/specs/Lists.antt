-- Lists of values on the stack and in closures.
use Rattle.std.specs.Prelude.{◌≡◌, ℕ, zero, suc, List, [], ◌∷◌, slice_get, Option, Some, None}
use Rattle.std.specs.Option.{option_map}
use Rattle.lua_values.specs.declared.value.Value.{Value}
use Rattle.lua_code.specs.declared.code.Capture.{Capture}
use Rattle.lua_code.specs.declared.code.Capture.TheVariants as capture
use Rattle.lua_code.specs.declared.frames.Slot.{Slot}
use Rattle.lua_code.specs.declared.frames.Slot.TheVariants as slot
use Rattle.lua_code.specs.declared.frames.Item.{Item}
use Rattle.lua_code.specs.declared.frames.Item.TheVariants as item
use Rattle.lua_code.specs.Configurations.{Frame}

-- so many values of the stack, the top last and others behind it, and the stack below them
abbrev pub taken : ℕ → List Value → List Item → Option (List Value × List Item)
taken zero vs stack = Some (vs, stack)
taken (suc n) vs (item.One v ∷ stack) = taken n (v ∷ vs) stack
taken (suc n) vs stack = None

-- the cell that a slot holds
abbrev pub held_cell : Option Slot → Option ℕ
held_cell (Some (slot.Cell c)) = Some c
held_cell s = None

-- the cell that a closure captures here
abbrev pub cell_here : Frame → Capture → Option ℕ
cell_here f (capture.Cell i) = held_cell (slice_get f.slots i)
cell_here f (capture.Outer i) = slice_get f.captured i

abbrev pub with_front : Option ℕ → Option (List ℕ) → Option (List ℕ)
with_front None cells = None
with_front (Some c) cells = option_map (λ cs. c ∷ cs) cells

-- all the cells that a closure captures here, if each is there
abbrev pub cells_here : Frame → List Capture → Option (List ℕ)
cells_here f [] = Some []
cells_here f (c ∷ cs) = with_front (cell_here f c) (cells_here f cs)
