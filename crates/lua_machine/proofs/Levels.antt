-- The functions at work over the slots of all and the stacks of all.
use Rattle.std.proofs.Common.{◌≡◌, refl, ℕ, ◌+◌, ◌≤◌, Bool, true, IsTrue, List, [], ◌∷◌, length, take, arith}
use Rattle.lua_code.specs.declared.frames.Slot.{Slot}
use Rattle.lua_code.specs.declared.frames.Item.{Item}
use Rattle.lua_code.specs.Configurations.{calls_at_work}
use Rattle.lua_machine.specs.declared.frames.Head.{Head}
use Rattle.lua_machine.specs.Windows.{levels_in, are_within}

pub count_levels : (hs : List Head) (ss : List Slot) (is : List Item) → calls_at_work (levels_in hs ss is) ≡ length hs
count_levels [] ss is = refl
count_levels (h ∷ hs) ss is = let e = count_levels hs (take h.slots ss) (take h.stack is) in omega (arith, e)

-- within longer lists
pub within_longer : (hs : List Head) (a b m n : ℕ) → IsTrue (are_within hs a b) → a ≤ m → b ≤ n → IsTrue (are_within hs m n)
within_longer [] a b m n t la lb = search
within_longer (h ∷ hs) a b m n t la lb = grind arith

-- without the function that runs
pub within_below : (h : Head) (hs : List Head) (m n : ℕ) → IsTrue (are_within (h ∷ hs) m n) → IsTrue (are_within hs m n)
within_below h hs m n t =
    let s : h.slots ≤ m = grind arith in
    let k : h.stack ≤ n = grind arith in
    let r : IsTrue (are_within hs h.slots h.stack) = grind arith in
    within_longer hs h.slots h.stack m n r s k

-- with a function above them that begins at the ends
pub within_at_ends : (h : Head) (hs : List Head) (m n : ℕ) → h.slots ≡ m → h.stack ≡ n → IsTrue (are_within hs m n) → IsTrue (are_within (h ∷ hs) m n)
within_at_ends h hs m n e f t =
    let wide = within_longer hs m n h.slots h.stack t (omega (arith, e)) (omega (arith, f)) in
    grind (arith, e, f, wide)
