-- When code is well formed, where it is that of statements and expressions (Lua 5.3 manual, 3.3 and 3.4): each instruction has a shape, which says what stands on the stack and in the slots before it, and all steps agree
-- with the shapes. Instructions on tables, methods and modules are still to come, and no code with them is well formed until then.
use Rattle.std.specs.Prelude.{◌≡◌, ℕ, ◌+◌, ◌<◌, ◌≤◌, List, [], ◌∷◌, ◌++◌, length, replicate, slice_get, slice_set, Option, Some, None}
use Rattle.lua_code.specs.declared.code.Capture.{Capture}
use Rattle.lua_code.specs.declared.code.Capture.TheVariants as capture
use Rattle.lua_code.specs.declared.code.Code.{Code}
use Rattle.lua_code.specs.declared.code.Proto.{Proto}
use Rattle.lua_code.specs.declared.code.Instr.{Instr}
use Rattle.lua_code.specs.declared.code.Instr.TheVariants as instr

pub data ItemKind : Type 0 where
  value : ItemKind
  values : ItemKind

pub data SlotKind : Type 0 where
  held : SlotKind
  celled : SlotKind
  -- a value or a cell
  either : SlotKind

-- the stack has its top first
pub record Shape : Type 0 where
  pub stack : List ItemKind
  pub slots : List SlotKind

-- ---- what instructions want and leave

-- what is taken from the stack, what slots must hold before and hold afterwards, and the places where it goes on, each with what is put on the stack
pub record Effect : Type 0 where
  pub takes : List ItemKind
  pub wants : List (ℕ × SlotKind)
  pub sets : List (ℕ × SlotKind)
  pub ways : List (ℕ × List ItemKind)

-- on the stack alone, from a place to the next
abbrev pub on_stack : ℕ → List ItemKind → List ItemKind → Effect
on_stack at takes puts = record { takes = takes; wants = []; sets = []; ways = (at + 1, puts) ∷ [] }

abbrev pub with_wants : List (ℕ × SlotKind) → Effect → Effect
with_wants wants e = record e { wants = wants }

abbrev pub with_sets : List (ℕ × SlotKind) → Effect → Effect
with_sets sets e = record e { sets = sets }

-- to one of two places, with the same stack
abbrev pub branch : ℕ → ℕ → List ItemKind → Effect
branch at to takes = record { takes = takes; wants = []; sets = []; ways = (at + 1, []) ∷ (to, []) ∷ [] }

-- to a place with the value on the stack, or on without it
abbrev pub keep : ℕ → ℕ → Effect
keep at to = record { takes = value ∷ []; wants = []; sets = []; ways = (at + 1, []) ∷ (to, value ∷ []) ∷ [] }

abbrev pub two : ℕ → Effect
two at = on_stack at (value ∷ value ∷ []) (value ∷ [])

abbrev pub one : ℕ → Effect
one at = on_stack at (value ∷ []) (value ∷ [])

abbrev pub three_held : ℕ → List (ℕ × SlotKind)
three_held i = (i, held) ∷ (i + 1, held) ∷ (i + 2, held) ∷ []

-- the cells that a closure captures of the slots
abbrev pub captured_slots : List Capture → List (ℕ × SlotKind)
captured_slots [] = []
captured_slots (capture.Cell i ∷ cs) = (i, celled) ∷ captured_slots cs
captured_slots (capture.Outer i ∷ cs) = captured_slots cs

abbrev pub captures_of : Option Proto → List Capture
captures_of None = []
captures_of (Some proto) = proto.captures

-- what the top of the stack is
abbrev pub top_of : List ItemKind → ItemKind
top_of [] = value
top_of (k ∷ ks) = k

-- the effect of an instruction at a place, over the functions of the code, where the stack is so; none for those to come
abbrev pub effect_of : List Proto → ℕ → List ItemKind → Instr → Option Effect
effect_of code at stack instr.Nil = Some (on_stack at [] (value ∷ []))
effect_of code at stack instr.True = Some (on_stack at [] (value ∷ []))
effect_of code at stack instr.False = Some (on_stack at [] (value ∷ []))
effect_of code at stack (instr.Int n) = Some (on_stack at [] (value ∷ []))
effect_of code at stack (instr.Str s) = Some (on_stack at [] (value ∷ []))
effect_of code at stack (instr.Lib n) = Some (on_stack at [] (value ∷ []))
effect_of code at stack (instr.GetSlot i) = Some (with_wants ((i, held) ∷ []) (on_stack at [] (value ∷ [])))
effect_of code at stack (instr.SetSlot i) = Some (with_wants ((i, either) ∷ []) (with_sets ((i, held) ∷ []) (on_stack at (value ∷ []) [])))
effect_of code at stack (instr.NewCell i) = Some (with_wants ((i, held) ∷ []) (with_sets ((i, celled) ∷ []) (on_stack at [] [])))
effect_of code at stack (instr.GetCell i) = Some (with_wants ((i, celled) ∷ []) (on_stack at [] (value ∷ [])))
effect_of code at stack (instr.SetCell i) = Some (with_wants ((i, celled) ∷ []) (on_stack at (value ∷ []) []))
effect_of code at stack (instr.GetUp i) = Some (on_stack at [] (value ∷ []))
effect_of code at stack (instr.SetUp i) = Some (on_stack at (value ∷ []) [])
effect_of code at stack (instr.Closure n) = Some (with_wants (captured_slots (captures_of (slice_get code n))) (on_stack at [] (value ∷ [])))
effect_of code at stack instr.Rest = Some (on_stack at [] (values ∷ []))
effect_of code at stack (instr.Pack n) = Some (on_stack at (replicate n value) (values ∷ []))
effect_of code at stack (instr.Cons n) = Some (on_stack at (values ∷ replicate n value) (values ∷ []))
effect_of code at stack instr.First = Some (on_stack at (values ∷ []) (value ∷ []))
effect_of code at stack (instr.Spread n) = Some (on_stack at (values ∷ []) (replicate n value))
effect_of code at stack instr.Dup = Some (on_stack at (top_of stack ∷ []) (top_of stack ∷ top_of stack ∷ []))
effect_of code at stack instr.Pop = Some (on_stack at (top_of stack ∷ []) [])
effect_of code at stack instr.Call = Some (on_stack at (values ∷ value ∷ []) (values ∷ []))
effect_of code at stack instr.Return = Some (record { takes = values ∷ []; wants = []; sets = []; ways = [] })
effect_of code at stack instr.Add = Some (two at)
effect_of code at stack instr.Sub = Some (two at)
effect_of code at stack instr.Mul = Some (two at)
effect_of code at stack instr.IDiv = Some (two at)
effect_of code at stack instr.Mod = Some (two at)
effect_of code at stack instr.BAnd = Some (two at)
effect_of code at stack instr.BOr = Some (two at)
effect_of code at stack instr.BXor = Some (two at)
effect_of code at stack instr.Shl = Some (two at)
effect_of code at stack instr.Shr = Some (two at)
effect_of code at stack instr.Concat = Some (two at)
effect_of code at stack instr.Eq = Some (two at)
effect_of code at stack instr.Lt = Some (two at)
effect_of code at stack instr.Le = Some (two at)
effect_of code at stack instr.Neg = Some (one at)
effect_of code at stack instr.BNot = Some (one at)
effect_of code at stack instr.Len = Some (one at)
effect_of code at stack instr.Not = Some (one at)
effect_of code at stack (instr.Jump t) = Some (record { takes = []; wants = []; sets = []; ways = (t, []) ∷ [] })
effect_of code at stack (instr.JumpIf t) = Some (branch at t (value ∷ []))
effect_of code at stack (instr.JumpIfNot t) = Some (branch at t (value ∷ []))
effect_of code at stack (instr.KeepIf t) = Some (keep at t)
effect_of code at stack (instr.KeepIfNot t) = Some (keep at t)
effect_of code at stack (instr.ForPrep i t) = Some (with_wants (three_held i) (branch at t []))
effect_of code at stack (instr.ForStep i t) = Some (with_wants (three_held i) (branch at t []))
effect_of code at stack instr.Bound = Some (one at)
effect_of code at stack instr.Turn = Some (on_stack at [] [])
effect_of code at stack (instr.Mark k line column) = Some (on_stack at [] [])
effect_of code at stack (instr.Method s) = None
effect_of code at stack (instr.Require m) = None
effect_of code at stack instr.NewTable = None
effect_of code at stack instr.Entry = None
effect_of code at stack (instr.Append n) = None
effect_of code at stack instr.Get = None
effect_of code at stack instr.Put = None

-- ---- numbers in range

abbrev pub AreOuter : ℕ → List Capture → Type 0
AreOuter count [] = Unit {0}
AreOuter count (capture.Cell i ∷ cs) = AreOuter count cs
AreOuter count (capture.Outer i ∷ cs) = (i < count) × AreOuter count cs

-- of captured cells and of functions; slots are in range where they hold something
abbrev pub IsInRange : List Proto → Proto → Instr → Type 0
IsInRange code proto (instr.GetUp i) = i < length proto.captures
IsInRange code proto (instr.SetUp i) = i < length proto.captures
IsInRange code proto (instr.Closure n) = (n < length code) × AreOuter (length proto.captures) (captures_of (slice_get code n))
IsInRange code proto i = Unit {0}

-- ---- agreement

-- what a slot holds is enough where it is what is wanted, or where anything will do
abbrev pub IsEnough : SlotKind → SlotKind → Type 0
IsEnough k either = Unit {0}
IsEnough held held = Unit {0}
IsEnough celled celled = Unit {0}
IsEnough k wanted = ⊥

abbrev pub IsEnoughIn : Option SlotKind → SlotKind → Type 0
IsEnoughIn None wanted = ⊥
IsEnoughIn (Some k) wanted = IsEnough k wanted

abbrev pub Hold : List SlotKind → List (ℕ × SlotKind) → Type 0
Hold slots [] = Unit {0}
Hold slots (w ∷ ws) = IsEnoughIn (slice_get slots w.0) w.1 × Hold slots ws

abbrev pub AreEnough : List SlotKind → List SlotKind → Type 0
AreEnough [] [] = Unit {0}
AreEnough (k ∷ ks) (w ∷ ws) = IsEnough k w × AreEnough ks ws
AreEnough ks ws = ⊥

abbrev pub after_sets : List (ℕ × SlotKind) → List SlotKind → List SlotKind
after_sets [] slots = slots
after_sets (s ∷ ss) slots = after_sets ss (slice_set slots s.0 s.1)

-- the shape at the place where a way leads has this stack, and wants no more of the slots than they hold
abbrev pub Meets : Option Shape → List ItemKind → List SlotKind → Type 0
Meets None stack slots = ⊥
Meets (Some shape) stack slots = (shape.stack ≡ stack) × AreEnough slots shape.slots

-- a jump back goes to a `Turn`
abbrev pub TurnsBack : List Instr → ℕ → ℕ → Type 0
TurnsBack instrs at to = to ≤ at → slice_get instrs to ≡ Some instr.Turn

abbrev pub AllMeet : List Instr → List Shape → ℕ → List (ℕ × List ItemKind) → List ItemKind → List SlotKind → Type 0
AllMeet instrs shapes at [] rest slots = Unit {0}
AllMeet instrs shapes at (w ∷ ws) rest slots =
    Meets (slice_get shapes w.0) (w.1 ++ rest) slots × TurnsBack instrs at w.0 × AllMeet instrs shapes at ws rest slots

-- the effect fits the shape before it, and the shapes where it goes on
pub record Fits (instrs : List Instr) (shapes : List Shape) (at : ℕ) (shape : Shape) (effect : Effect) : Type 0 where
  pub below : List ItemKind
  pub stack : shape.stack ≡ effect.takes ++ below
  pub slots : Hold shape.slots effect.wants
  pub ways : AllMeet instrs shapes at effect.ways below (after_sets effect.sets shape.slots)

abbrev pub FitsIf : List Instr → List Shape → ℕ → Shape → Option Effect → Type 0
FitsIf instrs shapes at shape None = ⊥
FitsIf instrs shapes at shape (Some effect) = Fits instrs shapes at shape effect

-- a function begins with the empty stack and a value in each slot, and its first shape wants no more
abbrev pub Begins : ℕ → List Shape → Type 0
Begins slots shapes = Meets (slice_get shapes 0) [] (replicate slots held)

pub record IsFunction (code : List Proto) (proto : Proto) : Type 0 where
  pub params : proto.params ≤ proto.slots
  pub places : length proto.places ≡ length proto.code
  pub shapes : List Shape
  pub each : length shapes ≡ length proto.code
  pub begins : Begins proto.slots shapes
  pub agree : (at : ℕ) (i : Instr) (shape : Shape) → slice_get proto.code at ≡ Some i → slice_get shapes at ≡ Some shape
      → IsInRange code proto i × FitsIf proto.code shapes at shape (effect_of code at shape.stack i)

-- the block of a module has no parameters and no captures
pub record IsBlock (proto : Proto) : Type 0 where
  pub params : proto.params ≡ 0
  pub captures : proto.captures ≡ []

-- the code of so many modules
pub record IsWellFormed (code : Code) (modules : ℕ) : Type 0 where
  pub main : 1 ≤ modules
  pub enough : modules ≤ length code.functions
  pub blocks : (m : ℕ) (proto : Proto) → m < modules → slice_get code.functions m ≡ Some proto → IsBlock proto
  pub functions : (f : ℕ) (proto : Proto) → slice_get code.functions f ≡ Some proto → IsFunction code.functions proto
