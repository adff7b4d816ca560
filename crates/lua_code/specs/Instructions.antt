-- What each instruction does to the function at work (Lua 5.3 manual, 3.3 and 3.4, for the forms that it is part of).
-- An instruction that lacks its operands is stuck. Those on tables, methods and modules are still to come, and are stuck until then.
use Rattle.std.specs.Prelude.{ℕ, zero, suc, ◌+◌, ℤ, pos, ◌+ℤ◌, Bool, true, false, not, List, [], ◌∷◌, ◌++◌, length, slice_get, slice_set, Option, Some, None, codes}
use Rattle.tl_base.specs.declared.place.Pos.{Pos}
use Rattle.tl_base.specs.declared.crossing.CrossKind.{CrossKind}
use Rattle.lua_tree.specs.declared.syntax.UnaryOperator.{UnaryOperator}
use Rattle.lua_tree.specs.declared.syntax.UnaryOperator.TheVariants as unary
use Rattle.lua_tree.specs.declared.syntax.BinaryOperator.{BinaryOperator}
use Rattle.lua_tree.specs.declared.syntax.BinaryOperator.TheVariants as binary
use Rattle.lua_values.specs.declared.value.Value.{Value}
use Rattle.lua_values.specs.declared.value.Value.TheVariants as value
use Rattle.lua_meaning.specs.World.{World, read_cell, write_cell, with_cell, pass, recorded, kind_at, error_text}
use Rattle.lua_meaning.specs.Operators.{Answer, value_is, wrong_kind, fails, is_true, kind_name, operate, operate_on, runs_for}
use Rattle.lua_meaning.specs.Trees.{first_of, adjust, library_value}
use Rattle.lua_meaning.specs.Programs.{spent}
use Rattle.lua_code.specs.declared.code.Capture.{Capture}
use Rattle.lua_code.specs.declared.code.Capture.TheVariants as capture
use Rattle.lua_code.specs.declared.code.Proto.{Proto}
use Rattle.lua_code.specs.declared.code.Instr.{Instr}
use Rattle.lua_code.specs.declared.code.Instr.TheVariants as instr
use Rattle.lua_code.specs.declared.frames.Slot.{Slot}
use Rattle.lua_code.specs.declared.frames.Slot.TheVariants as slot
use Rattle.lua_code.specs.declared.frames.Item.{Item}
use Rattle.lua_code.specs.declared.frames.Item.TheVariants as item
use Rattle.lua_code.specs.Configurations.{CodeClosure, Frame, Level, caller, running, calling, giving, raising, Next, go, stop, stuck}

-- what is done at a place, in the function at work
abbrev pub Row : Type 0
Row = Pos → Frame → List Level → World → List CodeClosure → Next

-- ---- going on

-- to the next instruction
abbrev pub on : Row
on p f levels w ks = go (running (record f { at = f.at + 1 }) levels w ks)

abbrev pub stuck_here : Row
stuck_here p f levels w ks = stuck

abbrev pub jump : ℕ → Row
jump to p f levels w ks = go (running (record f { at = to }) levels w ks)

abbrev pub push : Item → Row
push i p f levels w ks = on p (record f { stack = i ∷ f.stack }) levels w ks

abbrev pub push_value : Value → Row
push_value v = push (item.One v)

abbrev pub set_slot : ℕ → Slot → Row
set_slot i s p f levels w ks = on p (record f { slots = slice_set f.slots i s }) levels w ks

-- an error that speaks of no operand's kind, and an operand-kind error
abbrev pub fail : List ℕ → Row
fail what p f levels w ks = go (raising (value.Str (error_text p what w)) levels w ks)

abbrev pub kind_error : List ℕ → Row
kind_error what p f levels w ks = go (raising (value.Str (error_text p what w)) levels (recorded (kind_at w p) p w) ks)

-- ---- operands

abbrev pub value_on : List Item → (Value → Row) → Row
value_on (item.One v ∷ stack) next p f levels w ks = next v p (record f { stack = stack }) levels w ks
value_on stack next p f levels w ks = stuck

-- what follows gets the value on the stack, which is dropped
abbrev pub pop_value : (Value → Row) → Row
pop_value next p f levels w ks = value_on f.stack next p f levels w ks

abbrev pub list_on : List Item → (List Value → Row) → Row
list_on (item.Many vs ∷ stack) next p f levels w ks = next vs p (record f { stack = stack }) levels w ks
list_on stack next p f levels w ks = stuck

abbrev pub pop_list : (List Value → Row) → Row
pop_list next p f levels w ks = list_on f.stack next p f levels w ks

-- n values before those that are there; the one on the top of the stack is the last
abbrev pub pop_values : ℕ → List Value → (List Value → Row) → Row
pop_values zero vs next = next vs
pop_values (suc n) vs next = pop_value (λ v. pop_values n (v ∷ vs) next)

-- the values one above the other, the last one on the top
abbrev pub spread : List Value → List Item → List Item
spread [] stack = stack
spread (v ∷ vs) stack = spread vs (item.One v ∷ stack)

abbrev pub push_all : List Value → Row
push_all vs p f levels w ks = on p (record f { stack = spread vs f.stack }) levels w ks

abbrev pub top_twice : List Item → Row
top_twice [] p f levels w ks = stuck
top_twice (i ∷ stack) p f levels w ks = on p (record f { stack = i ∷ i ∷ stack }) levels w ks

abbrev pub without_top : List Item → Row
without_top [] p f levels w ks = stuck
without_top (i ∷ stack) p f levels w ks = on p (record f { stack = stack }) levels w ks

abbrev pub dup : Row
dup p f levels w ks = top_twice f.stack p f levels w ks

abbrev pub drop_top : Row
drop_top p f levels w ks = without_top f.stack p f levels w ks

abbrev pub push_rest : Row
push_rest p f levels w ks = push (item.Many f.rest) p f levels w ks

-- ---- slots and cells

abbrev pub value_in : Option Slot → (Value → Row) → Row
value_in (Some (slot.Held v)) next = next v
value_in s next = stuck_here

abbrev pub cell_in : Option Slot → (ℕ → Row) → Row
cell_in (Some (slot.Cell c)) next = next c
cell_in s next = stuck_here

-- the value, and the cell, in a slot
abbrev pub from_slot : ℕ → (Value → Row) → Row
from_slot i next p f levels w ks = value_in (slice_get f.slots i) next p f levels w ks

abbrev pub slot_cell : ℕ → (ℕ → Row) → Row
slot_cell i next p f levels w ks = cell_in (slice_get f.slots i) next p f levels w ks

abbrev pub this_cell : Option ℕ → (ℕ → Row) → Row
this_cell (Some c) next = next c
this_cell None next = stuck_here

abbrev pub captured_cell : ℕ → (ℕ → Row) → Row
captured_cell i next p f levels w ks = this_cell (slice_get f.captured i) next p f levels w ks

abbrev pub read : ℕ → Row
read c p f levels w ks = push_value (read_cell (Some c) w) p f levels w ks

abbrev pub write : ℕ → Value → Row
write c v p f levels w ks = on p f levels (write_cell (Some c) v w) ks

-- a new variable, with its value in a cell of its own
abbrev pub new_cell : ℕ → Value → Row
new_cell i v p f levels w ks = set_slot i (slot.Cell (length w.cells)) p f levels (with_cell v w) ks

-- ---- closures (3.4.11)

-- what follows gets the cells that a closure captures here
abbrev pub capture_all : List Capture → (List ℕ → Row) → Row
capture_all [] next = next []
capture_all (capture.Cell i ∷ cs) next = slot_cell i (λ c. capture_all cs (λ cells. next (c ∷ cells)))
capture_all (capture.Outer i ∷ cs) next = captured_cell i (λ c. capture_all cs (λ cells. next (c ∷ cells)))

-- closures are numbered from 1 in the order of making
abbrev pub new_closure : ℕ → List ℕ → Row
new_closure number cells p f levels w ks = push_value (value.Closure (length ks + 1)) p f levels w (ks ++ record { function = number; cells = cells } ∷ [])

abbrev pub close : ℕ → Option Proto → Row
close number None = stuck_here
close number (Some proto) = capture_all proto.captures (λ cells. new_closure number cells)

-- ---- operators (3.4.1 to 3.4.7), which fail at the instruction's place

abbrev pub answered : Answer → Row
answered (value_is v) = push_value v
answered (wrong_kind what) = kind_error what
answered (fails what) = fail what

abbrev pub two : BinaryOperator → Row
two o = pop_value (λ y. pop_value (λ x. answered (operate o x y)))

abbrev pub one : UnaryOperator → Row
one o = pop_value (λ x. answered (operate_on o x))

-- ---- jumps (3.3.4 and 3.4.5)

abbrev pub jump_where : Bool → ℕ → Row
jump_where true to = jump to
jump_where false to = on

abbrev pub keep : ℕ → Value → Row
keep to v p f levels w ks = jump to p (record f { stack = item.One v ∷ f.stack }) levels w ks

-- goes there with the value on the stack, or on without it
abbrev pub keep_where : Bool → ℕ → Value → Row
keep_where true to v = keep to v
keep_where false to v = on

-- ---- the numeric `for` (3.3.5)

abbrev pub wrong_bound : Value → Row
wrong_bound v = kind_error (codes "'for' bound is a " ++ kind_name v)

-- the three hold integers, or the first that doesn't is the error
abbrev pub bounds : Value → Value → Value → (ℤ → ℤ → ℤ → Row) → Row
bounds (value.Int i) (value.Int limit) (value.Int step) next = next i limit step
bounds (value.Int i) (value.Int limit) v next = wrong_bound v
bounds (value.Int i) v x next = wrong_bound v
bounds v x y next = wrong_bound v

-- the value, the limit and the step of a loop
abbrev pub loop_slots : ℕ → (ℤ → ℤ → ℤ → Row) → Row
loop_slots i next = from_slot i (λ u. from_slot (i + 1) (λ v. from_slot (i + 2) (λ x. bounds u v x next)))

abbrev pub begin_loop : ℕ → ℤ → ℤ → ℤ → Row
begin_loop to i limit (pos zero) = fail (codes "'for' step is zero")
begin_loop to i limit step = jump_where (not (runs_for step limit i)) to

abbrev pub loop_with : ℕ → ℕ → ℤ → Row
loop_with s to i p f levels w ks = jump to p (record f { slots = slice_set f.slots s (slot.Held (value.Int i)) }) levels w ks

abbrev pub step_where : Bool → ℕ → ℕ → ℤ → Row
step_where true s to i = loop_with s to i
step_where false s to i = on

abbrev pub step_loop : ℕ → ℕ → ℤ → ℤ → ℤ → Row
step_loop s to i limit step = step_where (runs_for step limit (i +ℤ step)) s to (i +ℤ step)

abbrev pub bound : Value → Row
bound (value.Int n) = push_value (value.Int n)
bound v = wrong_bound v

-- ---- turns, marks, calls

abbrev pub turned : ℕ → Row
turned zero p f levels w ks = stop spent w
turned (suc n) p f levels w ks = on p f levels (record w { turns = n }) ks

abbrev pub take_turn : Row
take_turn p f levels w ks = turned w.turns p f levels w ks

abbrev pub pass_at : CrossKind → ℕ → ℕ → Row
pass_at k line column p f levels w ks = on p f levels (pass (record { pos = record { «module» = p.module; line = line; column = column }; kind = k }) w) ks

-- the function goes on behind the call when the results are there
abbrev pub call : Value → List Value → Row
call callee vs p f levels w ks = go (calling p callee vs (caller (record f { at = f.at + 1 }) ∷ levels) w ks)

abbrev pub leave : List Value → Row
leave vs p f levels w ks = go (giving vs levels w ks)

-- ---- the instructions, over the functions of the code

abbrev pub act : List Proto → Instr → Row
act code instr.Nil = push_value value.Nil
act code instr.True = push_value (value.Bool true)
act code instr.False = push_value (value.Bool false)
act code (instr.Int n) = push_value (value.Int n)
act code (instr.Str s) = push_value (value.Str s)
act code (instr.Lib n) = push_value (library_value n)
act code (instr.GetSlot i) = from_slot i (λ v. push_value v)
act code (instr.SetSlot i) = pop_value (λ v. set_slot i (slot.Held v))
act code (instr.NewCell i) = from_slot i (λ v. new_cell i v)
act code (instr.GetCell i) = slot_cell i (λ c. read c)
act code (instr.SetCell i) = pop_value (λ v. slot_cell i (λ c. write c v))
act code (instr.GetUp i) = captured_cell i (λ c. read c)
act code (instr.SetUp i) = pop_value (λ v. captured_cell i (λ c. write c v))
act code (instr.Closure n) = close n (slice_get code n)
act code instr.Rest = push_rest
act code (instr.Pack n) = pop_values n [] (λ vs. push (item.Many vs))
act code (instr.Cons n) = pop_list (λ vs. pop_values n vs (λ vs. push (item.Many vs)))
act code instr.First = pop_list (λ vs. push_value (first_of vs))
act code (instr.Spread n) = pop_list (λ vs. push_all (adjust n vs))
act code instr.Dup = dup
act code instr.Pop = drop_top
act code instr.Call = pop_list (λ vs. pop_value (λ callee. call callee vs))
act code instr.Return = pop_list (λ vs. leave vs)
act code instr.Add = two binary.Add
act code instr.Sub = two binary.Subtract
act code instr.Mul = two binary.Multiply
act code instr.IDiv = two binary.Divide
act code instr.Mod = two binary.Modulo
act code instr.BAnd = two binary.BitAnd
act code instr.BOr = two binary.BitOr
act code instr.BXor = two binary.BitXor
act code instr.Shl = two binary.ShiftLeft
act code instr.Shr = two binary.ShiftRight
act code instr.Concat = two binary.Concat
act code instr.Eq = two binary.Equal
act code instr.Lt = two binary.Less
act code instr.Le = two binary.LessEqual
act code instr.Neg = one unary.Negate
act code instr.BNot = one unary.BitNot
act code instr.Len = one unary.Length
act code instr.Not = one unary.Not
act code (instr.Jump t) = jump t
act code (instr.JumpIf t) = pop_value (λ v. jump_where (is_true v) t)
act code (instr.JumpIfNot t) = pop_value (λ v. jump_where (not (is_true v)) t)
act code (instr.KeepIf t) = pop_value (λ v. keep_where (is_true v) t v)
act code (instr.KeepIfNot t) = pop_value (λ v. keep_where (not (is_true v)) t v)
act code (instr.ForPrep i t) = loop_slots i (λ n limit step. begin_loop t n limit step)
act code (instr.ForStep i t) = loop_slots i (λ n limit step. step_loop i t n limit step)
act code instr.Bound = pop_value (λ v. bound v)
act code instr.Turn = take_turn
act code (instr.Mark k line column) = pass_at k line column
act code (instr.Method s) = stuck_here
act code (instr.Require m) = stuck_here
act code instr.NewTable = stuck_here
act code instr.Entry = stuck_here
act code (instr.Append n) = stuck_here
act code instr.Get = stuck_here
act code instr.Put = stuck_here
