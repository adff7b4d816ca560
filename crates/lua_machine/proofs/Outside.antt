-- Steps don't look at the outside.
use Rattle.std.proofs.Common.{◌≡◌, refl, sym, ap, ◌∙◌, ℕ, zero, suc, ◌+◌, ◌-◌, ◌+ℤ◌, codes, ℤ, pos, negsuc, Bool, true, false, not, List, [], ◌∷◌, ◌++◌, append_assoc, slice_get, Option, Some, None}
use Rattle.tl_base.specs.declared.place.Pos.{Pos}
use Rattle.tl_base.specs.declared.place.ModuleKind.{ModuleKind}
use Rattle.tl_base.specs.declared.place.ModuleKind.TheVariants.{Typed, Untyped}
use Rattle.lua_tree.specs.declared.names.LibName.{LibName}
use Rattle.lua_tree.specs.declared.names.LibName.TheVariants as lib
use Rattle.lua_values.specs.declared.value.Value.{Value}
use Rattle.lua_values.specs.declared.value.Value.TheVariants as value
use Rattle.lua_meaning.specs.World.{World, recorded, kind_at, error_text}
use Rattle.lua_meaning.specs.Operators.{Answer, kind_name, value_is, wrong_kind, fails, is_true, operate, operate_on, runs_for}
use Rattle.lua_meaning.specs.Trees.{adjust, first_of, library_value}
use Rattle.lua_meaning.specs.Calls.{limit, printed}
use Rattle.lua_tree.specs.declared.syntax.UnaryOperator.{UnaryOperator}
use Rattle.lua_tree.specs.declared.syntax.UnaryOperator.TheVariants as unary
use Rattle.lua_tree.specs.declared.syntax.BinaryOperator.{BinaryOperator}
use Rattle.lua_tree.specs.declared.syntax.BinaryOperator.TheVariants as binary
use Rattle.lua_code.specs.declared.code.Capture.{Capture}
use Rattle.lua_code.specs.declared.code.Capture.TheVariants as capture
use Rattle.lua_code.specs.declared.code.Proto.{Proto}
use Rattle.lua_code.specs.declared.code.Instr.{Instr}
use Rattle.lua_code.specs.declared.code.Instr.TheVariants as instr
use Rattle.lua_code.specs.declared.frames.Slot.{Slot}
use Rattle.lua_code.specs.declared.frames.Slot.TheVariants as slot
use Rattle.lua_code.specs.declared.frames.Item.{Item}
use Rattle.lua_code.specs.declared.frames.Item.TheVariants as item
use Rattle.lua_code.specs.Configurations.{CodeClosure, Frame, Level, caller, Config, running, calling, giving, raising, Next, go, stop, stuck, calls_at_work}
use Rattle.lua_code.specs.Instructions as rows
use Rattle.lua_code.specs.Instructions.{Row}
use Rattle.lua_code.specs.Steps as steps
use Rattle.lua_machine.specs.Outside.{outside, config_outside, with_outside}
use Rattle.lua_machine.specs.Runs.{after}

module _ (out input : List ℕ) where
  -- a row does the same with another outside
  abbrev Same : Row → Type 0
  Same row = (p : Pos) (f : Frame) (levels : List Level) (w : World) (ks : List CodeClosure) → row p f levels (outside out input w) ks ≡ with_outside out input (row p f levels w ks)

  same_recorded : (k : ModuleKind) (p : Pos) (w : World) → recorded k p (outside out input w) ≡ outside out input (recorded k p w)
  same_recorded Typed p w = refl
  same_recorded Untyped p w = refl

  on : Same rows.on
  on p f levels w ks = refl

  stuck_here : Same rows.stuck_here
  stuck_here p f levels w ks = refl

  jump : (to : ℕ) → Same (rows.jump to)
  jump to p f levels w ks = refl

  push : (i : Item) → Same (rows.push i)
  push i p f levels w ks = refl

  set_slot : (i : ℕ) (s : Slot) → Same (rows.set_slot i s)
  set_slot i s p f levels w ks = refl

  fail : (what : List ℕ) → Same (rows.fail what)
  fail what p f levels w ks = refl

  kind_error : (what : List ℕ) → Same (rows.kind_error what)
  kind_error what p f levels w ks = ap (λ x. go (raising (value.Str (error_text p what w)) levels x ks)) (same_recorded (kind_at w p) p w)

  -- ---- operands

  value_on : (stack : List Item) (next : Value → Row) → ((v : Value) → Same (next v)) → Same (rows.value_on stack next)
  value_on [] next same p f levels w ks = refl
  value_on (item.One v ∷ stack) next same p f levels w ks = same v p (record f { stack = stack }) levels w ks
  value_on (item.Many vs ∷ stack) next same p f levels w ks = refl

  pop_value : (next : Value → Row) → ((v : Value) → Same (next v)) → Same (rows.pop_value next)
  pop_value next same p f levels w ks = value_on f.stack next same p f levels w ks

  list_on : (stack : List Item) (next : List Value → Row) → ((vs : List Value) → Same (next vs)) → Same (rows.list_on stack next)
  list_on [] next same p f levels w ks = refl
  list_on (item.One v ∷ stack) next same p f levels w ks = refl
  list_on (item.Many vs ∷ stack) next same p f levels w ks = same vs p (record f { stack = stack }) levels w ks

  pop_list : (next : List Value → Row) → ((vs : List Value) → Same (next vs)) → Same (rows.pop_list next)
  pop_list next same p f levels w ks = list_on f.stack next same p f levels w ks

  pop_values : (n : ℕ) (vs : List Value) (next : List Value → Row) → ((vs : List Value) → Same (next vs)) → Same (rows.pop_values n vs next)
  pop_values zero vs next same = same vs
  pop_values (suc n) vs next same = pop_value (λ v. rows.pop_values n (v ∷ vs) next) (λ v. pop_values n (v ∷ vs) next same)

  push_all : (vs : List Value) → Same (rows.push_all vs)
  push_all vs p f levels w ks = refl

  top_twice : (stack : List Item) → Same (rows.top_twice stack)
  top_twice [] p f levels w ks = refl
  top_twice (i ∷ stack) p f levels w ks = refl

  without_top : (stack : List Item) → Same (rows.without_top stack)
  without_top [] p f levels w ks = refl
  without_top (i ∷ stack) p f levels w ks = refl

  dup : Same rows.dup
  dup p f levels w ks = top_twice f.stack p f levels w ks

  drop_top : Same rows.drop_top
  drop_top p f levels w ks = without_top f.stack p f levels w ks

  -- ---- slots and cells

  value_in : (s : Option Slot) (next : Value → Row) → ((v : Value) → Same (next v)) → Same (rows.value_in s next)
  value_in None next same = stuck_here
  value_in (Some (slot.Held v)) next same = same v
  value_in (Some (slot.Cell c)) next same = stuck_here

  cell_in : (s : Option Slot) (next : ℕ → Row) → ((c : ℕ) → Same (next c)) → Same (rows.cell_in s next)
  cell_in None next same = stuck_here
  cell_in (Some (slot.Held v)) next same = stuck_here
  cell_in (Some (slot.Cell c)) next same = same c

  this_cell : (c : Option ℕ) (next : ℕ → Row) → ((c : ℕ) → Same (next c)) → Same (rows.this_cell c next)
  this_cell None next same = stuck_here
  this_cell (Some c) next same = same c

  from_slot : (i : ℕ) (next : Value → Row) → ((v : Value) → Same (next v)) → Same (rows.from_slot i next)
  from_slot i next same p f levels w ks = value_in (slice_get f.slots i) next same p f levels w ks

  slot_cell : (i : ℕ) (next : ℕ → Row) → ((c : ℕ) → Same (next c)) → Same (rows.slot_cell i next)
  slot_cell i next same p f levels w ks = cell_in (slice_get f.slots i) next same p f levels w ks

  captured_cell : (i : ℕ) (next : ℕ → Row) → ((c : ℕ) → Same (next c)) → Same (rows.captured_cell i next)
  captured_cell i next same p f levels w ks = this_cell (slice_get f.captured i) next same p f levels w ks

  read : (c : ℕ) → Same (rows.read c)
  read c p f levels w ks = refl

  write : (c : ℕ) (v : Value) → Same (rows.write c v)
  write c v p f levels w ks = refl

  new_cell : (i : ℕ) (v : Value) → Same (rows.new_cell i v)
  new_cell i v p f levels w ks = refl

  -- ---- closures

  capture_all : (cs : List Capture) (next : List ℕ → Row) → ((cells : List ℕ) → Same (next cells)) → Same (rows.capture_all cs next)
  capture_all [] next same = same []
  capture_all (capture.Cell i ∷ cs) next same =
      slot_cell i (λ c. rows.capture_all cs (λ cells. next (c ∷ cells))) (λ c. capture_all cs (λ cells. next (c ∷ cells)) (λ cells. same (c ∷ cells)))
  capture_all (capture.Outer i ∷ cs) next same =
      captured_cell i (λ c. rows.capture_all cs (λ cells. next (c ∷ cells))) (λ c. capture_all cs (λ cells. next (c ∷ cells)) (λ cells. same (c ∷ cells)))

  close : (number : ℕ) (proto : Option Proto) → Same (rows.close number proto)
  close number None = stuck_here
  close number (Some proto) = capture_all proto.captures (λ cells. rows.new_closure number cells) (λ cells p f levels w ks. refl)

  -- ---- operators, jumps and loops

  answered : (a : Answer) → Same (rows.answered a)
  answered (value_is v) = push (item.One v)
  answered (wrong_kind what) = kind_error what
  answered (fails what) = fail what

  two : (o : BinaryOperator) → Same (rows.two o)
  two o = pop_value (λ y. rows.pop_value (λ x. rows.answered (operate o x y))) (λ y. pop_value (λ x. rows.answered (operate o x y)) (λ x. answered (operate o x y)))

  one : (o : UnaryOperator) → Same (rows.one o)
  one o = pop_value (λ x. rows.answered (operate_on o x)) (λ x. answered (operate_on o x))

  jump_where : (b : Bool) (to : ℕ) → Same (rows.jump_where b to)
  jump_where true to = jump to
  jump_where false to = on

  keep_where : (b : Bool) (to : ℕ) (v : Value) → Same (rows.keep_where b to v)
  keep_where true to v = λ p f levels w ks. refl
  keep_where false to v = on

  wrong_bound : (v : Value) → Same (rows.wrong_bound v)
  wrong_bound v p f levels w ks = kind_error (codes "'for' bound is a " ++ kind_name v) p f levels w ks

  bounds : (u v x : Value) (next : ℤ → ℤ → ℤ → Row) → ((i limit step : ℤ) → Same (next i limit step)) → Same (rows.bounds u v x next)
  bounds (value.Int i) (value.Int l) (value.Int s) next same = same i l s
  bounds (value.Int i) (value.Int l) value.Nil next same = wrong_bound value.Nil
  bounds (value.Int i) (value.Int l) (value.Bool b) next same = wrong_bound (value.Bool b)
  bounds (value.Int i) (value.Int l) (value.Str s) next same = wrong_bound (value.Str s)
  bounds (value.Int i) (value.Int l) (value.Table t) next same = wrong_bound (value.Table t)
  bounds (value.Int i) (value.Int l) (value.Closure k) next same = wrong_bound (value.Closure k)
  bounds (value.Int i) (value.Int l) (value.Builtin n) next same = wrong_bound (value.Builtin n)
  bounds (value.Int i) value.Nil x next same = wrong_bound value.Nil
  bounds (value.Int i) (value.Bool b) x next same = wrong_bound (value.Bool b)
  bounds (value.Int i) (value.Str s) x next same = wrong_bound (value.Str s)
  bounds (value.Int i) (value.Table t) x next same = wrong_bound (value.Table t)
  bounds (value.Int i) (value.Closure k) x next same = wrong_bound (value.Closure k)
  bounds (value.Int i) (value.Builtin n) x next same = wrong_bound (value.Builtin n)
  bounds value.Nil y x next same = wrong_bound value.Nil
  bounds (value.Bool b) y x next same = wrong_bound (value.Bool b)
  bounds (value.Str s) y x next same = wrong_bound (value.Str s)
  bounds (value.Table t) y x next same = wrong_bound (value.Table t)
  bounds (value.Closure k) y x next same = wrong_bound (value.Closure k)
  bounds (value.Builtin n) y x next same = wrong_bound (value.Builtin n)

  loop_slots : (i : ℕ) (next : ℤ → ℤ → ℤ → Row) → ((i limit step : ℤ) → Same (next i limit step)) → Same (rows.loop_slots i next)
  loop_slots i next same =
      from_slot i (λ u. rows.from_slot (i + 1) (λ v. rows.from_slot (i + 2) (λ x. rows.bounds u v x next)))
      (λ u. from_slot (i + 1) (λ v. rows.from_slot (i + 2) (λ x. rows.bounds u v x next))
      (λ v. from_slot (i + 2) (λ x. rows.bounds u v x next) (λ x. bounds u v x next same)))

  begin_loop : (to : ℕ) (i last step : ℤ) → Same (rows.begin_loop to i last step)
  begin_loop to i last (pos zero) = fail (codes "'for' step is zero")
  begin_loop to i last (pos (suc n)) = jump_where (not (runs_for (pos (suc n)) last i)) to
  begin_loop to i last (negsuc n) = jump_where (not (runs_for (negsuc n) last i)) to

  step_where : (b : Bool) (s to : ℕ) (i : ℤ) → Same (rows.step_where b s to i)
  step_where true s to i = λ p f levels w ks. refl
  step_where false s to i = on

  bound : (v : Value) → Same (rows.bound v)
  bound (value.Int n) = push (item.One (value.Int n))
  bound value.Nil = wrong_bound value.Nil
  bound (value.Bool b) = wrong_bound (value.Bool b)
  bound (value.Str s) = wrong_bound (value.Str s)
  bound (value.Table t) = wrong_bound (value.Table t)
  bound (value.Closure k) = wrong_bound (value.Closure k)
  bound (value.Builtin n) = wrong_bound (value.Builtin n)

  turned : (n : ℕ) → Same (rows.turned n)
  turned zero p f levels w ks = refl
  turned (suc n) p f levels w ks = refl

  take_turn : Same rows.take_turn
  take_turn p f levels w ks = turned w.turns p f levels w ks

  call : (callee : Value) (vs : List Value) → Same (rows.call callee vs)
  call callee vs p f levels w ks = refl

  leave : (vs : List Value) → Same (rows.leave vs)
  leave vs p f levels w ks = refl

  -- ---- the instructions

  act : (code : List Proto) (i : Instr) → Same (rows.act code i)
  act code instr.Nil = push (item.One value.Nil)
  act code instr.True = push (item.One (value.Bool true))
  act code instr.False = push (item.One (value.Bool false))
  act code (instr.Int n) = push (item.One (value.Int n))
  act code (instr.Str s) = push (item.One (value.Str s))
  act code (instr.Lib n) = push (item.One (library_value n))
  act code (instr.GetSlot i) = from_slot i (λ v. rows.push_value v) (λ v. push (item.One v))
  act code (instr.SetSlot i) = pop_value (λ v. rows.set_slot i (slot.Held v)) (λ v. set_slot i (slot.Held v))
  act code (instr.NewCell i) = from_slot i (λ v. rows.new_cell i v) (λ v. new_cell i v)
  act code (instr.GetCell i) = slot_cell i (λ c. rows.read c) (λ c. read c)
  act code (instr.SetCell i) = pop_value (λ v. rows.slot_cell i (λ c. rows.write c v)) (λ v. slot_cell i (λ c. rows.write c v) (λ c. write c v))
  act code (instr.GetUp i) = captured_cell i (λ c. rows.read c) (λ c. read c)
  act code (instr.SetUp i) = pop_value (λ v. rows.captured_cell i (λ c. rows.write c v)) (λ v. captured_cell i (λ c. rows.write c v) (λ c. write c v))
  act code (instr.Closure n) = close n (slice_get code n)
  act code instr.Rest = λ p f levels w ks. refl
  act code (instr.Pack n) = pop_values n [] (λ vs. rows.push (item.Many vs)) (λ vs. push (item.Many vs))
  act code (instr.Cons n) = pop_list (λ vs. rows.pop_values n vs (λ vs. rows.push (item.Many vs))) (λ vs. pop_values n vs (λ vs. rows.push (item.Many vs)) (λ vs. push (item.Many vs)))
  act code instr.First = pop_list (λ vs. rows.push_value (first_of vs)) (λ vs. push (item.One (first_of vs)))
  act code (instr.Spread n) = pop_list (λ vs. rows.push_all (adjust n vs)) (λ vs. push_all (adjust n vs))
  act code instr.Dup = dup
  act code instr.Pop = drop_top
  act code instr.Call = pop_list (λ vs. rows.pop_value (λ callee. rows.call callee vs)) (λ vs. pop_value (λ callee. rows.call callee vs) (λ callee. call callee vs))
  act code instr.Return = pop_list (λ vs. rows.leave vs) (λ vs. leave vs)
  act code instr.Add = two binary.Add
  act code instr.Sub = two binary.Subtract
  act code instr.Mul = two binary.Multiply
  act code instr.IDiv = two binary.Divide
  act code instr.Mod = two binary.Modulo
  act code instr.BAnd = two binary.BitAnd
  act code instr.BOr = two binary.BitOr
  act code instr.BXor = two binary.BitXor
  act code instr.Shl = two binary.ShiftLeft
  act code instr.Shr = two binary.ShiftRight
  act code instr.Concat = two binary.Concat
  act code instr.Eq = two binary.Equal
  act code instr.Lt = two binary.Less
  act code instr.Le = two binary.LessEqual
  act code instr.Neg = one unary.Negate
  act code instr.BNot = one unary.BitNot
  act code instr.Len = one unary.Length
  act code instr.Not = one unary.Not
  act code (instr.Jump t) = jump t
  act code (instr.JumpIf t) = pop_value (λ v. rows.jump_where (is_true v) t) (λ v. jump_where (is_true v) t)
  act code (instr.JumpIfNot t) = pop_value (λ v. rows.jump_where (not (is_true v)) t) (λ v. jump_where (not (is_true v)) t)
  act code (instr.KeepIf t) = pop_value (λ v. rows.keep_where (is_true v) t v) (λ v. keep_where (is_true v) t v)
  act code (instr.KeepIfNot t) = pop_value (λ v. rows.keep_where (not (is_true v)) t v) (λ v. keep_where (not (is_true v)) t v)
  act code (instr.ForPrep i t) = loop_slots i (λ n limit step. rows.begin_loop t n limit step) (λ n limit step. begin_loop t n limit step)
  act code (instr.ForStep i t) = loop_slots i (λ n limit step. rows.step_loop i t n limit step) (λ n limit step. step_where (runs_for step limit (n +ℤ step)) i t (n +ℤ step))
  act code instr.Bound = pop_value (λ v. rows.bound v) (λ v. bound v)
  act code instr.Turn = take_turn
  act code (instr.Mark k line column) = λ p f levels w ks. refl
  act code (instr.Method s) = stuck_here
  act code (instr.Require m) = stuck_here
  act code instr.NewTable = stuck_here
  act code instr.Entry = stuck_here
  act code (instr.Append n) = stuck_here
  act code instr.Get = stuck_here
  act code instr.Put = stuck_here

  -- ---- calls

  module _ (code : List Proto) where
    begin : (number : ℕ) (proto : Option Proto) (cells : List ℕ) (vs : List Value) (levels : List Level) (w : World) (ks : List CodeClosure)
        → steps.begin number proto cells vs levels (outside out input w) ks ≡ with_outside out input (steps.begin number proto cells vs levels w ks)
    begin number None cells vs levels w ks = refl
    begin number (Some proto) cells vs levels w ks = refl

    enter : (k : Option CodeClosure) (vs : List Value) (levels : List Level) (w : World) (ks : List CodeClosure)
        → steps.enter code k vs levels (outside out input w) ks ≡ with_outside out input (steps.enter code k vs levels w ks)
    enter None vs levels w ks = refl
    enter (Some k) vs levels w ks = begin k.function (slice_get code k.function) k.cells vs levels w ks

    enter_turn : (n number : ℕ) (vs : List Value) (levels : List Level) (w : World) (ks : List CodeClosure)
        → steps.enter_turn code n number vs levels (outside out input w) ks ≡ with_outside out input (steps.enter_turn code n number vs levels w ks)
    enter_turn zero number vs levels w ks = refl
    enter_turn (suc n) number vs levels w ks = enter (slice_get ks (number - 1)) vs levels (record w { turns = n }) ks

    library : (name : LibName) (vs : List Value) (levels : List Level) (w : World) (ks : List CodeClosure)
        → steps.library name vs levels (outside out input w) ks ≡ with_outside out input (steps.library name vs levels w ks)
    library lib.Print vs levels w ks = ap (λ text. go (giving [] levels (record w { output = text; input = input }) ks)) (append_assoc out w.output (printed vs))
    library lib.TypeOf vs levels w ks = refl
    library lib.ToString vs levels w ks = refl
    library lib.ToNumber vs levels w ks = refl
    library lib.Pairs vs levels w ks = refl
    library lib.Ipairs vs levels w ks = refl
    library lib.Next vs levels w ks = refl
    library lib.Select vs levels w ks = refl
    library lib.RawGet vs levels w ks = refl
    library lib.RawSet vs levels w ks = refl
    library lib.RawEqual vs levels w ks = refl
    library lib.RawLen vs levels w ks = refl
    library lib.SetMetatable vs levels w ks = refl
    library lib.GetMetatable vs levels w ks = refl
    library lib.Pcall vs levels w ks = refl
    library lib.Error vs levels w ks = refl
    library lib.Assert vs levels w ks = refl
    library lib.Require vs levels w ks = refl
    library lib.StringLen vs levels w ks = refl
    library lib.StringSub vs levels w ks = refl
    library lib.StringUpper vs levels w ks = refl
    library lib.StringLower vs levels w ks = refl
    library lib.StringReverse vs levels w ks = refl
    library lib.StringRep vs levels w ks = refl
    library lib.StringByte vs levels w ks = refl
    library lib.StringChar vs levels w ks = refl
    library lib.StringFormat vs levels w ks = refl
    library lib.TableInsert vs levels w ks = refl
    library lib.TableRemove vs levels w ks = refl
    library lib.TableConcat vs levels w ks = refl
    library lib.TableUnpack vs levels w ks = refl
    library lib.TableSort vs levels w ks = refl
    library lib.MathAbs vs levels w ks = refl
    library lib.MathFloor vs levels w ks = refl
    library lib.MathMax vs levels w ks = refl
    library lib.MathMin vs levels w ks = refl
    library lib.MathUlt vs levels w ks = refl
    library lib.MathType vs levels w ks = refl
    library lib.MathMaxInteger vs levels w ks = refl
    library lib.MathMinInteger vs levels w ks = refl
    library lib.IoWrite vs levels w ks = refl
    library lib.IoRead vs levels w ks = refl
    library lib.IpairsStep vs levels w ks = refl

    not_called : (c : ℕ) (p : Pos) (v : Value) (levels : List Level) (w : World) (ks : List CodeClosure)
        → go (raising (value.Str (error_text p (codes "call of a " ++ kind_name v) w)) levels (recorded (kind_at w p) p (outside out input w)) ks)
        ≡ with_outside out input (go (raising (value.Str (error_text p (codes "call of a " ++ kind_name v) w)) levels (recorded (kind_at w p) p w) ks))
    not_called c p v levels w ks =
        ap (λ x. go (raising (value.Str (error_text p (codes "call of a " ++ kind_name v) w)) levels x ks)) (same_recorded (kind_at w p) p w)

    called : (c : ℕ) (p : Pos) (v : Value) (vs : List Value) (levels : List Level) (w : World) (ks : List CodeClosure)
        → steps.called code c p v vs levels (outside out input w) ks ≡ with_outside out input (steps.called code c p v vs levels w ks)
    called zero p (value.Closure number) vs levels w ks = refl
    called (suc c) p (value.Closure number) vs levels w ks = enter_turn w.turns number vs levels w ks
    called zero p (value.Builtin n) vs levels w ks = refl
    called (suc c) p (value.Builtin n) vs levels w ks = library n vs levels w ks
    called zero p value.Nil vs levels w ks = not_called zero p value.Nil levels w ks
    called zero p (value.Bool b) vs levels w ks = not_called zero p (value.Bool b) levels w ks
    called zero p (value.Int n) vs levels w ks = not_called zero p (value.Int n) levels w ks
    called zero p (value.Str s) vs levels w ks = not_called zero p (value.Str s) levels w ks
    called zero p (value.Table t) vs levels w ks = not_called zero p (value.Table t) levels w ks
    called (suc c) p value.Nil vs levels w ks = not_called (suc c) p value.Nil levels w ks
    called (suc c) p (value.Bool b) vs levels w ks = not_called (suc c) p (value.Bool b) levels w ks
    called (suc c) p (value.Int n) vs levels w ks = not_called (suc c) p (value.Int n) levels w ks
    called (suc c) p (value.Str s) vs levels w ks = not_called (suc c) p (value.Str s) levels w ks
    called (suc c) p (value.Table t) vs levels w ks = not_called (suc c) p (value.Table t) levels w ks

    gave : (vs : List Value) (levels : List Level) (w : World) (ks : List CodeClosure) → steps.gave vs levels (outside out input w) ks ≡ with_outside out input (steps.gave vs levels w ks)
    gave vs [] w ks = refl
    gave vs (caller f ∷ levels) w ks = refl

    raised : (v : Value) (levels : List Level) (w : World) (ks : List CodeClosure) → steps.raised v levels (outside out input w) ks ≡ with_outside out input (steps.raised v levels w ks)
    raised v [] w ks = refl
    raised v (caller f ∷ levels) w ks = refl

    obey : (o : Option (Instr × Pos)) (f : Frame) (levels : List Level) (w : World) (ks : List CodeClosure)
        → steps.obey code o f levels (outside out input w) ks ≡ with_outside out input (steps.obey code o f levels w ks)
    obey None f levels w ks = refl
    obey (Some i) f levels w ks = act code i.0 i.1 f levels w ks

    step : (c : Config) → steps.step code (config_outside out input c) ≡ with_outside out input (steps.step code c)
    step (running f levels w ks) = obey (steps.instruction code f) f levels w ks
    step (calling p f vs levels w ks) = called (limit - calls_at_work levels) p f vs levels w ks
    step (giving vs levels w ks) = gave vs levels w ks
    step (raising v levels w ks) = raised v levels w ks

    pub keep_outside : (k : ℕ) (n : Next) → after code k (with_outside out input n) ≡ with_outside out input (after code k n)
    keep_outside zero n = refl
    keep_outside (suc k) (go c) = ap (after code k) (step c) ∙ keep_outside k (steps.step code c)
    keep_outside (suc k) (stop e w) = refl
    keep_outside (suc k) stuck = refl
