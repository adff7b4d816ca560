-- The steps of stack code, and its run by repeated steps: calls and their results (Lua 5.3 manual, 3.4.10), and errors (2.3).
use Rattle.std.specs.Prelude.{ℕ, zero, suc, ◌-◌, List, [], ◌∷◌, ◌++◌, map, drop, replicate, slice_get, Bool, true, false, Option, Some, None, codes}
use Rattle.tl_base.specs.declared.place.Pos.{Pos}
use Rattle.tl_base.specs.declared.place.ModuleKind.{ModuleKind}
use Rattle.lua_tree.specs.declared.names.LibName.{LibName}
use Rattle.lua_tree.specs.declared.names.LibName.TheVariants as lib
use Rattle.lua_values.specs.declared.value.Value.{Value}
use Rattle.lua_values.specs.declared.value.Value.TheVariants as value
use Rattle.lua_meaning.specs.World as world
use Rattle.lua_meaning.specs.World.{World, error_text, recorded, kind_at}
use Rattle.lua_meaning.specs.Operators.{kind_name}
use Rattle.lua_meaning.specs.Trees.{adjust}
use Rattle.lua_meaning.specs.Calls.{limit, printed}
use Rattle.lua_meaning.specs.Programs.{Ending, finished, failed, spent, Result, ended, start}
use Rattle.lua_code.specs.declared.code.Code.{Code}
use Rattle.lua_code.specs.declared.code.Proto.{Proto}
use Rattle.lua_code.specs.declared.code.Instr.{Instr}
use Rattle.lua_code.specs.declared.frames.Slot.TheVariants as slot
use Rattle.lua_code.specs.declared.frames.Item.TheVariants as item
use Rattle.lua_code.specs.Configurations.{CodeClosure, Frame, Level, caller, Config, running, calling, giving, raising, Next, go, stop, stuck, calls_at_work}
use Rattle.lua_code.specs.Instructions.{act}

-- ---- a function at work

-- the instruction at a place of a function, with the place that it has in the source
abbrev pub both : Option Instr → Option Pos → Option (Instr × Pos)
both (Some i) (Some p) = Some (i, p)
both i p = None

abbrev pub instruction_in : Option Proto → ℕ → Option (Instr × Pos)
instruction_in None at = None
instruction_in (Some proto) at = both (slice_get proto.code at) (slice_get proto.places at)

abbrev pub instruction : List Proto → Frame → Option (Instr × Pos)
instruction code f = instruction_in (slice_get code f.function) f.at

abbrev pub obey : List Proto → Option (Instr × Pos) → Frame → List Level → World → List CodeClosure → Next
obey code None f levels w ks = stuck
obey code (Some i) f levels w ks = act code i.0 i.1 f levels w ks

-- ---- calls

-- the further arguments, where the function takes them
abbrev pub further : Bool → ℕ → List Value → List Value
further true n vs = drop n vs
further false n vs = []

-- a function begins with its arguments in its first slots, and nil in the others
abbrev pub frame_of : ℕ → Proto → List ℕ → List Value → Frame
frame_of number proto cells vs = record {
  function = number;
  at = 0;
  slots = map (λ v. slot.Held v) (adjust proto.params vs ++ replicate (proto.slots - proto.params) value.Nil);
  captured = cells;
  rest = further proto.vararg proto.params vs;
  stack = [];
}

abbrev pub begin : ℕ → Option Proto → List ℕ → List Value → List Level → World → List CodeClosure → Next
begin number None cells vs levels w ks = stuck
begin number (Some proto) cells vs levels w ks = go (running (frame_of number proto cells vs) levels w ks)

-- a closure that isn't there gives nothing
abbrev pub enter : List Proto → Option CodeClosure → List Value → List Level → World → List CodeClosure → Next
enter code None vs levels w ks = go (giving [] levels w ks)
enter code (Some k) vs levels w ks = begin k.function (slice_get code k.function) k.cells vs levels w ks

-- a function's turn is taken when its call has been counted
abbrev pub enter_turn : List Proto → ℕ → ℕ → List Value → List Level → World → List CodeClosure → Next
enter_turn code zero number vs levels w ks = stop spent w
enter_turn code (suc n) number vs levels w ks = enter code (slice_get ks (number - 1)) vs levels (record w { turns = n }) ks

-- the other functions of the library are still to come, and give nothing until then
abbrev pub library : LibName → List Value → List Level → World → List CodeClosure → Next
library lib.Print vs levels w ks = go (giving [] levels (world.write (printed vs) w) ks)
library n vs levels w ks = go (giving [] levels w ks)

abbrev pub overflow : Pos → List Level → World → List CodeClosure → Next
overflow p levels w ks = go (raising (value.Str (error_text p (codes "stack overflow") w)) levels w ks)

-- a call, where so many may still begin
abbrev pub called : List Proto → ℕ → Pos → Value → List Value → List Level → World → List CodeClosure → Next
called code zero p (value.Closure number) vs levels w ks = overflow p levels w ks
called code (suc c) p (value.Closure number) vs levels w ks = enter_turn code w.turns number vs levels w ks
called code zero p (value.Builtin n) vs levels w ks = overflow p levels w ks
called code (suc c) p (value.Builtin n) vs levels w ks = library n vs levels w ks
called code c p v vs levels w ks =
    go (raising (value.Str (error_text p (codes "call of a " ++ kind_name v) w)) levels (recorded (kind_at w p) p w) ks)

-- ---- results and errors on their way

-- results go to the stack of the function that called; where none waits, the run has ended
abbrev pub gave : List Value → List Level → World → List CodeClosure → Next
gave vs [] w ks = stop finished w
gave vs (caller f ∷ levels) w ks = go (running (record f { stack = item.Many vs ∷ f.stack }) levels w ks)

-- an error leaves each function that waits
abbrev pub raised : Value → List Level → World → List CodeClosure → Next
raised v [] w ks = stop (failed v) w
raised v (caller f ∷ levels) w ks = go (raising v levels w ks)

-- ---- the run

abbrev pub step : List Proto → Config → Next
step code (running f levels w ks) = obey code (instruction code f) f levels w ks
step code (calling p f vs levels w ks) = called code (limit - calls_at_work levels) p f vs levels w ks
step code (giving vs levels w ks) = gave vs levels w ks
step code (raising v levels w ks) = raised v levels w ks

-- how a run ends
pub record End : Type 0 where
  pub ending : Ending
  pub world : World

abbrev pub end_of : (Config → Option End) → Next → Option End
end_of more (go c) = more c
end_of more (stop e w) = Some (record { ending = e; world = w })
end_of more stuck = None

-- how the run ends in at most so many steps; none where it doesn't, or where the code isn't well formed
abbrev pub halts : List Proto → ℕ → Config → Option End
halts code zero c = None
halts code (suc n) c = end_of (halts code n) (step code c)

-- the block of the main module takes its turn, and begins
abbrev pub begin_turn : List Proto → ℕ → World → Next
begin_turn code zero w = stop spent w
begin_turn code (suc n) w = begin 0 (slice_get code 0) [] [] [] (record w { turns = n }) []

abbrev pub result_of : ℕ → Option End → Option Result
result_of turns None = None
result_of turns (Some e) = Some (ended turns e.ending e.world)

-- the run of a program in at most so many steps, over the modules' kinds and file words, the input and a number of turns
abbrev pub run : Code → List ModuleKind → List (List ℕ) → List ℕ → ℕ → ℕ → Option Result
run code kinds words input turns steps =
    result_of turns (end_of (halts code.functions steps) (begin_turn code.functions turns (start kinds words input turns)))

-- ---- the trace: the instructions begun, each by its function's number and its place there

abbrev pub begun : Option (Instr × Pos) → Frame → List (ℕ × ℕ)
begun None f = []
begun (Some i) f = (f.function, f.at) ∷ []

abbrev pub begun_in : List Proto → Config → List (ℕ × ℕ)
begun_in code (running f levels w ks) = begun (instruction code f) f
begun_in code c = []

abbrev pub traced_on : (Config → List (ℕ × ℕ)) → Next → List (ℕ × ℕ)
traced_on more (go c) = more c
traced_on more n = []

-- those of so many steps
abbrev pub trace : List Proto → ℕ → Config → List (ℕ × ℕ)
trace code zero c = []
trace code (suc n) c = begun_in code c ++ traced_on (trace code n) (step code c)
