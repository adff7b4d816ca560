-- The code of a program, as a function of its modules (Lua 5.3 manual, 3.3 to 3.5). Every local and every parameter is a cell.
-- A loop has its condition at the bottom, so that each jump back goes to a `Turn`.
use Rattle.std.specs.Prelude.{ℕ, zero, suc, ◌+◌, nat_eq, pos, Bool, true, false, List, [], ◌∷◌, ◌++◌, length, map, cond, slice_get, Option, Some, None}
use Rattle.std.specs.Option.{is_some}
use Rattle.std.specs.Map.{lookup, keys_of}
use Rattle.tl_base.specs.declared.place.Pos.{Pos}
use Rattle.tl_base.specs.declared.crossing.CrossKind.{CrossKind}
use Rattle.lua_tree.specs.declared.scoped.Use.{Use}
use Rattle.lua_tree.specs.declared.scoped.Use.TheVariants as means
use Rattle.lua_tree.specs.declared.syntax.UnaryOperator.{UnaryOperator}
use Rattle.lua_tree.specs.declared.syntax.UnaryOperator.TheVariants as unary
use Rattle.lua_tree.specs.declared.syntax.BinaryOperator.{BinaryOperator}
use Rattle.lua_tree.specs.declared.syntax.BinaryOperator.TheVariants as binary
use Rattle.lua_tree.specs.Tree as tree
use Rattle.lua_tree.specs.Tree.{Exp, Multi, Exps, Function, Stat, Targets, Clauses, Else, Step, Block}
use Rattle.lua_tree.specs.Places.{place_of, multi_place}
use Rattle.lua_meaning.specs.Environment.{Names}
use Rattle.lua_meaning.specs.Locals.{exp_locals, exps_locals, targets_locals, clauses_locals, step_locals, stat_locals, block_locals}
use Rattle.lua_meaning.specs.Trees.{first_place}
use Rattle.lua_meaning.specs.Programs.{Module}
use Rattle.lua_code.specs.declared.code.Capture.{Capture}
use Rattle.lua_code.specs.declared.code.Capture.TheVariants as capture
use Rattle.lua_code.specs.declared.code.Code.{Code}
use Rattle.lua_code.specs.declared.code.Proto.{Proto}
use Rattle.lua_code.specs.declared.code.Instr.{Instr}
use Rattle.lua_code.specs.declared.code.Instr.TheVariants as instr
use Rattle.lua_code.specs.Sizes.{operator_gap, operator_slots, exp_size, exps_size, step_size, stat_size, clauses_size, else_size, block_size, exp_functions, exps_functions, function_inner, step_functions, stat_functions, clauses_functions, block_functions, stat_declares, block_slots}

-- instructions with their places
abbrev pub Placed : Type 0
Placed = List (Instr × Pos)

abbrev pub one : Instr → Pos → Placed
one i p = (i, p) ∷ []

-- ---- where locals are (3.5)

-- the function's own locals in scope with their slots, and the captured ones, the innermost first; the first free slot;
-- and how many locals the module's text declares before this place
pub record Scope : Type 0 where
  pub names : Names
  pub own : List (ℕ × ℕ)
  pub captured : List ℕ
  pub free : ℕ
  pub next : ℕ

abbrev pub past : ℕ → Scope → Scope
past n sc = record sc { next = sc.next + n }

-- so many slots more are taken
abbrev pub taken : ℕ → Scope → Scope
taken n sc = record sc { free = sc.free + n }

-- n locals from x on, in the slots from s on
abbrev pub in_slots : ℕ → ℕ → ℕ → List (ℕ × ℕ) → List (ℕ × ℕ)
in_slots zero x s own = own
in_slots (suc n) x s own = in_slots n (x + 1) (s + 1) ((x, s) ∷ own)

-- n new locals are in scope, in the first free slots
abbrev pub declared : ℕ → Scope → Scope
declared n sc = record sc { own = in_slots n sc.next sc.free sc.own; free = sc.free + n }

abbrev pub behind_stat : Stat → Scope → Scope
behind_stat s sc = record (declared (stat_declares s) sc) { next = sc.next + stat_locals s }

abbrev pub behind_block : Block → Scope → Scope
behind_block tree.finish sc = sc
behind_block (tree.returns p es) sc = past (exps_locals es) sc
behind_block (tree.next s b) sc = behind_block b (behind_stat s sc)

-- where a local stands among the captured ones, which are counted from i on
abbrev pub captured_from : ℕ → ℕ → List ℕ → Option ℕ
captured_from i x [] = None
captured_from i x (y ∷ ys) = cond (nat_eq x y) (Some i) (captured_from (i + 1) x ys)

abbrev pub from_captured : (ℕ → Instr) → Instr → Option ℕ → Instr
from_captured there nowhere (Some i) = there i
from_captured there nowhere None = nowhere

abbrev pub from_own : (ℕ → Instr) → Option ℕ → Instr → Instr
from_own here (Some s) outside = here s
from_own here None outside = outside

abbrev pub read_local : Scope → ℕ → Instr
read_local sc x = from_own (λ s. instr.GetCell s) (lookup (nat_eq x) sc.own) (from_captured (λ i. instr.GetUp i) instr.Nil (captured_from 0 x sc.captured))

abbrev pub write_local : Scope → ℕ → Instr
write_local sc x = from_own (λ s. instr.SetCell s) (lookup (nat_eq x) sc.own) (from_captured (λ i. instr.SetUp i) instr.Pop (captured_from 0 x sc.captured))

abbrev pub read_use : Scope → Option Use → Instr
read_use sc None = instr.Nil
read_use sc (Some (means.Local x)) = read_local sc x
read_use sc (Some (means.Lib n)) = instr.Lib n

abbrev pub write_use : Scope → Option Use → Instr
write_use sc (Some (means.Local x)) = write_local sc x
write_use sc u = instr.Pop

abbrev pub use_in : Scope → ℕ → Option Use
use_in sc u = slice_get sc.names.uses u

abbrev pub library_use : Option Use → Instr
library_use (Some (means.Lib n)) = instr.Lib n
library_use u = instr.Nil

abbrev pub field_instr : Exp → Scope → Instr
field_instr (tree.name p u s) sc = library_use (use_in sc u)
field_instr (tree.mark k e) sc = field_instr e sc
field_instr e sc = instr.Nil

-- the store into a target of the value on the stack
abbrev pub store_instr : Exp → Scope → Instr
store_instr (tree.name p u s) sc = write_use sc (use_in sc u)
store_instr (tree.mark k e) sc = store_instr e sc
store_instr e sc = instr.Pop

-- the stores go from the last to the first
abbrev pub stores : Targets → Pos → Scope → Placed
stores tree.no_target p sc = []
stores (tree.target e ts) p sc = stores ts p (past (exp_locals e) sc) ++ one (store_instr e sc) p

abbrev pub target_count : Targets → ℕ
target_count tree.no_target = 0
target_count (tree.target e ts) = target_count ts + 1

-- n values on the stack go into the slots from s on, and then into cells of their own
abbrev pub set_slots : ℕ → ℕ → Pos → Placed
set_slots s zero p = []
set_slots s (suc n) p = set_slots (s + 1) n p ++ one (instr.SetSlot s) p

abbrev pub new_cells : ℕ → ℕ → Pos → Placed
new_cells s zero p = []
new_cells s (suc n) p = (instr.NewCell s, p) ∷ new_cells (s + 1) n p

abbrev pub begin_locals : ℕ → ℕ → Pos → Placed
begin_locals s n p = set_slots s n p ++ new_cells s n p

-- ---- closures (3.4.11): each captures all locals in scope

abbrev pub outer_from : ℕ → List ℕ → List Capture
outer_from i [] = []
outer_from i (x ∷ xs) = capture.Outer i ∷ outer_from (i + 1) xs

abbrev pub captures_in : Scope → List Capture
captures_in sc = map (λ o. capture.Cell o.1) sc.own ++ outer_from 0 sc.captured

abbrev pub inner_captured : Scope → List ℕ
inner_captured sc = keys_of sc.own ++ sc.captured

-- the scope of a function's body, with its parameters
abbrev pub inside : ℕ → Scope → Scope
inside params sc = record (declared params (record sc { own = []; captured = inner_captured sc; free = 0 })) { next = sc.next + params }

-- ---- operators (3.4.1 to 3.4.7)

abbrev pub unary_instr : UnaryOperator → Instr
unary_instr unary.Not = instr.Not
unary_instr unary.Length = instr.Len
unary_instr unary.Negate = instr.Neg
unary_instr unary.BitNot = instr.BNot

-- the code of an operation from that of its operands, with a free slot and the place behind it
abbrev pub binary_code : BinaryOperator → Pos → ℕ → ℕ → Placed → Placed → Placed
binary_code binary.Or p slot end a b = a ++ (instr.KeepIf end, p) ∷ b
binary_code binary.And p slot end a b = a ++ (instr.KeepIfNot end, p) ∷ b
binary_code binary.Less p slot end a b = a ++ (b ++ one instr.Lt p)
binary_code binary.Greater p slot end a b = a ++ (instr.SetSlot slot, p) ∷ (b ++ (instr.GetSlot slot, p) ∷ one instr.Lt p)
binary_code binary.LessEqual p slot end a b = a ++ (b ++ one instr.Le p)
binary_code binary.GreaterEqual p slot end a b = a ++ (instr.SetSlot slot, p) ∷ (b ++ (instr.GetSlot slot, p) ∷ one instr.Le p)
binary_code binary.NotEqual p slot end a b = a ++ (b ++ (instr.Eq, p) ∷ one instr.Not p)
binary_code binary.Equal p slot end a b = a ++ (b ++ one instr.Eq p)
binary_code binary.BitOr p slot end a b = a ++ (b ++ one instr.BOr p)
binary_code binary.BitXor p slot end a b = a ++ (b ++ one instr.BXor p)
binary_code binary.BitAnd p slot end a b = a ++ (b ++ one instr.BAnd p)
binary_code binary.ShiftLeft p slot end a b = a ++ (b ++ one instr.Shl p)
binary_code binary.ShiftRight p slot end a b = a ++ (b ++ one instr.Shr p)
binary_code binary.Concat p slot end a b = a ++ (b ++ one instr.Concat p)
binary_code binary.Add p slot end a b = a ++ (b ++ one instr.Add p)
binary_code binary.Subtract p slot end a b = a ++ (b ++ one instr.Sub p)
binary_code binary.Multiply p slot end a b = a ++ (b ++ one instr.Mul p)
binary_code binary.Divide p slot end a b = a ++ (b ++ one instr.IDiv p)
binary_code binary.Modulo p slot end a b = a ++ (b ++ one instr.Mod p)

abbrev pub truth_instr : Bool → Instr
truth_instr true = instr.True
truth_instr false = instr.False

abbrev pub mark_at : CrossKind → Pos → Placed
mark_at k p = one (instr.Mark k p.line p.column) p

-- ---- expressions (3.4): their code at a place, where functions inside are numbered from base on

abbrev mutual
  pub exp_code : Exp → Scope → ℕ → ℕ → Placed
  exp_code (tree.nothing p) sc base at = one instr.Nil p
  exp_code (tree.truth p b) sc base at = one (truth_instr b) p
  exp_code (tree.integer p n) sc base at = one (instr.Int n) p
  exp_code (tree.text p s) sc base at = one (instr.Str s) p
  exp_code (tree.function p f) sc base at = one (instr.Closure (base + function_inner f)) p
  exp_code (tree.name p u s) sc base at = one (read_use sc (use_in sc u)) p
  exp_code (tree.paren p e) sc base at = exp_code e sc base at
  exp_code (tree.field p e n) sc base at = one (field_instr e sc) p
  exp_code (tree.index p e k) sc base at = one instr.Nil p
  exp_code (tree.table p es) sc base at = one instr.Nil p
  exp_code (tree.unary p o e) sc base at = exp_code e sc base at ++ one (unary_instr o) p
  exp_code (tree.binary p o a b) sc base at =
      binary_code o p sc.free (at + exp_size (tree.binary p o a b)) (exp_code a sc base at)
      (exp_code b (taken (operator_slots o) (past (exp_locals a) sc)) (base + exp_functions a) (at + exp_size a + operator_gap o))
  exp_code (tree.mark k e) sc base at = exp_code e sc base at ++ mark_at k (place_of e)
  exp_code (tree.one_of m) sc base at = multi_code m sc base at ++ one instr.First (multi_place m)

  pub multi_code : Multi → Scope → ℕ → ℕ → Placed
  multi_code (tree.vararg p) sc base at = one instr.Rest p
  multi_code (tree.call p f es) sc base at =
      exp_code f sc base at ++ (list_code es p 0 (past (exp_locals f) sc) (base + exp_functions f) (at + exp_size f) ++ one instr.Call p)
  multi_code (tree.method p e n es) sc base at = one (instr.Pack 0) p
  multi_code (tree.mark_all k m) sc base at = multi_code m sc base at ++ mark_at k (multi_place m)

  -- the list of the values, where n values of it are on the stack
  pub list_code : Exps → Pos → ℕ → Scope → ℕ → ℕ → Placed
  list_code tree.none p n sc base at = one (instr.Pack n) p
  list_code (tree.ends m) p n sc base at = multi_code m sc base at ++ one (instr.Cons n) p
  list_code (tree.more e es) p n sc base at = exp_code e sc base at ++ list_code es p (n + 1) (past (exp_locals e) sc) (base + exp_functions e) (at + exp_size e)

abbrev pub step_code : Step → Pos → Scope → ℕ → ℕ → Placed
step_code tree.no_step p sc base at = one (instr.Int (pos 1)) p
step_code (tree.step e) p sc base at = exp_code e sc base at ++ one instr.Bound (place_of e)

-- the place at which a loop's step is found to be 0
abbrev pub step_place : Step → Pos → Pos
step_place tree.no_step p = p
step_place (tree.step e) p = place_of e

-- the call of the iterator of a generic `for`, from the slot s on: goes back to the turn unless its first result is nil
abbrev pub iterate_code : ℕ → ℕ → Pos → Pos → Placed
iterate_code s turn p q =
    (instr.GetSlot s, p) ∷ (instr.GetSlot (s + 1), p) ∷ (instr.GetSlot (s + 2), p) ∷ (instr.Pack 2, p) ∷ (instr.Call, q)
    ∷ (instr.Dup, p) ∷ (instr.First, p) ∷ (instr.Dup, p) ∷ (instr.SetSlot (s + 2), p) ∷ (instr.Nil, p) ∷ (instr.Eq, p) ∷ (instr.JumpIfNot turn, p)
    ∷ one instr.Pop p

-- ---- statements (3.3): `break` goes to the place brk

abbrev mutual
  pub stat_code : Stat → Scope → ℕ → ℕ → ℕ → Placed
  stat_code (tree.empty p) sc base at brk = []
  stat_code (tree.assign p ts es) sc base at brk =
      list_code es p 0 (past (targets_locals ts) sc) base at ++ (instr.Spread (target_count ts), p) ∷ stores ts p sc
  stat_code (tree.run p e) sc base at brk = exp_code e sc base at ++ one instr.Pop p
  stat_code (tree.leave p) sc base at brk = one (instr.Jump brk) p
  stat_code (tree.scope p b) sc base at brk = block_code b sc base at brk
  stat_code (tree.while p e b) sc base at brk =
      (instr.Jump (at + 2 + block_size b), p) ∷ (instr.Turn, p)
      ∷ (block_code b (past (exp_locals e) sc) base (at + 2) (at + 2 + block_size b + exp_size e + 1)
      ++ (exp_code e sc (base + block_functions b) (at + 2 + block_size b) ++ one (instr.JumpIf (at + 1)) p))
  stat_code (tree.repeat p b e) sc base at brk =
      (instr.Turn, p)
      ∷ (block_code b sc base (at + 1) (at + 1 + block_size b + exp_size e + 1)
      ++ (exp_code e (record (behind_block b sc) { next = sc.next + block_locals b }) (base + block_functions b) (at + 1 + block_size b)
      ++ one (instr.JumpIfNot at) p))
  stat_code (tree.choose p cs b) sc base at brk =
      clauses_code cs p sc base at (at + clauses_size cs + else_size b) brk
      ++ else_code b (past (clauses_locals cs) sc) (base + clauses_functions cs) (at + clauses_size cs) brk
  -- the slots from the first free one on hold value, limit, step, and the variable
  stat_code (tree.count p n a b c d) sc base at brk =
      let first : ℕ = at + exp_size a + 2 in
      let second : ℕ = first + exp_size b + 2 in
      let turn : ℕ = second + step_size c + 2 in
      let behind : ℕ = turn + 4 + block_size d + 1 in
      exp_code a (past 1 sc) base at ++ (instr.Bound, place_of a) ∷ (instr.SetSlot sc.free, p)
      ∷ (exp_code b (taken 1 (past (1 + exp_locals a) sc)) (base + exp_functions a) first ++ (instr.Bound, place_of b) ∷ (instr.SetSlot (sc.free + 1), p)
      ∷ (step_code c p (taken 2 (past (1 + exp_locals a + exp_locals b) sc)) (base + exp_functions a + exp_functions b) second ++ (instr.SetSlot (sc.free + 2), p)
      ∷ (instr.ForPrep sc.free behind, step_place c p)
      ∷ (instr.Turn, p) ∷ (instr.GetSlot sc.free, p) ∷ (instr.SetSlot (sc.free + 3), p) ∷ (instr.NewCell (sc.free + 3), p)
      ∷ (block_code d (record (declared 1 (taken 3 sc)) { next = sc.next + (1 + exp_locals a + exp_locals b + step_locals c) }) (base + exp_functions a + exp_functions b + step_functions c) (turn + 4) behind
      ++ one (instr.ForStep sc.free turn) p)))
  -- the slots from the first free one on hold iterator, state and control, and the variables
  stat_code (tree.each p ns es b) sc base at brk =
      let n : ℕ = length ns in
      let turn : ℕ = at + exps_size es + 5 in
      let test : ℕ = turn + 2 + n + n + block_size b in
      list_code es p 0 (past n sc) base at
      ++ (instr.Spread 3, p) ∷ (instr.SetSlot (sc.free + 2), p) ∷ (instr.SetSlot (sc.free + 1), p) ∷ (instr.SetSlot sc.free, p) ∷ (instr.Jump test, p)
      ∷ (instr.Turn, p) ∷ (instr.Spread n, p) ∷ (begin_locals (sc.free + 3) n p
      ++ (block_code b (record (declared n (taken 3 sc)) { next = sc.next + (n + exps_locals es) }) (base + exps_functions es) (turn + 2 + n + n) (test + 13)
      ++ iterate_code sc.free turn p (first_place p es)))
  stat_code (tree.define p e f) sc base at brk = exp_code f (past (exp_locals e) sc) base at ++ one (store_instr e sc) p
  stat_code (tree.define_method p e n f) sc base at brk = []
  stat_code (tree.declare_function p n f) sc base at brk =
      (instr.Nil, p) ∷ (instr.SetSlot sc.free, p) ∷ (instr.NewCell sc.free, p)
      ∷ (exp_code f (past 1 (declared 1 sc)) base (at + 3) ++ one (instr.SetCell sc.free) p)
  stat_code (tree.declare p ns es) sc base at brk =
      list_code es p 0 (past (length ns) sc) base at ++ (instr.Spread (length ns), p) ∷ begin_locals sc.free (length ns) p
  stat_code (tree.interface p n fs) sc base at brk = []
  stat_code (tree.alias p n t) sc base at brk = []

  pub clauses_code : Clauses → Pos → Scope → ℕ → ℕ → ℕ → ℕ → Placed
  clauses_code tree.no_clause p sc base at end brk = []
  clauses_code (tree.clause e b cs) p sc base at end brk =
      exp_code e sc base at ++ (instr.JumpIfNot (at + exp_size e + 1 + block_size b + 1), p)
      ∷ (block_code b (past (exp_locals e) sc) (base + exp_functions e) (at + exp_size e + 1) brk
      ++ (instr.Jump end, p)
      ∷ clauses_code cs p (past (exp_locals e + block_locals b) sc) (base + exp_functions e + block_functions b) (at + exp_size e + 1 + block_size b + 1) end brk)

  pub else_code : Else → Scope → ℕ → ℕ → ℕ → Placed
  else_code tree.no_else sc base at brk = []
  else_code (tree.else_do b) sc base at brk = block_code b sc base at brk

  pub block_code : Block → Scope → ℕ → ℕ → ℕ → Placed
  block_code tree.finish sc base at brk = []
  block_code (tree.returns p es) sc base at brk = list_code es p 0 sc base at ++ one instr.Return p
  block_code (tree.next s b) sc base at brk =
      stat_code s sc base at brk ++ block_code b (behind_stat s sc) (base + stat_functions s) (at + stat_size s) brk

-- ---- functions (3.4.11)

-- the parameters become cells, and where the body ends without `return`, nothing is given; a stray `break` goes there
abbrev pub body_code : ℕ → Block → Pos → Scope → ℕ → Placed
body_code params b p sc base = new_cells 0 params p ++ (block_code b sc base params (params + block_size b) ++ (instr.Pack 0, p) ∷ one instr.Return p)

abbrev pub proto_of : ℕ → Bool → List Capture → ℕ → Placed → Proto
proto_of params vararg captures slots code =
    record { params = params; vararg = vararg; slots = slots; captures = captures; code = map (λ c. c.0) code; places = map (λ c. c.1) code }

-- the functions inside, each behind those inside it
abbrev mutual
  pub exp_protos : Exp → Scope → ℕ → List Proto
  exp_protos (tree.nothing p) sc base = []
  exp_protos (tree.truth p b) sc base = []
  exp_protos (tree.integer p n) sc base = []
  exp_protos (tree.text p s) sc base = []
  exp_protos (tree.function p f) sc base = function_protos f p sc base
  exp_protos (tree.name p u s) sc base = []
  exp_protos (tree.paren p e) sc base = exp_protos e sc base
  exp_protos (tree.field p e n) sc base = []
  exp_protos (tree.index p e k) sc base = []
  exp_protos (tree.table p es) sc base = []
  exp_protos (tree.unary p o e) sc base = exp_protos e sc base
  exp_protos (tree.binary p o a b) sc base =
      exp_protos a sc base ++ exp_protos b (taken (operator_slots o) (past (exp_locals a) sc)) (base + exp_functions a)
  exp_protos (tree.mark k e) sc base = exp_protos e sc base
  exp_protos (tree.one_of m) sc base = multi_protos m sc base

  pub multi_protos : Multi → Scope → ℕ → List Proto
  multi_protos (tree.vararg p) sc base = []
  multi_protos (tree.call p f es) sc base = exp_protos f sc base ++ exps_protos es (past (exp_locals f) sc) (base + exp_functions f)
  multi_protos (tree.method p e n es) sc base = []
  multi_protos (tree.mark_all k m) sc base = multi_protos m sc base

  pub exps_protos : Exps → Scope → ℕ → List Proto
  exps_protos tree.none sc base = []
  exps_protos (tree.ends m) sc base = multi_protos m sc base
  exps_protos (tree.more e es) sc base = exp_protos e sc base ++ exps_protos es (past (exp_locals e) sc) (base + exp_functions e)

  pub function_protos : Function → Pos → Scope → ℕ → List Proto
  function_protos (tree.function_of ps rest rs b) p sc base =
      block_protos b (inside (length ps) sc) base
      ++ proto_of (length ps) (is_some rest) (captures_in sc) (length ps + block_slots b) (body_code (length ps) b p (inside (length ps) sc) base) ∷ []

  pub step_protos : Step → Scope → ℕ → List Proto
  step_protos tree.no_step sc base = []
  step_protos (tree.step e) sc base = exp_protos e sc base

  pub stat_protos : Stat → Scope → ℕ → List Proto
  stat_protos (tree.empty p) sc base = []
  stat_protos (tree.assign p ts es) sc base = exps_protos es (past (targets_locals ts) sc) base
  stat_protos (tree.run p e) sc base = exp_protos e sc base
  stat_protos (tree.leave p) sc base = []
  stat_protos (tree.scope p b) sc base = block_protos b sc base
  stat_protos (tree.while p e b) sc base = block_protos b (past (exp_locals e) sc) base ++ exp_protos e sc (base + block_functions b)
  stat_protos (tree.repeat p b e) sc base =
      block_protos b sc base ++ exp_protos e (record (behind_block b sc) { next = sc.next + block_locals b }) (base + block_functions b)
  stat_protos (tree.choose p cs b) sc base = clauses_protos cs sc base ++ else_protos b (past (clauses_locals cs) sc) (base + clauses_functions cs)
  stat_protos (tree.count p n a b c d) sc base =
      exp_protos a (past 1 sc) base
      ++ (exp_protos b (taken 1 (past (1 + exp_locals a) sc)) (base + exp_functions a)
      ++ (step_protos c (taken 2 (past (1 + exp_locals a + exp_locals b) sc)) (base + exp_functions a + exp_functions b)
      ++ block_protos d (record (declared 1 (taken 3 sc)) { next = sc.next + (1 + exp_locals a + exp_locals b + step_locals c) }) (base + exp_functions a + exp_functions b + step_functions c)))
  stat_protos (tree.each p ns es b) sc base =
      exps_protos es (past (length ns) sc) base
      ++ block_protos b (record (declared (length ns) (taken 3 sc)) { next = sc.next + (length ns + exps_locals es) }) (base + exps_functions es)
  stat_protos (tree.define p e f) sc base = exp_protos f (past (exp_locals e) sc) base
  stat_protos (tree.define_method p e n f) sc base = []
  stat_protos (tree.declare_function p n f) sc base = exp_protos f (past 1 (declared 1 sc)) base
  stat_protos (tree.declare p ns es) sc base = exps_protos es (past (length ns) sc) base
  stat_protos (tree.interface p n fs) sc base = []
  stat_protos (tree.alias p n t) sc base = []

  pub clauses_protos : Clauses → Scope → ℕ → List Proto
  clauses_protos tree.no_clause sc base = []
  clauses_protos (tree.clause e b cs) sc base =
      exp_protos e sc base ++ (block_protos b (past (exp_locals e) sc) (base + exp_functions e)
      ++ clauses_protos cs (past (exp_locals e + block_locals b) sc) (base + exp_functions e + block_functions b))

  pub else_protos : Else → Scope → ℕ → List Proto
  else_protos tree.no_else sc base = []
  else_protos (tree.else_do b) sc base = block_protos b sc base

  pub block_protos : Block → Scope → ℕ → List Proto
  block_protos tree.finish sc base = []
  block_protos (tree.returns p es) sc base = exps_protos es sc base
  block_protos (tree.next s b) sc base = stat_protos s sc base ++ block_protos b (behind_stat s sc) (base + stat_functions s)

-- ---- programs (3.3.2)

abbrev pub module_scope : Names → Scope
module_scope names = record { names = names; own = []; captured = []; free = 0; next = 0 }

-- the first place of module m
abbrev pub module_place : ℕ → Pos
module_place m = record { «module» = m; line = 1; column = 1 }

-- the blocks of the modules from number m on, where the functions inside are numbered from base on
abbrev pub main_protos : List Module → ℕ → ℕ → List Proto
main_protos [] m base = []
main_protos (x ∷ xs) m base =
    proto_of 0 false [] (block_slots x.body) (body_code 0 x.body (module_place m) (module_scope x.names) base) ∷ main_protos xs (m + 1) (base + block_functions x.body)

abbrev pub inner_protos : List Module → ℕ → List Proto
inner_protos [] base = []
inner_protos (x ∷ xs) base = block_protos x.body (module_scope x.names) base ++ inner_protos xs (base + block_functions x.body)

-- the blocks first, in the order of the modules, and then the functions inside them
abbrev pub program : List Module → Code
program ms = record { functions = main_protos ms 0 (length ms) ++ inner_protos ms (length ms) }
