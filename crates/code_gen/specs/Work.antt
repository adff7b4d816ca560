-- The code of a program while it is written: what is written of the function at work, the functions that are finished, and the scope.
-- Each form of the language adds its code, the functions inside it, and the locals that its text declares.
use Rattle.std.specs.Prelude.{ℕ, ◌+◌, ◌-◌, drop, Bool, true, false, List, [], ◌∷◌, ◌++◌, length, slice_set}
use Rattle.tl_base.specs.declared.place.Pos.{Pos}
use Rattle.lua_tree.specs.Tree as tree
use Rattle.lua_tree.specs.Tree.{Exp, Multi, Exps, Function, Stat, Clauses, Else, Step, Block}
use Rattle.lua_meaning.specs.Locals.{exp_locals, multi_locals, exps_locals, function_locals, step_locals, clauses_locals, else_locals, block_locals}
use Rattle.lua_tree.specs.declared.scoped.Scoped.{Scoped}
use Rattle.lua_meaning.specs.Environment.{Names}
use Rattle.lua_meaning.specs.Programs.{module_of}
use Rattle.lua_code.specs.declared.code.Capture.{Capture}
use Rattle.lua_code.specs.declared.code.Proto.{Proto}
use Rattle.lua_code.specs.declared.code.Instr.{Instr}
use Rattle.lua_code.specs.declared.code.Instr.TheVariants as instr
use Rattle.lua_tree.specs.Places.{place_of}
use Rattle.lua_code.specs.Sizes.{exp_size, block_size}
use Rattle.lua_code.specs.Generated.{Placed, one, new_cells, begin_locals, proto_of, Scope, past, in_slots, behind_stat, behind_block, exp_code, multi_code, list_code, step_code, stat_code, clauses_code, else_code, block_code, exp_protos, multi_protos, exps_protos, function_protos, step_protos, stat_protos, clauses_protos, else_protos, block_protos}

pub record Work : Type 0 where
  -- the number of the first function inside a module
  pub first : ℕ
  -- those that are finished
  pub protos : List Proto
  pub code : Placed
  pub scope : Scope

-- what the names of a module mean
abbrev pub names_in : Scoped → Names
names_in s = (module_of s).names

-- the number of the next function that is finished
abbrev pub base : Work → ℕ
base w = w.first + length w.protos

-- more code, functions finished, and a scope
abbrev pub grown : Placed → List Proto → Scope → Work → Work
grown c ps sc w = record w { code = w.code ++ c; protos = w.protos ++ ps; scope = sc }

abbrev pub with_scope : Scope → Work → Work
with_scope sc w = record w { scope = sc }

-- a text that declares n locals is passed
unfoldable pub skip : ℕ → Work → Work
skip n w = with_scope (past n w.scope) w

-- with so many slots taken, and with so many locals declared before this place
unfoldable pub free_from : ℕ → Work → Work
free_from n w = with_scope (record w.scope { free = n }) w

unfoldable pub next_from : ℕ → Work → Work
next_from n w = with_scope (record w.scope { next = n }) w

-- n locals, numbered from x on, come into scope in the first free slots
abbrev pub entered : ℕ → ℕ → Scope → Scope
entered n x sc = record sc { own = in_slots n x sc.free sc.own; free = sc.free + n }

unfoldable pub declaring : ℕ → ℕ → Work → Work
declaring n x w = with_scope (entered n x w.scope) w

-- so many locals that came first stay in scope, and slots are free from this one on
abbrev pub left : ℕ → ℕ → Scope → Scope
left count free sc = record sc { own = drop (length sc.own - count) sc.own; free = free }

unfoldable pub leaving : ℕ → ℕ → Work → Work
leaving count free w = with_scope (left count free w.scope) w

-- instructions alone
unfoldable pub put_all : Placed → Work → Work
put_all c w = record w { code = w.code ++ c }

abbrev pub put : Instr → Pos → Work → Work
put i p w = put_all (one i p) w

-- ---- jumps whose target is set once the place that they lead to is known

-- the instruction at a place of what is written becomes this one, at this position; nothing changes past the end
unfoldable pub patched : ℕ → Instr → Pos → Work → Work
patched at i p w = record w { code = slice_set w.code at (i, p) }

-- those at some places
abbrev pub all_patched : List ℕ → Instr → Pos → Work → Work
all_patched [] i p w = w
all_patched (at ∷ ats) i p w = all_patched ats i p (patched at i p w)

-- where the last jump of each clause stands, where the code of the clauses begins at a place
abbrev pub last_jumps : Clauses → ℕ → List ℕ
last_jumps tree.no_clause at = []
last_jumps (tree.clause e b cs) at = (at + exp_size e + 1 + block_size b) ∷ last_jumps cs (at + exp_size e + 1 + block_size b + 1)

-- ---- expressions

unfoldable pub with_exp : Exp → Work → Work
with_exp e w = grown (exp_code e w.scope (base w) (length w.code)) (exp_protos e w.scope (base w)) (past (exp_locals e) w.scope) w

unfoldable pub with_multi : Multi → Work → Work
with_multi m w = grown (multi_code m w.scope (base w) (length w.code)) (multi_protos m w.scope (base w)) (past (multi_locals m) w.scope) w

-- all the values of an expression where it can give any number of them, else the one
abbrev pub with_values : Exp → Work → Work
with_values (tree.one_of m) w = with_multi m w
with_values e w = with_exp e w

abbrev pub is_open : Exp → Bool
is_open (tree.one_of m) = true
is_open e = false

-- the list of the values, where n values of it are on the stack
unfoldable pub with_list : Exps → Pos → ℕ → Work → Work
with_list es p n w = grown (list_code es p n w.scope (base w) (length w.code)) (exps_protos es w.scope (base w)) (past (exps_locals es) w.scope) w

unfoldable pub with_step : Step → Pos → Work → Work
with_step c p w = grown (step_code c p w.scope (base w) (length w.code)) (step_protos c w.scope (base w)) (past (step_locals c) w.scope) w

-- a bound of a numeric `for`, which has to be an integer, goes into a slot
abbrev pub with_bound : Exp → ℕ → Pos → Work → Work
with_bound e slot p w = free_from (slot + 1) (put (instr.SetSlot slot) p (put instr.Bound (place_of e) (with_exp e w)))

-- a turn of a numeric `for` begins: the value in the slot is that of a new variable, the local x; q is where the step is found to be 0
abbrev pub with_count_begun : ℕ → ℕ → ℕ → Pos → Pos → Work → Work
with_count_begun slot x behind q p w =
    declaring 1 x
    (free_from (slot + 3)
    (put (instr.NewCell (slot + 3)) p
    (put (instr.SetSlot (slot + 3)) p
    (put (instr.GetSlot slot) p
    (put instr.Turn p
    (put (instr.ForPrep slot behind) q w))))))

-- a turn of a generic `for` begins: iterator, state and control are in three slots, and n results go to new variables, the locals from x on
abbrev pub with_each_begun : ℕ → ℕ → ℕ → ℕ → Pos → Work → Work
with_each_begun slot n x test p w =
    declaring n x
    (free_from (slot + 3)
    (put_all (begin_locals (slot + 3) n p)
    (put (instr.Spread n) p
    (put instr.Turn p
    (put (instr.Jump test) p
    (put (instr.SetSlot slot) p
    (put (instr.SetSlot (slot + 1)) p
    (put (instr.SetSlot (slot + 2)) p
    (put (instr.Spread 3) p w)))))))))

-- the function itself, behind those inside it; no code of the function at work
unfoldable pub with_function : Function → Pos → Work → Work
with_function f p w = grown [] (function_protos f p w.scope (base w)) (past (function_locals f) w.scope) w

-- ---- blocks: `break` goes to the place brk

-- a block whose locals stay in scope, and one whose locals end with it
unfoldable pub with_block : Block → ℕ → Work → Work
with_block b brk w = grown (block_code b w.scope (base w) (length w.code) brk) (block_protos b w.scope (base w)) (behind_block b w.scope) w

unfoldable pub with_scoped : Block → ℕ → Work → Work
with_scoped b brk w = with_scope (past (block_locals b) w.scope) (with_block b brk w)

-- ---- functions

-- a function's body: the parameters become cells, and where it ends without `return`, nothing is given
abbrev pub with_body : ℕ → Block → Pos → Work → Work
with_body params b p w = put instr.Return p (put (instr.Pack 0) p (with_block b (params + block_size b) (put_all (new_cells 0 params p) w)))

-- the code so far and the scope of the function at work
abbrev pub at_work : Placed → Scope → Work → Work
at_work code sc w = record w { code = code; scope = sc }

-- the function at work is finished, and the one around it, with its code so far and its scope, goes on behind its text
abbrev pub finished : Placed → Scope → ℕ → Bool → ℕ → List Capture → Work → Work
finished code sc params vararg slots captures w =
    record w { protos = w.protos ++ proto_of params vararg captures slots w.code ∷ []; code = code; scope = record sc { next = w.scope.next } }

-- ---- statements

abbrev pub is_loop : Stat → Bool
is_loop (tree.while p e b) = true
is_loop (tree.repeat p b e) = true
is_loop (tree.count p n a b c d) = true
is_loop (tree.each p ns es b) = true
is_loop s = false

unfoldable pub with_stat : Stat → ℕ → Work → Work
with_stat s brk w = grown (stat_code s w.scope (base w) (length w.code) brk) (stat_protos s w.scope (base w)) (behind_stat s w.scope) w

unfoldable pub with_clauses : Clauses → Pos → ℕ → ℕ → Work → Work
with_clauses cs p end brk w =
    grown (clauses_code cs p w.scope (base w) (length w.code) end brk) (clauses_protos cs w.scope (base w)) (past (clauses_locals cs) w.scope) w

unfoldable pub with_else : Else → ℕ → Work → Work
with_else b brk w = grown (else_code b w.scope (base w) (length w.code) brk) (else_protos b w.scope (base w)) (past (else_locals b) w.scope) w
