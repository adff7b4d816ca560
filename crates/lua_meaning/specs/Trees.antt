-- The meaning of expressions and statements (Lua 5.3 manual, 3.3 and 3.4): the innermost recursion, on the tree.
-- Operands, arguments and targets go from left to right. Calls, and the further turns of loops, are left to two parameters.
-- Constructors, indexes and method calls are still to come. Until then a constructor or an index is nil, a method call gives nothing, and a store
-- into a table does nothing; a name of the library is there already.
use Rattle.std.specs.Prelude.{ℕ, ◌+◌, ◌-◌, ◌^◌, zero, suc, ℤ, pos, negsuc, ◌+ℤ◌, List, [], ◌∷◌, ◌++◌, length, drop, Option, Some, None, codes}
use Rattle.tl_base.specs.declared.place.Pos.{Pos}
use Rattle.lua_tree.specs.declared.names.LibName.{LibName}
use Rattle.lua_tree.specs.declared.names.LibName.TheVariants as lib
use Rattle.lua_tree.specs.declared.scoped.Use.{Use}
use Rattle.lua_tree.specs.declared.scoped.Use.TheVariants as means
use Rattle.lua_tree.specs.Tree as tree
use Rattle.lua_tree.specs.Tree.{Exp, Multi, Exps, Function, Stat, Targets, Clauses, Else, Step, Block}
use Rattle.lua_tree.specs.Places.{place_of, multi_place}
use Rattle.lua_values.specs.Values.{is_nil}
use Rattle.lua_values.specs.declared.value.Value.{Value}
use Rattle.lua_values.specs.declared.value.Value.TheVariants as value
use Rattle.lua_meaning.specs.World.{read_cell, write_cell, pass}
use Rattle.lua_meaning.specs.Environment.{Env, cell_of, use_of, behind, with_bound, bind}
use Rattle.lua_meaning.specs.Outcomes.{Act, Flow, normal, returned, broken, give, ◌>>=◌, ◌>>◌, look, change, turn, fail_at, kind_error_at, new_cell, new_closure, either, then_do, leave_block, next_turn}
use Rattle.lua_meaning.specs.Locals.{exp_locals, exps_locals, targets_locals, clauses_locals, step_locals, stat_locals, block_locals}
use Rattle.lua_meaning.specs.Operators.{Answer, value_is, wrong_kind, fails, is_true, kind_name, operate, operate_on, keeps_left, runs_for}

-- ---- lists of values

-- the first of the values, nil where there is none
abbrev pub first_of : List Value → Value
first_of [] = value.Nil
first_of (v ∷ vs) = v

-- n values: the list cut, or filled with nil (3.3.3)
abbrev pub adjust : ℕ → List Value → List Value
adjust zero vs = []
adjust (suc n) [] = value.Nil ∷ adjust n []
adjust (suc n) (v ∷ vs) = v ∷ adjust n vs

-- ---- names

abbrev pub library_value : LibName → Value
library_value lib.MathMaxInteger = value.Int (pos (2 ^ 63 - 1))
library_value lib.MathMinInteger = value.Int (negsuc (2 ^ 63 - 1))
library_value n = value.Builtin n

abbrev pub value_of_use : Option Use → Env → Act Value
value_of_use None env = give value.Nil
value_of_use (Some (means.Local x)) env = look (read_cell (cell_of env x))
value_of_use (Some (means.Lib n)) env = give (library_value n)

-- a library's table with a name behind it is that name
abbrev pub library_use : Option Use → Act Value
library_use (Some (means.Lib n)) = give (library_value n)
library_use u = give value.Nil

abbrev pub library_field : Exp → Env → Act Value
library_field (tree.name p u s) env = library_use (use_of env u)
library_field (tree.mark k e) env = library_field e env
library_field e env = give value.Nil

-- what a store goes into
pub data Spot : Type 0 where
  cell : Option ℕ → Spot
  nowhere : Spot

abbrev pub spot_of_use : Option Use → Env → Spot
spot_of_use (Some (means.Local x)) env = cell (cell_of env x)
spot_of_use u env = nowhere

abbrev pub store : Spot → Value → Act (Unit {0})
store (cell c) v = change (write_cell c v)
store nowhere v = give tt

-- stores go from the last to the first (3.3.3 leaves the order open)
abbrev pub store_all : List Spot → List Value → Act (Unit {0})
store_all [] vs = give tt
store_all (s ∷ ss) [] = give tt
store_all (s ∷ ss) (v ∷ vs) = do
  store_all ss vs
  store s v

-- ---- declarations

-- the local x begins with this value, in a cell of its own
abbrev pub declare : ℕ → Value → Env → Act Env
declare x v env = do
  c ← new_cell v
  give (bind x c env)

-- the locals from x on begin with these values
abbrev pub declare_all : ℕ → List Value → Env → Act Env
declare_all x [] env = give env
declare_all x (v ∷ vs) env = do
  env1 ← declare x v env
  declare_all (x + 1) vs env1

-- ---- operators

abbrev pub answered : Pos → Answer → Act Value
answered p (value_is v) = give v
answered p (wrong_kind what) = kind_error_at p what
answered p (fails what) = fail_at p what

-- ---- loops

-- what is left of a loop: a `while` or `repeat` from its beginning; a numeric `for` of the local x from this value on, with its limit and step;
-- a generic `for` of so many locals from x on, from the call of its iterator on, which stands at a place
pub data Loop : Type 0 where
  while_again : Pos → Exp → Block → Loop
  repeat_again : Pos → Block → Exp → Loop
  counting : (x : ℕ) (i limit step : ℤ) → Block → Loop
  iterating : Pos → (x count : ℕ) (iterator state control : Value) → Block → Loop

abbrev pub Caller : Type 0
Caller = Pos → Value → List Value → Act (List Value)

abbrev pub Looper : Type 0
Looper = Loop → Env → Act Flow

-- a bound of a numeric `for`
abbrev pub bound : Pos → Value → Act ℤ
bound p (value.Int n) = give n
bound p v = kind_error_at p (codes "'for' bound is a " ++ kind_name v)

abbrev pub step_bound : Pos → ℤ → Act ℤ
step_bound p (pos zero) = fail_at p (codes "'for' step is zero")
step_bound p n = give n

-- the place of the first expression
abbrev pub first_place : Pos → Exps → Pos
first_place p tree.none = p
first_place p (tree.ends m) = multi_place m
first_place p (tree.more e es) = place_of e

module _ (call : Caller) (loop : Looper) where
  -- a numeric `for` (3.3.5): each turn has a variable of its own. The next value is past the limit also where it is no integer of 64 bits.
  abbrev pub count_from : (Env → Act Flow) → ℕ → ℤ → ℤ → ℤ → Block → Env → Act Flow
  count_from body x i limit step b env =
      either (runs_for step limit i)
      (do
        turn
        env1 ← declare x (value.Int i) env
        flow ← body env1
        next_turn env.bound flow (λ _. loop (counting x (i +ℤ step) limit step b) env))
      (give (normal env.bound))

  -- a generic `for` (3.3.5): the iterator is called with state and control, and the loop ends where the first result is nil
  abbrev pub iterate : (Env → Act Flow) → Pos → ℕ → ℕ → Value → Value → Value → Block → Env → Act Flow
  iterate body p x count iterator state control b env = do
    vs ← call p iterator (state ∷ control ∷ [])
    either (is_nil (first_of vs))
        (give (normal env.bound))
        (do
          turn
          env1 ← declare_all x (adjust count vs) env
          flow ← body env1
          next_turn env.bound flow (λ _. loop (iterating p x count iterator state (first_of vs) b) env))

  abbrev mutual
    -- the value of an expression
    pub eval : Exp → Env → Act Value
    eval (tree.nothing p) env = give value.Nil
    eval (tree.truth p b) env = give (value.Bool b)
    eval (tree.integer p n) env = give (value.Int n)
    eval (tree.text p s) env = give (value.Str s)
    eval (tree.function p f) env = new_closure (record { function = f; env = env })
    eval (tree.name p u s) env = value_of_use (use_of env u) env
    eval (tree.paren p e) env = eval e env
    eval (tree.field p e n) env = library_field e env
    eval (tree.index p e k) env = give value.Nil
    eval (tree.table p es) env = give value.Nil
    eval (tree.unary p o e) env = do
      v ← eval e env
      answered p (operate_on o v)
    eval (tree.binary p o a b) env = do
      u ← eval a env
      either (keeps_left o u) (give u) (do
        v ← eval b (behind (exp_locals a) env)
        answered p (operate o u v))
    -- a mark is passed when the value is there
    eval (tree.mark k e) env = do
      v ← eval e env
      change (pass (record { pos = place_of e; kind = k }))
      give v
    eval (tree.one_of m) env = do
      vs ← eval_multi m env
      give (first_of vs)

    -- the values of a call or of `...`
    pub eval_multi : Multi → Env → Act (List Value)
    eval_multi (tree.vararg p) env = give env.rest
    eval_multi (tree.call p f es) env = do
      callee ← eval f env
      vs ← eval_all es (behind (exp_locals f) env)
      call p callee vs
    eval_multi (tree.method p e n es) env = give []
    eval_multi (tree.mark_all k m) env = do
      vs ← eval_multi m env
      change (pass (record { pos = multi_place m; kind = k }))
      give vs

    -- the values of a list: a call or `...` at its end gives all its values (3.4)
    pub eval_all : Exps → Env → Act (List Value)
    eval_all tree.none env = give []
    eval_all (tree.ends m) env = eval_multi m env
    eval_all (tree.more e es) env = do
      v ← eval e env
      vs ← eval_all es (behind (exp_locals e) env)
      give (v ∷ vs)

    pub eval_target : Exp → Env → Act Spot
    eval_target (tree.name p u s) env = give (spot_of_use (use_of env u) env)
    eval_target (tree.mark k e) env = eval_target e env
    eval_target e env = give nowhere

    pub eval_targets : Targets → Env → Act (List Spot)
    eval_targets tree.no_target env = give []
    eval_targets (tree.target e ts) env = do
      spot ← eval_target e env
      spots ← eval_targets ts (behind (exp_locals e) env)
      give (spot ∷ spots)

    -- the step of a numeric `for`, 1 where none is written
    pub eval_step : Step → Env → Act ℤ
    eval_step tree.no_step env = give (pos 1)
    eval_step (tree.step e) env = do
      v ← eval e env
      n ← bound (place_of e) v
      step_bound (place_of e) n

    pub exec : Stat → Env → Act Flow
    exec (tree.empty p) env = give (normal env.bound)
    exec (tree.assign p ts es) env = do
      spots ← eval_targets ts env
      vs ← eval_all es (behind (targets_locals ts) env)
      store_all spots (adjust (length spots) vs)
      give (normal env.bound)
    exec (tree.run p e) env = do
      eval e env
      give (normal env.bound)
    exec (tree.leave p) env = give broken
    exec (tree.scope p b) env = do
      flow ← exec_all b env
      give (leave_block env.bound flow)
    -- the turn of a loop is taken when its condition held
    exec (tree.while p e b) env = do
      v ← eval e env
      either (is_true v)
          (do
            turn
            flow ← exec_all b (behind (exp_locals e) env)
            next_turn env.bound flow (λ _. loop (while_again p e b) env))
          (give (normal env.bound))
    -- the condition sees the locals of the body
    exec (tree.repeat p b e) env = do
      turn
      flow ← exec_all b env
      next_turn env.bound flow (λ inner. do
        v ← eval e (behind (block_locals b) (with_bound inner env))
        either (is_true v) (give (normal env.bound)) (loop (repeat_again p b e) env))
    exec (tree.choose p cs b) env = exec_clauses cs (exec_else b (behind (clauses_locals cs) env)) env
    -- each bound is an integer before the next is evaluated
    exec (tree.count p n a b c d) env = do
      u ← eval a (behind 1 env)
      i ← bound (place_of a) u
      v ← eval b (behind (1 + exp_locals a) env)
      limit ← bound (place_of b) v
      step ← eval_step c (behind (1 + exp_locals a + exp_locals b) env)
      count_from (λ env1. exec_all d env1) env.next i limit step d (behind (1 + exp_locals a + exp_locals b + step_locals c) env)
    exec (tree.each p ns es b) env = do
      vs ← eval_all es (behind (length ns) env)
      iterate (λ env1. exec_all b env1) (first_place p es) env.next (length ns) (first_of vs) (first_of (drop 1 vs)) (first_of (drop 2 vs)) b (behind (length ns + exps_locals es) env)
    exec (tree.define p e f) env = do
      spot ← eval_target e env
      v ← eval f (behind (exp_locals e) env)
      store spot v
      give (normal env.bound)
    exec (tree.define_method p e n f) env = give (normal env.bound)
    -- the function sees its own name
    exec (tree.declare_function p n f) env = do
      env1 ← declare env.next value.Nil env
      v ← eval f (behind 1 env1)
      change (write_cell (cell_of env1 env.next) v)
      give (normal env1.bound)
    exec (tree.declare p ns es) env = do
      vs ← eval_all es (behind (length ns) env)
      env1 ← declare_all env.next (adjust (length ns) vs) env
      give (normal env1.bound)
    exec (tree.interface p n fs) env = give (normal env.bound)
    exec (tree.alias p n t) env = give (normal env.bound)

    -- the first clause whose condition holds, or what is done otherwise
    pub exec_clauses : Clauses → Act Flow → Env → Act Flow
    exec_clauses tree.no_clause otherwise env = otherwise
    exec_clauses (tree.clause e b cs) otherwise env = do
      v ← eval e env
      either (is_true v)
          (do
            flow ← exec_all b (behind (exp_locals e) env)
            give (leave_block env.bound flow))
          (exec_clauses cs otherwise (behind (exp_locals e + block_locals b) env))

    pub exec_else : Else → Env → Act Flow
    exec_else tree.no_else env = give (normal env.bound)
    exec_else (tree.else_do b) env = do
      flow ← exec_all b env
      give (leave_block env.bound flow)

    pub exec_all : Block → Env → Act Flow
    exec_all tree.finish env = give (normal env.bound)
    exec_all (tree.returns p es) env = do
      vs ← eval_all es env
      give (returned vs)
    exec_all (tree.next s b) env = do
      flow ← exec s env
      then_do flow (λ inner. exec_all b (behind (stat_locals s) (with_bound inner env)))

  -- what is left of a loop, with the loops and calls of this level
  abbrev pub go_round : Looper
  go_round (while_again p e b) env = exec (tree.while p e b) env
  go_round (repeat_again p b e) env = exec (tree.repeat p b e) env
  go_round (counting x i limit step b) env = count_from (λ env1. exec_all b env1) x i limit step b env
  go_round (iterating p x count iterator state control b) env = iterate (λ env1. exec_all b env1) p x count iterator state control b env
