-- How much code the forms of the language (Lua 5.3 manual, 3.3 and 3.4) become: how many instructions, how many functions, and how many slots.
use Rattle.std.specs.Prelude.{ℕ, ◌+◌, max, length}
use Rattle.lua_tree.specs.declared.syntax.BinaryOperator.{BinaryOperator}
use Rattle.lua_tree.specs.declared.syntax.BinaryOperator.TheVariants as binary
use Rattle.lua_tree.specs.Tree as tree
use Rattle.lua_tree.specs.Tree.{Exp, Multi, Exps, Function, Stat, Targets, Clauses, Else, Step, Block}

-- ---- operators

-- the instructions besides those of the operands
abbrev pub operator_size : BinaryOperator → ℕ
operator_size binary.Greater = 3
operator_size binary.GreaterEqual = 3
operator_size binary.NotEqual = 2
operator_size o = 1

-- those that stand between the operands
abbrev pub operator_gap : BinaryOperator → ℕ
operator_gap binary.Or = 1
operator_gap binary.And = 1
operator_gap binary.Greater = 1
operator_gap binary.GreaterEqual = 1
operator_gap o = 0

-- the slots that are taken while the right operand is computed
abbrev pub operator_slots : BinaryOperator → ℕ
operator_slots binary.Greater = 1
operator_slots binary.GreaterEqual = 1
operator_slots o = 0

-- ---- instructions

abbrev mutual
  pub exp_size : Exp → ℕ
  exp_size (tree.nothing p) = 1
  exp_size (tree.truth p b) = 1
  exp_size (tree.integer p n) = 1
  exp_size (tree.text p s) = 1
  exp_size (tree.function p f) = 1
  exp_size (tree.name p u s) = 1
  exp_size (tree.paren p e) = exp_size e
  exp_size (tree.field p e n) = 1
  exp_size (tree.index p e k) = 1
  exp_size (tree.table p es) = 1
  exp_size (tree.unary p o e) = exp_size e + 1
  exp_size (tree.binary p o a b) = exp_size a + exp_size b + operator_size o
  exp_size (tree.mark k e) = exp_size e + 1
  exp_size (tree.one_of m) = multi_size m + 1

  pub multi_size : Multi → ℕ
  multi_size (tree.vararg p) = 1
  multi_size (tree.call p f es) = exp_size f + exps_size es + 1
  multi_size (tree.method p e n es) = 1
  multi_size (tree.mark_all k m) = multi_size m + 1

  pub exps_size : Exps → ℕ
  exps_size tree.none = 1
  exps_size (tree.ends m) = multi_size m + 1
  exps_size (tree.more e es) = exp_size e + exps_size es

abbrev pub targets_size : Targets → ℕ
targets_size tree.no_target = 0
targets_size (tree.target e ts) = targets_size ts + 1

abbrev pub step_size : Step → ℕ
step_size tree.no_step = 1
step_size (tree.step e) = exp_size e + 1

abbrev mutual
  pub stat_size : Stat → ℕ
  stat_size (tree.empty p) = 0
  stat_size (tree.assign p ts es) = exps_size es + 1 + targets_size ts
  stat_size (tree.run p e) = exp_size e + 1
  stat_size (tree.leave p) = 1
  stat_size (tree.scope p b) = block_size b
  stat_size (tree.while p e b) = 2 + block_size b + exp_size e + 1
  stat_size (tree.repeat p b e) = 1 + block_size b + exp_size e + 1
  stat_size (tree.choose p cs b) = clauses_size cs + else_size b
  stat_size (tree.count p n a b c d) = exp_size a + 2 + exp_size b + 2 + step_size c + 6 + block_size d + 1
  stat_size (tree.each p ns es b) = exps_size es + 7 + length ns + length ns + block_size b + 13
  stat_size (tree.define p e f) = exp_size f + 1
  stat_size (tree.define_method p e n f) = 0
  stat_size (tree.declare_function p n f) = 3 + exp_size f + 1
  stat_size (tree.declare p ns es) = exps_size es + 1 + length ns + length ns
  stat_size (tree.interface p n fs) = 0
  stat_size (tree.alias p n t) = 0

  pub clauses_size : Clauses → ℕ
  clauses_size tree.no_clause = 0
  clauses_size (tree.clause e b cs) = exp_size e + 1 + block_size b + 1 + clauses_size cs

  pub else_size : Else → ℕ
  else_size tree.no_else = 0
  else_size (tree.else_do b) = block_size b

  pub block_size : Block → ℕ
  block_size tree.finish = 0
  block_size (tree.returns p es) = exps_size es + 1
  block_size (tree.next s b) = stat_size s + block_size b

-- ---- functions

abbrev mutual
  pub exp_functions : Exp → ℕ
  exp_functions (tree.nothing p) = 0
  exp_functions (tree.truth p b) = 0
  exp_functions (tree.integer p n) = 0
  exp_functions (tree.text p s) = 0
  exp_functions (tree.function p f) = function_inner f + 1
  exp_functions (tree.name p u s) = 0
  exp_functions (tree.paren p e) = exp_functions e
  exp_functions (tree.field p e n) = 0
  exp_functions (tree.index p e k) = 0
  exp_functions (tree.table p es) = 0
  exp_functions (tree.unary p o e) = exp_functions e
  exp_functions (tree.binary p o a b) = exp_functions a + exp_functions b
  exp_functions (tree.mark k e) = exp_functions e
  exp_functions (tree.one_of m) = multi_functions m

  pub multi_functions : Multi → ℕ
  multi_functions (tree.vararg p) = 0
  multi_functions (tree.call p f es) = exp_functions f + exps_functions es
  multi_functions (tree.method p e n es) = 0
  multi_functions (tree.mark_all k m) = multi_functions m

  pub exps_functions : Exps → ℕ
  exps_functions tree.none = 0
  exps_functions (tree.ends m) = multi_functions m
  exps_functions (tree.more e es) = exp_functions e + exps_functions es

  -- those inside it
  pub function_inner : Function → ℕ
  function_inner (tree.function_of ps rest rs b) = block_functions b

  pub step_functions : Step → ℕ
  step_functions tree.no_step = 0
  step_functions (tree.step e) = exp_functions e

  pub stat_functions : Stat → ℕ
  stat_functions (tree.empty p) = 0
  stat_functions (tree.assign p ts es) = exps_functions es
  stat_functions (tree.run p e) = exp_functions e
  stat_functions (tree.leave p) = 0
  stat_functions (tree.scope p b) = block_functions b
  stat_functions (tree.while p e b) = block_functions b + exp_functions e
  stat_functions (tree.repeat p b e) = block_functions b + exp_functions e
  stat_functions (tree.choose p cs b) = clauses_functions cs + else_functions b
  stat_functions (tree.count p n a b c d) = exp_functions a + exp_functions b + step_functions c + block_functions d
  stat_functions (tree.each p ns es b) = exps_functions es + block_functions b
  stat_functions (tree.define p e f) = exp_functions f
  stat_functions (tree.define_method p e n f) = 0
  stat_functions (tree.declare_function p n f) = exp_functions f
  stat_functions (tree.declare p ns es) = exps_functions es
  stat_functions (tree.interface p n fs) = 0
  stat_functions (tree.alias p n t) = 0

  pub clauses_functions : Clauses → ℕ
  clauses_functions tree.no_clause = 0
  clauses_functions (tree.clause e b cs) = exp_functions e + block_functions b + clauses_functions cs

  pub else_functions : Else → ℕ
  else_functions tree.no_else = 0
  else_functions (tree.else_do b) = block_functions b

  pub block_functions : Block → ℕ
  block_functions tree.finish = 0
  block_functions (tree.returns p es) = exps_functions es
  block_functions (tree.next s b) = stat_functions s + block_functions b

-- ---- slots, from the first that is free

abbrev mutual
  pub exp_slots : Exp → ℕ
  exp_slots (tree.nothing p) = 0
  exp_slots (tree.truth p b) = 0
  exp_slots (tree.integer p n) = 0
  exp_slots (tree.text p s) = 0
  exp_slots (tree.function p f) = 0
  exp_slots (tree.name p u s) = 0
  exp_slots (tree.paren p e) = exp_slots e
  exp_slots (tree.field p e n) = 0
  exp_slots (tree.index p e k) = 0
  exp_slots (tree.table p es) = 0
  exp_slots (tree.unary p o e) = exp_slots e
  exp_slots (tree.binary p o a b) = max (exp_slots a) (operator_slots o + exp_slots b)
  exp_slots (tree.mark k e) = exp_slots e
  exp_slots (tree.one_of m) = multi_slots m

  pub multi_slots : Multi → ℕ
  multi_slots (tree.vararg p) = 0
  multi_slots (tree.call p f es) = max (exp_slots f) (exps_slots es)
  multi_slots (tree.method p e n es) = 0
  multi_slots (tree.mark_all k m) = multi_slots m

  pub exps_slots : Exps → ℕ
  exps_slots tree.none = 0
  exps_slots (tree.ends m) = multi_slots m
  exps_slots (tree.more e es) = max (exp_slots e) (exps_slots es)

abbrev pub step_slots : Step → ℕ
step_slots tree.no_step = 0
step_slots (tree.step e) = exp_slots e

-- the locals that a statement leaves in scope
abbrev pub stat_declares : Stat → ℕ
stat_declares (tree.declare_function p n f) = 1
stat_declares (tree.declare p ns es) = length ns
stat_declares s = 0

abbrev pub block_declares : Block → ℕ
block_declares tree.finish = 0
block_declares (tree.returns p es) = 0
block_declares (tree.next s b) = stat_declares s + block_declares b

abbrev mutual
  pub stat_slots : Stat → ℕ
  stat_slots (tree.empty p) = 0
  stat_slots (tree.assign p ts es) = exps_slots es
  stat_slots (tree.run p e) = exp_slots e
  stat_slots (tree.leave p) = 0
  stat_slots (tree.scope p b) = block_slots b
  stat_slots (tree.while p e b) = max (exp_slots e) (block_slots b)
  stat_slots (tree.repeat p b e) = max (block_slots b) (block_declares b + exp_slots e)
  stat_slots (tree.choose p cs b) = max (clauses_slots cs) (else_slots b)
  stat_slots (tree.count p n a b c d) = max (exp_slots a) (max (1 + exp_slots b) (max (2 + step_slots c) (4 + block_slots d)))
  stat_slots (tree.each p ns es b) = max (exps_slots es) (3 + length ns + block_slots b)
  stat_slots (tree.define p e f) = exp_slots f
  stat_slots (tree.define_method p e n f) = 0
  stat_slots (tree.declare_function p n f) = 1 + exp_slots f
  stat_slots (tree.declare p ns es) = max (exps_slots es) (length ns)
  stat_slots (tree.interface p n fs) = 0
  stat_slots (tree.alias p n t) = 0

  pub clauses_slots : Clauses → ℕ
  clauses_slots tree.no_clause = 0
  clauses_slots (tree.clause e b cs) = max (exp_slots e) (max (block_slots b) (clauses_slots cs))

  pub else_slots : Else → ℕ
  else_slots tree.no_else = 0
  else_slots (tree.else_do b) = block_slots b

  pub block_slots : Block → ℕ
  block_slots tree.finish = 0
  block_slots (tree.returns p es) = exps_slots es
  block_slots (tree.next s b) = max (stat_slots s) (stat_declares s + block_slots b)
