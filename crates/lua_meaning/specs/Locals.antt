-- How many locals the text of a tree declares (Lua 5.3 manual): its `local` statements (3.3.7), the variables of its loops (3.3.5), and the parameters
-- of its functions (3.4.11).
use Rattle.std.specs.Prelude.{ℕ, ◌+◌, length}
use Rattle.lua_tree.specs.Tree as tree
use Rattle.lua_tree.specs.Tree.{Exp, Multi, Exps, Entries, Function, Stat, Targets, Clauses, Else, Step, Block}

abbrev mutual
  pub exp_locals : Exp → ℕ
  exp_locals (tree.nothing p) = 0
  exp_locals (tree.truth p b) = 0
  exp_locals (tree.integer p n) = 0
  exp_locals (tree.text p s) = 0
  exp_locals (tree.function p f) = function_locals f
  exp_locals (tree.name p n s) = 0
  exp_locals (tree.paren p e) = exp_locals e
  exp_locals (tree.field p e n) = exp_locals e
  exp_locals (tree.index p e k) = exp_locals e + exp_locals k
  exp_locals (tree.table p es) = entries_locals es
  exp_locals (tree.unary p o e) = exp_locals e
  exp_locals (tree.binary p o a b) = exp_locals a + exp_locals b
  exp_locals (tree.mark k e) = exp_locals e
  exp_locals (tree.one_of m) = multi_locals m

  pub multi_locals : Multi → ℕ
  multi_locals (tree.vararg p) = 0
  multi_locals (tree.call p f es) = exp_locals f + exps_locals es
  multi_locals (tree.method p e n es) = exp_locals e + exps_locals es
  multi_locals (tree.mark_all k m) = multi_locals m

  pub exps_locals : Exps → ℕ
  exps_locals tree.none = 0
  exps_locals (tree.ends m) = multi_locals m
  exps_locals (tree.more e es) = exp_locals e + exps_locals es

  pub entries_locals : Entries → ℕ
  entries_locals tree.no_entry = 0
  entries_locals (tree.all_items m) = multi_locals m
  entries_locals (tree.item e es) = exp_locals e + entries_locals es
  entries_locals (tree.named n e es) = exp_locals e + entries_locals es
  entries_locals (tree.keyed k e es) = exp_locals k + exp_locals e + entries_locals es

  pub function_locals : Function → ℕ
  function_locals (tree.function_of ps rest rs b) = length ps + block_locals b

  pub targets_locals : Targets → ℕ
  targets_locals tree.no_target = 0
  targets_locals (tree.target e ts) = exp_locals e + targets_locals ts

  pub clauses_locals : Clauses → ℕ
  clauses_locals tree.no_clause = 0
  clauses_locals (tree.clause e b cs) = exp_locals e + block_locals b + clauses_locals cs

  pub else_locals : Else → ℕ
  else_locals tree.no_else = 0
  else_locals (tree.else_do b) = block_locals b

  pub step_locals : Step → ℕ
  step_locals tree.no_step = 0
  step_locals (tree.step e) = exp_locals e

  pub stat_locals : Stat → ℕ
  stat_locals (tree.empty p) = 0
  stat_locals (tree.assign p ts es) = targets_locals ts + exps_locals es
  stat_locals (tree.run p e) = exp_locals e
  stat_locals (tree.leave p) = 0
  stat_locals (tree.scope p b) = block_locals b
  stat_locals (tree.while p e b) = exp_locals e + block_locals b
  stat_locals (tree.repeat p b e) = block_locals b + exp_locals e
  stat_locals (tree.choose p cs b) = clauses_locals cs + else_locals b
  stat_locals (tree.count p n a b c d) = 1 + exp_locals a + exp_locals b + step_locals c + block_locals d
  stat_locals (tree.each p ns es b) = length ns + exps_locals es + block_locals b
  stat_locals (tree.define p e f) = exp_locals e + exp_locals f
  -- the function of a method has one parameter more, `self`
  stat_locals (tree.define_method p e n f) = exp_locals e + 1 + exp_locals f
  stat_locals (tree.declare_function p n f) = 1 + exp_locals f
  stat_locals (tree.declare p ns es) = length ns + exps_locals es
  stat_locals (tree.interface p n fs) = 0
  stat_locals (tree.alias p n t) = 0

  pub block_locals : Block → ℕ
  block_locals tree.finish = 0
  block_locals (tree.returns p es) = exps_locals es
  block_locals (tree.next s b) = stat_locals s + block_locals b
