-- Marks and annotations declare no local.
use Rattle.std.proofs.Common.{◌≡◌, refl, ap, ◌∙◌, ℕ, ◌+◌, length, arith}
use Rattle.std.proofs.lemmas.List.{length-map}
use Rattle.lua_tree.specs.Tree as tree
use Rattle.lua_tree.specs.Tree.{Exp, Multi, Exps, Entries, Function, Stat, Targets, Clauses, Else, Step, Block}
use Rattle.lua_tree.specs.Plain.{plain_name, plain_exp, plain_multi, plain_exps, plain_entries, plain_function, plain_targets, plain_clauses, plain_else, plain_step, plain_stat, plain_block}
use Rattle.lua_meaning.specs.Locals.{exp_locals, multi_locals, exps_locals, entries_locals, function_locals, targets_locals, clauses_locals, else_locals, step_locals, stat_locals, block_locals}

pub sum : {a b c d : ℕ} → a ≡ c → b ≡ d → a + b ≡ c + d
sum {a} {b} {c} {d} h k = ap (λ x. x + b) h ∙ ap (λ y. c + y) k

mutual
  pub exp_count : (e : Exp) → exp_locals (plain_exp e) ≡ exp_locals e
  exp_count (tree.nothing p) = refl
  exp_count (tree.truth p b) = refl
  exp_count (tree.integer p n) = refl
  exp_count (tree.text p s) = refl
  exp_count (tree.function p f) = function_count f
  exp_count (tree.name p n s) = refl
  exp_count (tree.paren p e) = exp_count e
  exp_count (tree.field p e n) = exp_count e
  exp_count (tree.index p e k) = sum (exp_count e) (exp_count k)
  exp_count (tree.table p es) = entries_count es
  exp_count (tree.unary p o e) = exp_count e
  exp_count (tree.binary p o a b) = sum (exp_count a) (exp_count b)
  exp_count (tree.mark k e) = exp_count e
  exp_count (tree.one_of m) = multi_count m

  pub multi_count : (m : Multi) → multi_locals (plain_multi m) ≡ multi_locals m
  multi_count (tree.vararg p) = refl
  multi_count (tree.call p f es) = sum (exp_count f) (exps_count es)
  multi_count (tree.method p e n es) = sum (exp_count e) (exps_count es)
  multi_count (tree.mark_all k m) = multi_count m

  pub exps_count : (es : Exps) → exps_locals (plain_exps es) ≡ exps_locals es
  exps_count tree.none = refl
  exps_count (tree.ends m) = multi_count m
  exps_count (tree.more e es) = sum (exp_count e) (exps_count es)

  pub entries_count : (es : Entries) → entries_locals (plain_entries es) ≡ entries_locals es
  entries_count tree.no_entry = refl
  entries_count (tree.all_items m) = multi_count m
  entries_count (tree.item e es) = sum (exp_count e) (entries_count es)
  entries_count (tree.named n e es) = sum (exp_count e) (entries_count es)
  entries_count (tree.keyed k e es) = sum (sum (exp_count k) (exp_count e)) (entries_count es)

  pub function_count : (f : Function) → function_locals (plain_function f) ≡ function_locals f
  function_count (tree.function_of ps rest rs b) = sum (length-map ps plain_name) (block_count b)

  pub targets_count : (ts : Targets) → targets_locals (plain_targets ts) ≡ targets_locals ts
  targets_count tree.no_target = refl
  targets_count (tree.target e ts) = sum (exp_count e) (targets_count ts)

  pub clauses_count : (cs : Clauses) → clauses_locals (plain_clauses cs) ≡ clauses_locals cs
  clauses_count tree.no_clause = refl
  clauses_count (tree.clause e b cs) = sum (sum (exp_count e) (block_count b)) (clauses_count cs)

  pub else_count : (b : Else) → else_locals (plain_else b) ≡ else_locals b
  else_count tree.no_else = refl
  else_count (tree.else_do b) = block_count b

  pub step_count : (c : Step) → step_locals (plain_step c) ≡ step_locals c
  step_count tree.no_step = refl
  step_count (tree.step e) = exp_count e

  -- before a rest that declares n locals
  pub stat_count : (s : Stat) (rest : Block) → block_locals (plain_stat s rest) ≡ stat_locals s + block_locals rest
  stat_count (tree.empty p) rest = refl
  stat_count (tree.assign p ts es) rest = ap (λ n. n + block_locals rest) (sum (targets_count ts) (exps_count es))
  stat_count (tree.run p e) rest = ap (λ n. n + block_locals rest) (exp_count e)
  stat_count (tree.leave p) rest = refl
  stat_count (tree.scope p b) rest = ap (λ n. n + block_locals rest) (block_count b)
  stat_count (tree.while p e b) rest = ap (λ n. n + block_locals rest) (sum (exp_count e) (block_count b))
  stat_count (tree.repeat p b e) rest = ap (λ n. n + block_locals rest) (sum (block_count b) (exp_count e))
  stat_count (tree.choose p cs b) rest = ap (λ n. n + block_locals rest) (sum (clauses_count cs) (else_count b))
  stat_count (tree.count p n a b c d) rest =
      ap (λ n. n + block_locals rest) (sum (sum (sum (ap (λ n. 1 + n) (exp_count a)) (exp_count b)) (step_count c)) (block_count d))
  stat_count (tree.each p ns es b) rest = ap (λ n. n + block_locals rest) (sum (ap (λ n. length ns + n) (exps_count es)) (block_count b))
  stat_count (tree.define p e f) rest = ap (λ n. n + block_locals rest) (sum (exp_count e) (exp_count f))
  stat_count (tree.define_method p e n f) rest = ap (λ n. n + block_locals rest) (sum (ap (λ n. n + 1) (exp_count e)) (exp_count f))
  stat_count (tree.declare_function p n f) rest = ap (λ n. n + block_locals rest) (ap (λ n. 1 + n) (exp_count f))
  stat_count (tree.declare p ns es) rest = ap (λ n. n + block_locals rest) (sum (length-map ns plain_name) (exps_count es))
  stat_count (tree.interface p n fs) rest = Prim.omega arith
  stat_count (tree.alias p n t) rest = Prim.omega arith

  pub block_count : (b : Block) → block_locals (plain_block b) ≡ block_locals b
  block_count tree.finish = refl
  block_count (tree.returns p es) = exps_count es
  block_count (tree.next s b) = stat_count s (plain_block b) ∙ ap (λ n. stat_locals s + n) (block_count b)
