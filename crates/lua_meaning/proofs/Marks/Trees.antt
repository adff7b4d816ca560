-- Marked and plain trees run alike: by induction on the tree, where calls and the further turns of loops do.
use Rattle.std.proofs.Common.{◌≡◌, refl, ap, subst, sym, ℕ, zero, suc, ◌+◌, ℤ, pos, negsuc, ◌+ℤ◌, List, [], ◌∷◌, map, length, drop, Option, Some, None, arith}
use Rattle.std.proofs.lemmas.List.{length-map}
use Rattle.tl_base.specs.declared.place.Pos.{Pos}
use Rattle.lua_tree.specs.declared.scoped.Use.{Use}
use Rattle.lua_tree.specs.declared.scoped.Use.TheVariants as means
use Rattle.lua_tree.specs.Tree as tree
use Rattle.lua_tree.specs.Tree.{Exp, Multi, Exps, Entries, Function, Stat, Targets, Clauses, Else, Step, Block}
use Rattle.lua_tree.specs.Places.{place_of, multi_place}
use Rattle.lua_tree.specs.Plain.{plain_name, plain_exp, plain_multi, plain_exps, plain_targets, plain_clauses, plain_else, plain_step, plain_stat, plain_block}
use Rattle.lua_values.specs.Values.{is_nil}
use Rattle.lua_values.specs.declared.value.Value.{Value}
use Rattle.lua_values.specs.declared.value.Value.TheVariants as value
use Rattle.lua_meaning.specs.Environment.{Env, cell_of, use_of, behind, with_bound, bind}
use Rattle.lua_meaning.specs.Outcomes.{Act, Flow, normal, returned, broken, give, ◌>>=◌, then_do, leave_block}
use Rattle.lua_meaning.specs.Locals.{exp_locals, exps_locals, targets_locals, clauses_locals, step_locals, stat_locals, block_locals}
use Rattle.lua_meaning.specs.Operators.{Answer, value_is, wrong_kind, fails, is_true, operate, operate_on, keeps_left, runs_for}
use Rattle.lua_meaning.specs.Trees as meant
use Rattle.lua_meaning.specs.Trees.{Caller, Looper, Loop, while_again, repeat_again, counting, iterating, Spot, cell, nowhere, store, store_all, declare, declare_all, answered, bound, step_bound, first_place, first_of, adjust, value_of_use, library_use, library_field, spot_of_use}
use Rattle.lua_meaning.proofs.Marks.Counts.{sum, exp_count, exps_count, targets_count, clauses_count, step_count, stat_count, block_count}
use Rattle.lua_meaning.proofs.Marks.Alike.{Same, then_same, next_same, moved, give_same, read_same, write_cell_same, new_cell_same, turn_same, fail_same, kind_error_same, new_closure_same, mark_same, either_same, then_do_same, next_turn_same}

-- ---- what has no trees in it

use_same : (u : Option Use) (env : Env) → Same (value_of_use u env) (value_of_use u env)
use_same None env = give_same value.Nil
use_same (Some (means.Local x)) env = read_same (cell_of env x)
use_same (Some (means.Lib n)) env = give_same _

library_same : (u : Option Use) → Same (library_use u) (library_use u)
library_same None = give_same value.Nil
library_same (Some (means.Local x)) = give_same value.Nil
library_same (Some (means.Lib n)) = give_same _

store_same : (s : Spot) (v : Value) → Same (store s v) (store s v)
store_same (cell c) v = write_cell_same c v
store_same nowhere v = give_same tt

store_all_same : (ss : List Spot) (vs : List Value) → Same (store_all ss vs) (store_all ss vs)
store_all_same [] vs = give_same tt
store_all_same (s ∷ ss) [] = give_same tt
store_all_same (s ∷ ss) (v ∷ vs) = next_same _ _ _ _ (store_all_same ss vs) (store_same s v)

declare_same : (x : ℕ) (v : Value) (env : Env) → Same (declare x v env) (declare x v env)
declare_same x v env = then_same _ _ _ _ (new_cell_same v) (λ c. give_same (bind x c env))

pub declare_all_same : (vs : List Value) (x : ℕ) (env : Env) → Same (declare_all x vs env) (declare_all x vs env)
declare_all_same [] x env = give_same env
declare_all_same (v ∷ vs) x env = then_same _ _ _ _ (declare_same x v env) (λ env1. declare_all_same vs (x + 1) env1)

answered_same : (p : Pos) (a : Answer) → Same (answered p a) (answered p a)
answered_same p (value_is v) = give_same v
answered_same p (wrong_kind what) = kind_error_same p what
answered_same p (fails what) = fail_same p what

bound_same : (p : Pos) (v : Value) → Same (bound p v) (bound p v)
bound_same p (value.Int n) = give_same n
bound_same p value.Nil = kind_error_same p _
bound_same p (value.Bool b) = kind_error_same p _
bound_same p (value.Str s) = kind_error_same p _
bound_same p (value.Table t) = kind_error_same p _
bound_same p (value.Closure k) = kind_error_same p _
bound_same p (value.Builtin n) = kind_error_same p _

step_bound_same : (p : Pos) (n : ℤ) → Same (step_bound p n) (step_bound p n)
step_bound_same p (pos zero) = fail_same p _
step_bound_same p (pos (suc n)) = give_same (pos (suc n))
step_bound_same p (negsuc n) = give_same (negsuc n)

-- ---- places

mutual
  exp_place : (e : Exp) → place_of (plain_exp e) ≡ place_of e
  exp_place (tree.nothing p) = refl
  exp_place (tree.truth p b) = refl
  exp_place (tree.integer p n) = refl
  exp_place (tree.text p s) = refl
  exp_place (tree.function p f) = refl
  exp_place (tree.name p n s) = refl
  exp_place (tree.paren p e) = refl
  exp_place (tree.field p e n) = refl
  exp_place (tree.index p e k) = refl
  exp_place (tree.table p es) = refl
  exp_place (tree.unary p o e) = refl
  exp_place (tree.binary p o a b) = refl
  exp_place (tree.mark k e) = exp_place e
  exp_place (tree.one_of m) = multi_same_place m

  multi_same_place : (m : Multi) → multi_place (plain_multi m) ≡ multi_place m
  multi_same_place (tree.vararg p) = refl
  multi_same_place (tree.call p f es) = refl
  multi_same_place (tree.method p e n es) = refl
  multi_same_place (tree.mark_all k m) = multi_same_place m

first_same_place : (p : Pos) (es : Exps) → first_place p (plain_exps es) ≡ first_place p es
first_same_place p tree.none = refl
first_same_place p (tree.ends m) = multi_same_place m
first_same_place p (tree.more e es) = exp_place e

-- ---- loops

abbrev pub plain_loop : Loop → Loop
plain_loop (while_again p e b) = while_again p (plain_exp e) (plain_block b)
plain_loop (repeat_again p b e) = repeat_again p (plain_block b) (plain_exp e)
plain_loop (counting x i limit step b) = counting x i limit step (plain_block b)
plain_loop (iterating p x count iterator state control b) = iterating p x count iterator state control (plain_block b)

field_same : (e : Exp) (env : Env) → Same (library_field e env) (library_field (plain_exp e) env)
field_same (tree.name p u s) env = library_same (use_of env u)
field_same (tree.mark k e) env = field_same e env
field_same e env = give_same value.Nil

module _ (call on : Caller) (loop round : Looper)
    (call_same : (p : Pos) (f : Value) (vs : List Value) → Same (call p f vs) (on p f vs))
    (loop_same : (l : Loop) (env : Env) → Same (loop l env) (round (plain_loop l) env)) where
  count_same : (body plain : Env → Act Flow) → ((env : Env) → Same (body env) (plain env)) → (x : ℕ) (i limit step : ℤ) (b : Block) (env : Env)
      → Same (meant.count_from call loop body x i limit step b env) (meant.count_from on round plain x i limit step (plain_block b) env)
  count_same body plain same x i limit step b env =
      either_same (runs_for step limit i) _ _ _ _
      (next_same _ _ _ _ turn_same
      (then_same _ _ _ _ (declare_same x (value.Int i) env) (λ env1.
      then_same _ _ _ _ (same env1) (λ flow.
      next_turn_same env.bound flow _ _ (λ _. loop_same (counting x (i +ℤ step) limit step b) env)))))
      (give_same (normal env.bound))

  iterate_same : (body plain : Env → Act Flow) → ((env : Env) → Same (body env) (plain env)) → (p : Pos) (x count : ℕ) (iterator state control : Value) (b : Block) (env : Env)
      → Same (meant.iterate call loop body p x count iterator state control b env) (meant.iterate on round plain p x count iterator state control (plain_block b) env)
  iterate_same body plain same p x count iterator state control b env =
      then_same _ _ _ _ (call_same p iterator (state ∷ control ∷ [])) (λ vs.
      either_same (is_nil (first_of vs)) _ _ _ _
      (give_same (normal env.bound))
      (next_same _ _ _ _ turn_same
      (then_same _ _ _ _ (declare_all_same (adjust count vs) x env) (λ env1.
      then_same _ _ _ _ (same env1) (λ flow.
      next_turn_same env.bound flow _ _ (λ _. loop_same (iterating p x count iterator state (first_of vs) b) env))))))

  -- a statement and its plain one, before the same
  follow_same : (s t : Stat) (b : Block) → stat_locals t + 0 ≡ stat_locals s + 0 → ((env : Env) → Same (meant.exec call loop s env) (meant.exec on round t env))
      → ((env : Env) → Same (meant.exec_all call loop b env) (meant.exec_all on round (plain_block b) env))
      → (env : Env) → Same (meant.exec_all call loop (tree.next s b) env) (meant.exec_all on round (tree.next t (plain_block b)) env)
  follow_same s t b count same rest env =
      then_same _ _ _ _ (same env) (λ flow.
      then_do_same flow _ _ (λ inner.
      moved _ (λ n. meant.exec_all on round (plain_block b) (behind n (with_bound inner env))) _ _ (Prim.omega (arith, count)) (rest (behind (stat_locals s) (with_bound inner env)))))

  -- a type statement does nothing
  skipped : (b : Block) → ((env : Env) → Same (meant.exec_all call loop b env) (meant.exec_all on round (plain_block b) env))
      → (env : Env) → Same (give (normal env.bound) >>= (λ flow. then_do flow (λ inner. meant.exec_all call loop b (behind 0 (with_bound inner env))))) (meant.exec_all on round (plain_block b) env)
  skipped b rest env =
      let here : env.next + 0 ≡ env.next = Prim.omega arith in
      subst (λ n. Same (meant.exec_all call loop b (record env { next = n })) (meant.exec_all on round (plain_block b) env)) (sym here) (rest env)

  placed_same : (p q : Pos) (v : Value) → q ≡ p → Same (bound p v) (bound q v)
  placed_same p q v e = subst (λ z. Same (bound p v) (bound z v)) (sym e) (bound_same p v)

  mutual
    pub exp_same : (e : Exp) (env : Env) → Same (meant.eval call loop e env) (meant.eval on round (plain_exp e) env)
    exp_same (tree.nothing p) env = give_same value.Nil
    exp_same (tree.truth p b) env = give_same (value.Bool b)
    exp_same (tree.integer p n) env = give_same (value.Int n)
    exp_same (tree.text p s) env = give_same (value.Str s)
    exp_same (tree.function p f) env = new_closure_same (record { function = f; env = env })
    exp_same (tree.name p u s) env = use_same (use_of env u) env
    exp_same (tree.paren p e) env = exp_same e env
    exp_same (tree.field p e n) env = field_same e env
    exp_same (tree.index p e k) env = give_same value.Nil
    exp_same (tree.table p es) env = give_same value.Nil
    exp_same (tree.unary p o e) env = then_same _ _ _ _ (exp_same e env) (λ v. answered_same p (operate_on o v))
    exp_same (tree.binary p o a b) env =
        then_same _ _ _ _ (exp_same a env) (λ u.
        either_same (keeps_left o u) _ _ _ _ (give_same u)
        (then_same _ _ _ _ (moved _ (λ n. meant.eval on round (plain_exp b) (behind n env)) _ _ (exp_count a) (exp_same b (behind (exp_locals a) env))) (λ v.
        answered_same p (operate o u v))))
    exp_same (tree.mark k e) env = mark_same _ _ _ (exp_same e env)
    exp_same (tree.one_of m) env = then_same _ _ _ _ (multi_same m env) (λ vs. give_same (first_of vs))

    pub multi_same : (m : Multi) (env : Env) → Same (meant.eval_multi call loop m env) (meant.eval_multi on round (plain_multi m) env)
    multi_same (tree.vararg p) env = give_same env.rest
    multi_same (tree.call p f es) env =
        then_same _ _ _ _ (exp_same f env) (λ callee.
        then_same _ _ _ _ (moved _ (λ n. meant.eval_all on round (plain_exps es) (behind n env)) _ _ (exp_count f) (exps_same es (behind (exp_locals f) env))) (λ vs.
        call_same p callee vs))
    multi_same (tree.method p e n es) env = give_same []
    multi_same (tree.mark_all k m) env = mark_same _ _ _ (multi_same m env)

    pub exps_same : (es : Exps) (env : Env) → Same (meant.eval_all call loop es env) (meant.eval_all on round (plain_exps es) env)
    exps_same tree.none env = give_same []
    exps_same (tree.ends m) env = multi_same m env
    exps_same (tree.more e es) env =
        then_same _ _ _ _ (exp_same e env) (λ v.
        then_same _ _ _ _ (moved _ (λ n. meant.eval_all on round (plain_exps es) (behind n env)) _ _ (exp_count e) (exps_same es (behind (exp_locals e) env))) (λ vs.
        give_same (v ∷ vs)))

    target_same : (e : Exp) (env : Env) → Same (meant.eval_target call loop e env) (meant.eval_target on round (plain_exp e) env)
    target_same (tree.name p u s) env = give_same (spot_of_use (use_of env u) env)
    target_same (tree.mark k e) env = target_same e env
    target_same e env = give_same nowhere

    targets_same : (ts : Targets) (env : Env) → Same (meant.eval_targets call loop ts env) (meant.eval_targets on round (plain_targets ts) env)
    targets_same tree.no_target env = give_same []
    targets_same (tree.target e ts) env =
        then_same _ _ _ _ (target_same e env) (λ spot.
        then_same _ _ _ _ (moved _ (λ n. meant.eval_targets on round (plain_targets ts) (behind n env)) _ _ (exp_count e) (targets_same ts (behind (exp_locals e) env))) (λ spots.
        give_same (spot ∷ spots)))

    eval_step_same : (c : Step) (env : Env) → Same (meant.eval_step call loop c env) (meant.eval_step on round (plain_step c) env)
    eval_step_same tree.no_step env = give_same (pos 1)
    eval_step_same (tree.step e) env =
        then_same _ _ _ _ (exp_same e env) (λ v.
        subst (λ p. Same (bound (place_of e) v >>= (λ n. step_bound (place_of e) n)) (bound p v >>= (λ n. step_bound p n))) (sym (exp_place e))
        (then_same _ _ _ _ (bound_same (place_of e) v) (λ n. step_bound_same (place_of e) n)))

    -- a statement, where what follows it is the same
    stat_same : (s : Stat) (b : Block) → ((env : Env) → Same (meant.exec_all call loop b env) (meant.exec_all on round (plain_block b) env))
        → (env : Env) → Same (meant.exec_all call loop (tree.next s b) env) (meant.exec_all on round (plain_stat s (plain_block b)) env)
    stat_same (tree.empty p) b rest env = follow_same (tree.empty p) (tree.empty p) b refl (λ env1. give_same (normal env1.bound)) rest env
    stat_same (tree.assign p ts es) b rest env =
        follow_same (tree.assign p ts es) (tree.assign p (plain_targets ts) (plain_exps es)) b (stat_count (tree.assign p ts es) tree.finish) (λ env1.
        then_same _ _ _ _ (targets_same ts env1) (λ spots.
        then_same _ _ _ _ (moved _ (λ n. meant.eval_all on round (plain_exps es) (behind n env1)) _ _ (targets_count ts) (exps_same es (behind (targets_locals ts) env1))) (λ vs.
        next_same _ _ _ _ (store_all_same spots (adjust (length spots) vs)) (give_same (normal env1.bound))))) rest env
    stat_same (tree.run p e) b rest env =
        follow_same (tree.run p e) (tree.run p (plain_exp e)) b (stat_count (tree.run p e) tree.finish) (λ env1.
        next_same _ _ _ _ (exp_same e env1) (give_same (normal env1.bound))) rest env
    stat_same (tree.leave p) b rest env = follow_same (tree.leave p) (tree.leave p) b refl (λ env1. give_same broken) rest env
    stat_same (tree.scope p d) b rest env =
        follow_same (tree.scope p d) (tree.scope p (plain_block d)) b (stat_count (tree.scope p d) tree.finish) (λ env1.
        then_same _ _ _ _ (block_same d env1) (λ flow. give_same (leave_block env1.bound flow))) rest env
    stat_same (tree.while p e d) b rest env =
        follow_same (tree.while p e d) (tree.while p (plain_exp e) (plain_block d)) b (stat_count (tree.while p e d) tree.finish) (λ env1.
        then_same _ _ _ _ (exp_same e env1) (λ v.
        either_same (is_true v) _ _ _ _
        (next_same _ _ _ _ turn_same
        (then_same _ _ _ _ (moved _ (λ n. meant.exec_all on round (plain_block d) (behind n env1)) _ _ (exp_count e) (block_same d (behind (exp_locals e) env1))) (λ flow.
        next_turn_same env1.bound flow _ _ (λ _. loop_same (while_again p e d) env1))))
        (give_same (normal env1.bound)))) rest env
    stat_same (tree.repeat p d e) b rest env =
        follow_same (tree.repeat p d e) (tree.repeat p (plain_block d) (plain_exp e)) b (stat_count (tree.repeat p d e) tree.finish) (λ env1.
        next_same _ _ _ _ turn_same
        (then_same _ _ _ _ (block_same d env1) (λ flow.
        next_turn_same env1.bound flow _ _ (λ inner.
        then_same _ _ _ _ (moved _ (λ n. meant.eval on round (plain_exp e) (behind n (with_bound inner env1))) _ _ (block_count d) (exp_same e (behind (block_locals d) (with_bound inner env1)))) (λ v.
        either_same (is_true v) _ _ _ _ (give_same (normal env1.bound)) (loop_same (repeat_again p d e) env1)))))) rest env
    stat_same (tree.choose p cs d) b rest env =
        follow_same (tree.choose p cs d) (tree.choose p (plain_clauses cs) (plain_else d)) b (stat_count (tree.choose p cs d) tree.finish) (λ env1.
        clauses_same cs _ _ (moved _ (λ n. meant.exec_else on round (plain_else d) (behind n env1)) _ _ (clauses_count cs) (else_same d (behind (clauses_locals cs) env1))) env1) rest env
    stat_same (tree.count p n a c d e) b rest env =
        follow_same (tree.count p n a c d e) (tree.count p n (plain_exp a) (plain_exp c) (plain_step d) (plain_block e)) b (stat_count (tree.count p n a c d e) tree.finish) (λ env1.
        then_same _ _ _ _ (exp_same a (behind 1 env1)) (λ u.
        then_same _ _ _ _ (placed_same (place_of a) (place_of (plain_exp a)) u (exp_place a)) (λ i.
        then_same _ _ _ _ (moved _ (λ n. meant.eval on round (plain_exp c) (behind n env1)) _ _ (ap (λ n. 1 + n) (exp_count a)) (exp_same c (behind (1 + exp_locals a) env1))) (λ v.
        then_same _ _ _ _ (placed_same (place_of c) (place_of (plain_exp c)) v (exp_place c)) (λ limit.
        then_same _ _ _ _ (moved _ (λ n. meant.eval_step on round (plain_step d) (behind n env1)) _ _ (sum (ap (λ n. 1 + n) (exp_count a)) (exp_count c)) (eval_step_same d (behind (1 + exp_locals a + exp_locals c) env1))) (λ step.
        moved _ (λ n. meant.count_from on round (λ env2. meant.exec_all on round (plain_block e) env2) env1.next i limit step (plain_block e) (behind n env1)) _ _
        (sum (sum (ap (λ n. 1 + n) (exp_count a)) (exp_count c)) (step_count d))
        (count_same (λ env2. meant.exec_all call loop e env2) (λ env2. meant.exec_all on round (plain_block e) env2) (λ env2. block_same e env2) env1.next i limit step e (behind (1 + exp_locals a + exp_locals c + step_locals d) env1)))))))) rest env
    stat_same (tree.each p ns es d) b rest env =
        follow_same (tree.each p ns es d) (tree.each p ns (plain_exps es) (plain_block d)) b (stat_count (tree.each p ns es d) tree.finish) (λ env1.
        then_same _ _ _ _ (exps_same es (behind (length ns) env1)) (λ vs.
        subst (λ q. Same (meant.iterate call loop (λ env2. meant.exec_all call loop d env2) (first_place p es) env1.next (length ns) (first_of vs) (first_of (drop 1 vs)) (first_of (drop 2 vs)) d (behind (length ns + exps_locals es) env1)) (meant.iterate on round (λ env2. meant.exec_all on round (plain_block d) env2) q env1.next (length ns) (first_of vs) (first_of (drop 1 vs)) (first_of (drop 2 vs)) (plain_block d) (behind (length ns + exps_locals (plain_exps es)) env1))) (sym (first_same_place p es))
        (moved _ (λ n. meant.iterate on round (λ env2. meant.exec_all on round (plain_block d) env2) (first_place p es) env1.next (length ns) (first_of vs) (first_of (drop 1 vs)) (first_of (drop 2 vs)) (plain_block d) (behind n env1)) _ _ (ap (λ n. length ns + n) (exps_count es))
        (iterate_same (λ env2. meant.exec_all call loop d env2) (λ env2. meant.exec_all on round (plain_block d) env2) (λ env2. block_same d env2) (first_place p es) env1.next (length ns) (first_of vs) (first_of (drop 1 vs)) (first_of (drop 2 vs)) d (behind (length ns + exps_locals es) env1))))) rest env
    stat_same (tree.define p e f) b rest env =
        follow_same (tree.define p e f) (tree.define p (plain_exp e) (plain_exp f)) b (stat_count (tree.define p e f) tree.finish) (λ env1.
        then_same _ _ _ _ (target_same e env1) (λ spot.
        then_same _ _ _ _ (moved _ (λ n. meant.eval on round (plain_exp f) (behind n env1)) _ _ (exp_count e) (exp_same f (behind (exp_locals e) env1))) (λ v.
        next_same _ _ _ _ (store_same spot v) (give_same (normal env1.bound))))) rest env
    stat_same (tree.define_method p e n f) b rest env =
        follow_same (tree.define_method p e n f) (tree.define_method p (plain_exp e) n (plain_exp f)) b (stat_count (tree.define_method p e n f) tree.finish) (λ env1. give_same (normal env1.bound)) rest env
    stat_same (tree.declare_function p n f) b rest env =
        follow_same (tree.declare_function p n f) (tree.declare_function p n (plain_exp f)) b (stat_count (tree.declare_function p n f) tree.finish) (λ env1.
        then_same _ _ _ _ (declare_same env1.next value.Nil env1) (λ env2.
        then_same _ _ _ _ (exp_same f (behind 1 env2)) (λ v.
        next_same _ _ _ _ (write_cell_same (cell_of env2 env1.next) v) (give_same (normal env2.bound))))) rest env
    stat_same (tree.declare p ns es) b rest env =
        follow_same (tree.declare p ns es) (tree.declare p (map plain_name ns) (plain_exps es)) b (stat_count (tree.declare p ns es) tree.finish) (λ env1.
        moved _ (λ n. meant.eval_all on round (plain_exps es) (behind n env1) >>= (λ vs. declare_all env1.next (adjust n vs) env1 >>= (λ env2. give (normal env2.bound)))) _ _ (length-map ns plain_name)
        (then_same _ _ _ _ (exps_same es (behind (length ns) env1)) (λ vs.
        then_same _ _ _ _ (declare_all_same (adjust (length ns) vs) env1.next env1) (λ env2. give_same (normal env2.bound))))) rest env
    stat_same (tree.interface p n fs) b rest env = skipped b rest env
    stat_same (tree.alias p n t) b rest env = skipped b rest env

    clauses_same : (cs : Clauses) (otherwise plain : Act Flow) → Same otherwise plain → (env : Env) → Same (meant.exec_clauses call loop cs otherwise env) (meant.exec_clauses on round (plain_clauses cs) plain env)
    clauses_same tree.no_clause otherwise plain s env = s
    clauses_same (tree.clause e b cs) otherwise plain s env =
        then_same _ _ _ _ (exp_same e env) (λ v.
        either_same (is_true v) _ _ _ _
        (then_same _ _ _ _ (moved _ (λ n. meant.exec_all on round (plain_block b) (behind n env)) _ _ (exp_count e) (block_same b (behind (exp_locals e) env))) (λ flow.
        give_same (leave_block env.bound flow)))
        (moved _ (λ n. meant.exec_clauses on round (plain_clauses cs) plain (behind n env)) _ _ (sum (exp_count e) (block_count b))
        (clauses_same cs otherwise plain s (behind (exp_locals e + block_locals b) env))))

    else_same : (b : Else) (env : Env) → Same (meant.exec_else call loop b env) (meant.exec_else on round (plain_else b) env)
    else_same tree.no_else env = give_same (normal env.bound)
    else_same (tree.else_do b) env = then_same _ _ _ _ (block_same b env) (λ flow. give_same (leave_block env.bound flow))

    pub block_same : (b : Block) (env : Env) → Same (meant.exec_all call loop b env) (meant.exec_all on round (plain_block b) env)
    block_same tree.finish env = give_same (normal env.bound)
    block_same (tree.returns p es) env = then_same _ _ _ _ (exps_same es env) (λ vs. give_same (returned vs))
    block_same (tree.next s b) env = stat_same s b (λ env1. block_same b env1) env

  pub round_same : (l : Loop) (env : Env) → Same (meant.go_round call loop l env) (meant.go_round on round (plain_loop l) env)
  round_same (while_again p e b) env =
      then_same _ _ _ _ (exp_same e env) (λ v.
      either_same (is_true v) _ _ _ _
      (next_same _ _ _ _ turn_same
      (then_same _ _ _ _ (moved _ (λ n. meant.exec_all on round (plain_block b) (behind n env)) _ _ (exp_count e) (block_same b (behind (exp_locals e) env))) (λ flow.
      next_turn_same env.bound flow _ _ (λ _. loop_same (while_again p e b) env))))
      (give_same (normal env.bound)))
  round_same (repeat_again p b e) env =
      next_same _ _ _ _ turn_same
      (then_same _ _ _ _ (block_same b env) (λ flow.
      next_turn_same env.bound flow _ _ (λ inner.
      then_same _ _ _ _ (moved _ (λ n. meant.eval on round (plain_exp e) (behind n (with_bound inner env))) _ _ (block_count b) (exp_same e (behind (block_locals b) (with_bound inner env)))) (λ v.
      either_same (is_true v) _ _ _ _ (give_same (normal env.bound)) (loop_same (repeat_again p b e) env)))))
  round_same (counting x i limit step b) env = count_same _ _ (λ env1. block_same b env1) x i limit step b env
  round_same (iterating p x count iterator state control b) env = iterate_same _ _ (λ env1. block_same b env1) p x count iterator state control b env
