-- Every tree keeps what is stable: by induction on the tree, where calls and the further turns of loops do.
use Rattle.std.proofs.Common.{refl, ℕ, zero, suc, ◌+◌, ℤ, pos, negsuc, ◌+ℤ◌, List, [], ◌∷◌, ◌++◌, length, Option, Some, None, lit<}
use Rattle.tl_base.specs.declared.place.Pos.{Pos}
use Rattle.tl_base.specs.declared.crossing.Crossing.{Crossing}
use Rattle.lua_tree.specs.declared.scoped.Use.{Use}
use Rattle.lua_tree.specs.declared.scoped.Use.TheVariants as means
use Rattle.lua_tree.specs.Tree as tree
use Rattle.lua_tree.specs.Tree.{Exp, Multi, Exps, Function, Stat, Targets, Clauses, Else, Step, Block}
use Rattle.lua_tree.specs.Places.{place_of, multi_place}
use Rattle.lua_values.specs.Values.{is_nil}
use Rattle.lua_values.specs.declared.value.Value.{Value}
use Rattle.lua_values.specs.declared.value.Value.TheVariants as value
use Rattle.lua_meaning.specs.World.{World, read_cell}
use Rattle.lua_meaning.specs.Environment.{Env, cell_of, use_of, behind, with_bound, bind}
use Rattle.lua_meaning.specs.Outcomes.{Act, Flow, normal, returned, broken, leave_block}
use Rattle.lua_meaning.specs.Locals.{exp_locals, targets_locals, clauses_locals, stat_locals, block_locals}
use Rattle.lua_meaning.specs.Operators.{Answer, value_is, wrong_kind, fails, is_true, operate, operate_on, keeps_left, runs_for}
use Rattle.lua_meaning.specs.Trees as meant
use Rattle.lua_meaning.specs.Trees.{Caller, Looper, Loop, while_again, repeat_again, counting, iterating, Spot, cell, nowhere, store, store_all, declare, declare_all, answered, bound, step_bound, first_place, first_of, adjust, value_of_use, library_use, library_field, spot_of_use}
use Rattle.tl_rules.specs.Crossings.{marks_of, multi_marks, list_marks, target_marks, clause_marks, else_marks, step_marks, stat_marks, block_marks}
use Rattle.tl_sound.proofs.Keeps.{Each, each_left, each_right, Stable, Keep, then_keep, next_keep, give_keep, look_keep, fail_keep, either_keep, then_do_keep, next_turn_keep, new_closure_keep, write_cell_keep, new_cell_keep, turn_keep, kind_error_keep, mark_keep}

-- the marks of what is left of a loop
abbrev pub loop_marks : Loop → List Crossing
loop_marks (while_again p e b) = marks_of e ++ block_marks b
loop_marks (repeat_again p b e) = block_marks b ++ marks_of e
loop_marks (counting x i limit step b) = block_marks b
loop_marks (iterating p x count iterator state control b) = block_marks b

module _ (I : World → Type 0) (M : Crossing → Type 0) (s : Stable I M) where
  -- ---- what has no trees in it

  use_keep : (u : Option Use) (env : Env) → Keep I M (value_of_use u env)
  use_keep None env = give_keep I M value.Nil
  use_keep (Some (means.Local x)) env = look_keep I M (read_cell (cell_of env x))
  use_keep (Some (means.Lib n)) env = give_keep I M _

  library_keep : (u : Option Use) → Keep I M (library_use u)
  library_keep None = give_keep I M value.Nil
  library_keep (Some (means.Local x)) = give_keep I M value.Nil
  library_keep (Some (means.Lib n)) = give_keep I M _

  field_keep : (e : Exp) (env : Env) → Keep I M (library_field e env)
  field_keep (tree.name p u t) env = library_keep (use_of env u)
  field_keep (tree.mark k e) env = field_keep e env
  field_keep e env = give_keep I M value.Nil

  store_keep : (spot : Spot) (v : Value) → Keep I M (store spot v)
  store_keep (cell c) v = write_cell_keep I M s c v
  store_keep nowhere v = give_keep I M tt

  pub store_all_keep : (spots : List Spot) (vs : List Value) → Keep I M (store_all spots vs)
  store_all_keep [] vs = give_keep I M tt
  store_all_keep (spot ∷ spots) [] = give_keep I M tt
  store_all_keep (spot ∷ spots) (v ∷ vs) = next_keep I M _ _ (store_all_keep spots vs) (store_keep spot v)

  declare_keep : (x : ℕ) (v : Value) (env : Env) → Keep I M (declare x v env)
  declare_keep x v env = then_keep I M _ _ (new_cell_keep I M s v) (λ c. give_keep I M (bind x c env))

  pub declare_all_keep : (vs : List Value) (x : ℕ) (env : Env) → Keep I M (declare_all x vs env)
  declare_all_keep [] x env = give_keep I M env
  declare_all_keep (v ∷ vs) x env = then_keep I M _ _ (declare_keep x v env) (λ env1. declare_all_keep vs (x + 1) env1)

  pub answered_keep : (p : Pos) (a : Answer) → Keep I M (answered p a)
  answered_keep p (value_is v) = give_keep I M v
  answered_keep p (wrong_kind what) = kind_error_keep I M s p what
  answered_keep p (fails what) = fail_keep I M p what

  bound_keep : (p : Pos) (v : Value) → Keep I M (bound p v)
  bound_keep p (value.Int n) = give_keep I M n
  bound_keep p value.Nil = kind_error_keep I M s p _
  bound_keep p (value.Bool b) = kind_error_keep I M s p _
  bound_keep p (value.Str t) = kind_error_keep I M s p _
  bound_keep p (value.Table t) = kind_error_keep I M s p _
  bound_keep p (value.Closure k) = kind_error_keep I M s p _
  bound_keep p (value.Builtin n) = kind_error_keep I M s p _

  step_bound_keep : (p : Pos) (n : ℤ) → Keep I M (step_bound p n)
  step_bound_keep p (pos zero) = fail_keep I M p _
  step_bound_keep p (pos (suc n)) = give_keep I M (pos (suc n))
  step_bound_keep p (negsuc n) = give_keep I M (negsuc n)

  module _ (call : Caller) (loop : Looper)
      (calls : (p : Pos) (f : Value) (vs : List Value) → Keep I M (call p f vs))
      (loops : (l : Loop) (env : Env) → Each M (loop_marks l) → Keep I M (loop l env)) where
    count_keep : (body : Env → Act Flow) → ((env : Env) → Keep I M (body env)) → (x : ℕ) (i limit step : ℤ) (b : Block) (env : Env) → Each M (block_marks b)
        → Keep I M (meant.count_from call loop body x i limit step b env)
    count_keep body keeps x i limit step b env m =
        either_keep I M (runs_for step limit i) _ _
        (next_keep I M _ _ (turn_keep I M s)
        (then_keep I M _ _ (declare_keep x (value.Int i) env) (λ env1.
        then_keep I M _ _ (keeps env1) (λ flow.
        next_turn_keep I M env.bound flow _ (λ _. loops (counting x (i +ℤ step) limit step b) env m)))))
        (give_keep I M (normal env.bound))

    iterate_keep : (body : Env → Act Flow) → ((env : Env) → Keep I M (body env)) → (p : Pos) (x count : ℕ) (iterator state control : Value) (b : Block) (env : Env) → Each M (block_marks b)
        → Keep I M (meant.iterate call loop body p x count iterator state control b env)
    iterate_keep body keeps p x count iterator state control b env m =
        then_keep I M _ _ (calls p iterator (state ∷ control ∷ [])) (λ vs.
        either_keep I M (is_nil (first_of vs)) _ _
        (give_keep I M (normal env.bound))
        (next_keep I M _ _ (turn_keep I M s)
        (then_keep I M _ _ (declare_all_keep (adjust count vs) x env) (λ env1.
        then_keep I M _ _ (keeps env1) (λ flow.
        next_turn_keep I M env.bound flow _ (λ _. loops (iterating p x count iterator state (first_of vs) b) env m))))))

    mutual
      pub exp_keeps : (e : Exp) (env : Env) → Each M (marks_of e) → Keep I M (meant.eval call loop e env)
      exp_keeps (tree.nothing p) env m = give_keep I M value.Nil
      exp_keeps (tree.truth p b) env m = give_keep I M (value.Bool b)
      exp_keeps (tree.integer p n) env m = give_keep I M (value.Int n)
      exp_keeps (tree.text p t) env m = give_keep I M (value.Str t)
      exp_keeps (tree.function p f) env m = new_closure_keep I M (record { function = f; env = env }) m
      exp_keeps (tree.name p u t) env m = use_keep (use_of env u) env
      exp_keeps (tree.paren p e) env m = exp_keeps e env m
      exp_keeps (tree.field p e n) env m = field_keep e env
      exp_keeps (tree.index p e k) env m = give_keep I M value.Nil
      exp_keeps (tree.table p es) env m = give_keep I M value.Nil
      exp_keeps (tree.unary p o e) env m = then_keep I M _ _ (exp_keeps e env m) (λ v. answered_keep p (operate_on o v))
      exp_keeps (tree.binary p o a b) env m =
          then_keep I M _ _ (exp_keeps a env (each_left M (marks_of a) (marks_of b) m)) (λ u.
          either_keep I M (keeps_left o u) _ _ (give_keep I M u)
          (then_keep I M _ _ (exp_keeps b (behind (exp_locals a) env) (each_right M (marks_of a) (marks_of b) m)) (λ v.
          answered_keep p (operate o u v))))
      exp_keeps (tree.mark k e) env m =
          let c : Crossing = record { pos = place_of e; kind = k } in
          mark_keep I M s c _ (each_right M (marks_of e) (c ∷ []) m c (0, lit< tt, refl)) (exp_keeps e env (each_left M (marks_of e) (c ∷ []) m))
      exp_keeps (tree.one_of a) env m = then_keep I M _ _ (multi_keeps a env m) (λ vs. give_keep I M (first_of vs))

      pub multi_keeps : (a : Multi) (env : Env) → Each M (multi_marks a) → Keep I M (meant.eval_multi call loop a env)
      multi_keeps (tree.vararg p) env m = give_keep I M env.rest
      multi_keeps (tree.call p f es) env m =
          then_keep I M _ _ (exp_keeps f env (each_left M (marks_of f) (list_marks es) m)) (λ callee.
          then_keep I M _ _ (exps_keep es (behind (exp_locals f) env) (each_right M (marks_of f) (list_marks es) m)) (λ vs.
          calls p callee vs))
      multi_keeps (tree.method p e n es) env m = give_keep I M []
      multi_keeps (tree.mark_all k a) env m =
          let c : Crossing = record { pos = multi_place a; kind = k } in
          mark_keep I M s c _ (each_right M (multi_marks a) (c ∷ []) m c (0, lit< tt, refl)) (multi_keeps a env (each_left M (multi_marks a) (c ∷ []) m))

      pub exps_keep : (es : Exps) (env : Env) → Each M (list_marks es) → Keep I M (meant.eval_all call loop es env)
      exps_keep tree.none env m = give_keep I M []
      exps_keep (tree.ends a) env m = multi_keeps a env m
      exps_keep (tree.more e es) env m =
          then_keep I M _ _ (exp_keeps e env (each_left M (marks_of e) (list_marks es) m)) (λ v.
          then_keep I M _ _ (exps_keep es (behind (exp_locals e) env) (each_right M (marks_of e) (list_marks es) m)) (λ vs.
          give_keep I M (v ∷ vs)))

      target_keep : (e : Exp) (env : Env) → Keep I M (meant.eval_target call loop e env)
      target_keep (tree.name p u t) env = give_keep I M (spot_of_use (use_of env u) env)
      target_keep (tree.mark k e) env = target_keep e env
      target_keep e env = give_keep I M nowhere

      pub targets_keep : (ts : Targets) (env : Env) → Keep I M (meant.eval_targets call loop ts env)
      targets_keep tree.no_target env = give_keep I M []
      targets_keep (tree.target e ts) env =
          then_keep I M _ _ (target_keep e env) (λ spot.
          then_keep I M _ _ (targets_keep ts (behind (exp_locals e) env)) (λ spots.
          give_keep I M (spot ∷ spots)))

      eval_step_keep : (c : Step) (env : Env) → Each M (step_marks c) → Keep I M (meant.eval_step call loop c env)
      eval_step_keep tree.no_step env m = give_keep I M (pos 1)
      eval_step_keep (tree.step e) env m =
          then_keep I M _ _ (exp_keeps e env m) (λ v.
          then_keep I M _ _ (bound_keep (place_of e) v) (λ n. step_bound_keep (place_of e) n))

      pub stat_keeps : (t : Stat) (env : Env) → Each M (stat_marks t) → Keep I M (meant.exec call loop t env)
      stat_keeps (tree.empty p) env m = give_keep I M (normal env.bound)
      stat_keeps (tree.assign p ts es) env m =
          then_keep I M _ _ (targets_keep ts env) (λ spots.
          then_keep I M _ _ (exps_keep es (behind (targets_locals ts) env) (each_right M (target_marks ts) (list_marks es) m)) (λ vs.
          next_keep I M _ _ (store_all_keep spots (adjust (length spots) vs)) (give_keep I M (normal env.bound))))
      stat_keeps (tree.run p e) env m = next_keep I M _ _ (exp_keeps e env m) (give_keep I M (normal env.bound))
      stat_keeps (tree.leave p) env m = give_keep I M broken
      stat_keeps (tree.scope p b) env m = then_keep I M _ _ (block_keeps b env m) (λ flow. give_keep I M (leave_block env.bound flow))
      stat_keeps (tree.while p e b) env m =
          then_keep I M _ _ (exp_keeps e env (each_left M (marks_of e) (block_marks b) m)) (λ v.
          either_keep I M (is_true v) _ _
          (next_keep I M _ _ (turn_keep I M s)
          (then_keep I M _ _ (block_keeps b (behind (exp_locals e) env) (each_right M (marks_of e) (block_marks b) m)) (λ flow.
          next_turn_keep I M env.bound flow _ (λ _. loops (while_again p e b) env m))))
          (give_keep I M (normal env.bound)))
      stat_keeps (tree.repeat p b e) env m =
          next_keep I M _ _ (turn_keep I M s)
          (then_keep I M _ _ (block_keeps b env (each_left M (block_marks b) (marks_of e) m)) (λ flow.
          next_turn_keep I M env.bound flow _ (λ inner.
          then_keep I M _ _ (exp_keeps e (behind (block_locals b) (with_bound inner env)) (each_right M (block_marks b) (marks_of e) m)) (λ v.
          either_keep I M (is_true v) _ _ (give_keep I M (normal env.bound)) (loops (repeat_again p b e) env m)))))
      stat_keeps (tree.choose p cs b) env m =
          clauses_keep cs _ (else_keep b (behind (clauses_locals cs) env) (each_right M (clause_marks cs) (else_marks b) m)) env (each_left M (clause_marks cs) (else_marks b) m)
      stat_keeps (tree.count p n a b c d) env m =
          let m1 = each_right M (marks_of a) (marks_of b ++ (step_marks c ++ block_marks d)) m in
          let m2 = each_right M (marks_of b) (step_marks c ++ block_marks d) m1 in
          then_keep I M _ _ (exp_keeps a (behind 1 env) (each_left M (marks_of a) _ m)) (λ u.
          then_keep I M _ _ (bound_keep (place_of a) u) (λ i.
          then_keep I M _ _ (exp_keeps b (behind (1 + exp_locals a) env) (each_left M (marks_of b) (step_marks c ++ block_marks d) m1)) (λ v.
          then_keep I M _ _ (bound_keep (place_of b) v) (λ limit.
          then_keep I M _ _ (eval_step_keep c (behind (1 + exp_locals a + exp_locals b) env) (each_left M (step_marks c) (block_marks d) m2)) (λ step.
          count_keep _ (λ env1. block_keeps d env1 (each_right M (step_marks c) (block_marks d) m2)) env.next i limit step d _ (each_right M (step_marks c) (block_marks d) m2))))))
      stat_keeps (tree.each p ns es b) env m =
          then_keep I M _ _ (exps_keep es (behind (length ns) env) (each_left M (list_marks es) (block_marks b) m)) (λ vs.
          iterate_keep _ (λ env1. block_keeps b env1 (each_right M (list_marks es) (block_marks b) m)) (first_place p es) env.next (length ns) _ _ _ b _ (each_right M (list_marks es) (block_marks b) m))
      stat_keeps (tree.define p e f) env m =
          then_keep I M _ _ (target_keep e env) (λ spot.
          then_keep I M _ _ (exp_keeps f (behind (exp_locals e) env) (each_right M (marks_of e) (marks_of f) m)) (λ v.
          next_keep I M _ _ (store_keep spot v) (give_keep I M (normal env.bound))))
      stat_keeps (tree.define_method p e n f) env m = give_keep I M (normal env.bound)
      stat_keeps (tree.declare_function p n f) env m =
          then_keep I M _ _ (declare_keep env.next value.Nil env) (λ env1.
          then_keep I M _ _ (exp_keeps f (behind 1 env1) m) (λ v.
          next_keep I M _ _ (write_cell_keep I M s (cell_of env1 env.next) v) (give_keep I M (normal env1.bound))))
      stat_keeps (tree.declare p ns es) env m =
          then_keep I M _ _ (exps_keep es (behind (length ns) env) m) (λ vs.
          then_keep I M _ _ (declare_all_keep (adjust (length ns) vs) env.next env) (λ env1.
          give_keep I M (normal env1.bound)))
      stat_keeps (tree.interface p n fs) env m = give_keep I M (normal env.bound)
      stat_keeps (tree.alias p n t) env m = give_keep I M (normal env.bound)

      clauses_keep : (cs : Clauses) (otherwise : Act Flow) → Keep I M otherwise → (env : Env) → Each M (clause_marks cs) → Keep I M (meant.exec_clauses call loop cs otherwise env)
      clauses_keep tree.no_clause otherwise k env m = k
      clauses_keep (tree.clause e b cs) otherwise k env m =
          let m1 = each_right M (marks_of e) (block_marks b ++ clause_marks cs) m in
          then_keep I M _ _ (exp_keeps e env (each_left M (marks_of e) (block_marks b ++ clause_marks cs) m)) (λ v.
          either_keep I M (is_true v) _ _
          (then_keep I M _ _ (block_keeps b (behind (exp_locals e) env) (each_left M (block_marks b) (clause_marks cs) m1)) (λ flow.
          give_keep I M (leave_block env.bound flow)))
          (clauses_keep cs otherwise k (behind (exp_locals e + block_locals b) env) (each_right M (block_marks b) (clause_marks cs) m1)))

      else_keep : (b : Else) (env : Env) → Each M (else_marks b) → Keep I M (meant.exec_else call loop b env)
      else_keep tree.no_else env m = give_keep I M (normal env.bound)
      else_keep (tree.else_do b) env m = then_keep I M _ _ (block_keeps b env m) (λ flow. give_keep I M (leave_block env.bound flow))

      pub block_keeps : (b : Block) (env : Env) → Each M (block_marks b) → Keep I M (meant.exec_all call loop b env)
      block_keeps tree.finish env m = give_keep I M (normal env.bound)
      block_keeps (tree.returns p es) env m = then_keep I M _ _ (exps_keep es env m) (λ vs. give_keep I M (returned vs))
      block_keeps (tree.next t b) env m =
          then_keep I M _ _ (stat_keeps t env (each_left M (stat_marks t) (block_marks b) m)) (λ flow.
          then_do_keep I M flow _ (λ inner. block_keeps b (behind (stat_locals t) (with_bound inner env)) (each_right M (stat_marks t) (block_marks b) m)))

    pub round_keeps : (l : Loop) (env : Env) → Each M (loop_marks l) → Keep I M (meant.go_round call loop l env)
    round_keeps (while_again p e b) env m = stat_keeps (tree.while p e b) env m
    round_keeps (repeat_again p b e) env m = stat_keeps (tree.repeat p b e) env m
    round_keeps (counting x i limit step b) env m = count_keep _ (λ env1. block_keeps b env1 m) x i limit step b env m
    round_keeps (iterating p x count iterator state control b) env m = iterate_keep _ (λ env1. block_keeps b env1 m) p x count iterator state control b env m
