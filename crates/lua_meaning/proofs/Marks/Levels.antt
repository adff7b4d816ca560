-- Marked and plain programs run alike: by induction on the turns.
use Rattle.std.proofs.Common.{◌≡◌, refl, ap, subst, sym, ℕ, zero, suc, ◌-◌, List, [], ◌∷◌, map, length, option_map, Option, Some, None}
use Rattle.std.proofs.lemmas.List.{length-map}
use Rattle.tl_base.specs.declared.place.Pos.{Pos}
use Rattle.lua_tree.specs.declared.names.LibName.{LibName}
use Rattle.lua_tree.specs.declared.names.LibName.TheVariants as lib
use Rattle.lua_tree.specs.declared.syntax.Rest.{Rest}
use Rattle.lua_tree.specs.Tree as tree
use Rattle.lua_tree.specs.Tree.{Function}
use Rattle.lua_tree.specs.Plain.{plain_name, plain_rest, plain_function, plain_block}
use Rattle.lua_values.specs.declared.value.Value.{Value}
use Rattle.lua_values.specs.declared.value.Value.TheVariants as value
use Rattle.lua_meaning.specs.Environment.{Env, behind}
use Rattle.lua_meaning.specs.Outcomes.{Act, Closure, Outcome, gives, raises, cut, give, ◌>>=◌, results_of}
use Rattle.lua_meaning.specs.Trees.{Loop, adjust, declare_all, exec_all}
use Rattle.lua_meaning.specs.Calls.{Below, apply, below_of, body_of, counted, further, library_call, limit, printed}
use Rattle.lua_meaning.specs.Programs.{Module, failed, meaning, result_of, run_main, run_with, start, outermost}
use Rattle.lua_meaning.specs.PlainPrograms.{plain_module, IsSameRun}
use Rattle.lua_meaning.proofs.Marks.Alike.{Same, Alike, plain_closure, then_same, next_same, give_same, turn_same, fail_same, kind_error_same, write_same, enter_same}
use Rattle.lua_meaning.proofs.Marks.Trees.{plain_loop, declare_all_same, block_same, round_same}

record BelowSame (below : Below) : Type 0 where
  enters : (c : ℕ) (k : Closure) (vs : List Value) → Same (below.enter c k vs) (below.enter c (plain_closure k) vs)
  loops : (c : ℕ) (l : Loop) (env : Env) → Same (below.loop c l env) (below.loop c (plain_loop l) env)

counted_same : {A : Type 0} (p : Pos) (c : ℕ) (f g : ℕ → Act A) → ((left : ℕ) → Same (f left) (g left)) → Same (counted p c f) (counted p c g)
counted_same p zero f g s = fail_same p _
counted_same p (suc c) f g s = s c

library_call_same : (n : LibName) (vs : List Value) → Same (library_call n vs) (library_call n vs)
library_call_same lib.Print vs = next_same _ _ _ _ (write_same (printed vs)) (give_same [])
library_call_same n vs = give_same []

module _ (below : Below) (same : BelowSame below) where
  apply_same : (c : ℕ) (p : Pos) (f : Value) (vs : List Value) → Same (apply below c p f vs) (apply below c p f vs)
  apply_same c p (value.Closure number) vs =
      counted_same p c _ _ (λ left.
      next_same _ _ _ _ turn_same
      (enter_same number (λ k. below.enter left k vs) (λ k. below.enter left k vs) (λ k. same.enters left k vs)))
  apply_same c p (value.Builtin n) vs = counted_same p c _ _ (λ left. library_call_same n vs)
  apply_same c p value.Nil vs = kind_error_same p _
  apply_same c p (value.Bool b) vs = kind_error_same p _
  apply_same c p (value.Int n) vs = kind_error_same p _
  apply_same c p (value.Str s) vs = kind_error_same p _
  apply_same c p (value.Table t) vs = kind_error_same p _

  further_same : (rest : Option Rest) (n : ℕ) (vs : List Value) → further (option_map plain_rest rest) n vs ≡ further rest n vs
  further_same None n vs = refl
  further_same (Some r) n vs = refl

  -- the body of a function, where its plain one has other parameters and another rest that come to the same
  body_same : (c : ℕ) (f : Function) (env : Env) (vs : List Value) → Same (body_of below c f env vs) (body_of below c (plain_function f) env vs)
  body_same c (tree.function_of ps rest rs b) env vs =
      subst (λ n. Same (ran (length ps) (further rest (length ps) vs)) (plain_ran n (further (option_map plain_rest rest) n vs))) (sym (length-map ps plain_name))
      (subst (λ more. Same (ran (length ps) (further rest (length ps) vs)) (plain_ran (length ps) more)) (sym (further_same rest (length ps) vs))
      (then_same _ _ _ _ (declare_all_same (adjust (length ps) vs) env.next env) (λ env1.
      then_same _ _ _ _ (block_same (apply below c) (apply below c) (below.loop c) (below.loop c) (apply_same c) (same.loops c) b (behind (length ps) (record env1 { rest = further rest (length ps) vs }))) (λ flow.
      give_same (results_of flow)))))
    where
      ran : ℕ → List Value → Act (List Value)
      ran n more = declare_all env.next (adjust n vs) env >>= (λ env1. exec_all (apply below c) (below.loop c) b (behind n (record env1 { rest = more })) >>= (λ flow. give (results_of flow)))

      plain_ran : ℕ → List Value → Act (List Value)
      plain_ran n more = declare_all env.next (adjust n vs) env >>= (λ env1. exec_all (apply below c) (below.loop c) (plain_block b) (behind n (record env1 { rest = more })) >>= (λ flow. give (results_of flow)))

below_same : (n : ℕ) → BelowSame (below_of n)
below_same zero = record {
  enters = λ c k vs. record { at = λ w u cs ds l. l.worlds };
  loops = λ c l env. record { at = λ w u cs ds l. l.worlds };
}
below_same (suc n) = record {
  enters = λ c k vs. body_same (below_of n) (below_same n) c k.function k.env vs;
  loops = λ c l env. round_same (apply (below_of n) c) (apply (below_of n) c) ((below_of n).loop c) ((below_of n).loop c) (apply_same (below_of n) (below_same n) c) ((below_same n).loops c) l env;
}

run_same : (c n : ℕ) (m : Module) → Same (run_with c n m) (run_with c n (plain_module m))
run_same c n m =
    next_same _ _ _ _ turn_same
    (then_same _ _ _ _ (block_same (apply (below_of n) c) (apply (below_of n) c) ((below_of n).loop c) ((below_of n).loop c) (apply_same (below_of n) (below_same n) c) ((below_same n).loops c) m.body (outermost m.names)) (λ flow.
    give_same (results_of flow)))

main_same : (n : ℕ) (ms : List Module) → Same (run_main n ms) (run_main n (map plain_module ms))
main_same n [] = give_same []
main_same n (m ∷ ms) = run_same (limit - 1) n m

results_same : {A : Type 0} (n : ℕ) (r q : Outcome A) → Alike r q → IsSameRun (result_of n r) (result_of n q)
results_same n (gives a w cs) (gives b u ds) e = record { output = ap (λ z. z.output) e.1.worlds; ending = refl; turns = ap (λ z. n - z.turns) e.1.worlds }
results_same n (raises v w cs) (raises x u ds) e = record { output = ap (λ z. z.output) e.1.worlds; ending = ap failed e.0; turns = ap (λ z. n - z.turns) e.1.worlds }
results_same n (cut w) (cut u) e = record { output = ap (λ z. z.output) e; ending = refl; turns = ap (λ z. n - z.turns) e }
results_same n (gives a w cs) (raises x u ds) e = absurd e
results_same n (gives a w cs) (cut u) e = absurd e
results_same n (raises v w cs) (gives b u ds) e = absurd e
results_same n (raises v w cs) (cut u) e = absurd e
results_same n (cut w) (gives b u ds) e = absurd e
results_same n (cut w) (raises x u ds) e = absurd e

kinds_same : (ms : List Module) → map (λ m. m.kind) (map plain_module ms) ≡ map (λ m. m.kind) ms
kinds_same [] = refl
kinds_same (m ∷ ms) = ap (λ ks. m.kind ∷ ks) (kinds_same ms)

pub same_run : (ms : List Module) (words : List (List ℕ)) (input : List ℕ) (n : ℕ) → IsSameRun (meaning ms words input n) (meaning (map plain_module ms) words input n)
same_run ms words input n =
    subst (λ ks. IsSameRun (meaning ms words input n) (result_of n (run_main n (map plain_module ms) (start ks words input n) []))) (sym (kinds_same ms))
    (results_same n _ _ ((main_same n ms).at (start (map (λ m. m.kind) ms) words input n) (start (map (λ m. m.kind) ms) words input n) [] [] (record { worlds = refl; closures = refl })))
