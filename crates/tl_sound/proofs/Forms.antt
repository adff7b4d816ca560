-- One law for each form: what typing says of a form's parts makes its run go as typing says of the form.
use Rattle.std.proofs.Common.{◌≡◌, refl, ap, subst, sym, ◌∙◌, ℕ, zero, suc, ◌+◌, Bool, true, false, ℤ, List, [], ◌∷◌, ◌++◌, length, length-append, slice_get, Option, Some, None, arith}
use Rattle.std.specs.Prelude.{slice_set}
use Rattle.std.proofs.lemmas.List.{length-set}
use Rattle.tl_base.specs.declared.place.Pos.{Pos}
use Rattle.tl_base.specs.declared.crossing.CrossKind.{CrossKind}
use Rattle.tl_base.specs.declared.crossing.Crossing.{Crossing}
use Rattle.lua_tree.specs.declared.annotation.Typed.{Typed}
use Rattle.lua_tree.specs.declared.names.LibName.TheVariants as lib
use Rattle.lua_tree.specs.declared.scoped.Use.{Use}
use Rattle.lua_tree.specs.declared.scoped.Use.TheVariants as means
use Rattle.lua_tree.specs.declared.syntax.BinaryOperator.{BinaryOperator}
use Rattle.lua_tree.specs.declared.syntax.BinaryOperator.TheVariants as operator
use Rattle.lua_tree.specs.Tree as tree
use Rattle.lua_tree.specs.Tree.{Exp, Multi, Exps, Stat, Block, marked, push}
use Rattle.lua_tree.specs.Places.{place_of}
use Rattle.lua_values.specs.declared.value.Value.{Value}
use Rattle.lua_values.specs.declared.value.Value.TheVariants as value
use Rattle.lua_meaning.specs.World.{World, read_cell, write_cell, write, pass}
use Rattle.lua_meaning.specs.Environment.{Env as Scope, Bound, cell_of, behind, with_bound}
use Rattle.lua_meaning.specs.Outcomes.{Act, Closure, Outcome, gives, raises, cut, Flow, normal, give, go_on, ◌>>=◌, ◌>>◌, change, either, then_do}
use Rattle.lua_meaning.specs.Locals.{exp_locals, exps_locals, stat_locals}
use Rattle.lua_meaning.specs.Operators.{Answer, value_is, operate, keeps_left}
use Rattle.lua_meaning.specs.Trees as meant
use Rattle.lua_meaning.specs.Trees.{Caller, Looper, Spot, cell, store_all, declare_all, adjust, answered, first_of, value_of_use, spot_of_use}
use Rattle.lua_meaning.specs.Calls.{Below, apply, printed}
use Rattle.tl_types.specs.declared.types.Ty.{Ty}
use Rattle.tl_types.specs.declared.types.Ty.TheVariants as ty
use Rattle.tl_types.specs.Unions.{is_any}
use Rattle.tl_rules.specs.declared.local.Local.{Local}
use Rattle.tl_rules.specs.Locals.{Env, number_of, local_in, local_with}
use Rattle.tl_rules.specs.Operands.{is_ruled, operation_type}
use Rattle.tl_rules.specs.Expressions.{truth_type}
use Rattle.tl_rules.specs.Statements.{is_print, alone}
use Rattle.tl_sound.proofs.Keeps.{Keep, then_keep, next_keep, give_keep, either_keep, then_do_keep}
use Rattle.tl_sound.proofs.KeepsTrees.{answered_keep, declare_all_keep, store_all_keep, exp_keeps, exps_keep, stat_keeps, block_keeps}
use Rattle.tl_sound.proofs.KeepsLevels.{BelowKeeps, apply_keep}
use Rattle.tl_sound.proofs.Late.{Stands, Marked, AnyMark, marked_stable, passed_marked, held_any}
use Rattle.tl_sound.proofs.Runs.{good, good_holds, After, late_after, after_then, after_more}
use Rattle.tl_sound.proofs.Values.{Has, IsInt, has_nil, has_truth, has_integer, has_text, has_known, has_operation}
use Rattle.tl_sound.proofs.Locals.{Agree, agree_push, agree_set}

-- ---- operators with a rule

ruled_left : (o : BinaryOperator) (u : Value) → is_ruled o ≡ true → keeps_left o u ≡ false
ruled_left operator.Add u e = refl
ruled_left operator.Subtract u e = refl
ruled_left operator.Multiply u e = refl
ruled_left o u e = let f : ⊥ = cc in absurd f

ruled_result : (o : BinaryOperator) (m n : ℤ) → is_ruled o ≡ true → (k : ℤ) × (operate o (value.Int m) (value.Int n) ≡ value_is (value.Int k))
ruled_result operator.Add m n e = (_, refl)
ruled_result operator.Subtract m n e = (_, refl)
ruled_result operator.Multiply m n e = (_, refl)
ruled_result o m n e = let f : ⊥ = cc in absurd f

-- ---- names

print_is : (o : Option Use) (scope : Scope) (w : World) (cs : List Closure) → is_print o ≡ true → value_of_use o scope w cs ≡ gives (value.Builtin lib.Print) w cs
print_is (Some (means.Lib lib.Print)) scope w cs e = refl
print_is o scope w cs e = let f : ⊥ = cc in absurd f

spot_is : (o : Option Use) (scope : Scope) (x : ℕ) → number_of o ≡ Some x → spot_of_use o scope ≡ cell (cell_of scope x)
spot_is (Some (means.Local y)) scope x e = let same : y ≡ x = cc in ap (λ z. cell (cell_of scope z)) same
spot_is (Some (means.Lib n)) scope x e = let f : ⊥ = cc in absurd f
spot_is None scope x e = let f : ⊥ = cc in absurd f

-- ---- lists of values

adjust_one : (vs : List Value) → adjust 1 vs ≡ first_of vs ∷ []
adjust_one [] = refl
adjust_one (v ∷ vs) = refl

module _ (uses : List Use) (below : Below) (lates : BelowKeeps Marked AnyMark below) (c : ℕ) where
  -- the meaning of trees where so many calls may still begin
  abbrev call : Caller
  call = apply below c

  abbrev pub eval : Exp → Scope → Act Value
  eval = meant.eval (apply below c) (below.loop c)

  abbrev pub eval_multi : Multi → Scope → Act (List Value)
  eval_multi = meant.eval_multi (apply below c) (below.loop c)

  abbrev pub eval_all : Exps → Scope → Act (List Value)
  eval_all = meant.eval_all (apply below c) (below.loop c)

  abbrev pub exec : Stat → Scope → Act Flow
  exec = meant.exec (apply below c) (below.loop c)

  abbrev pub exec_all : Block → Scope → Act Flow
  exec_all = meant.exec_all (apply below c) (below.loop c)

  call_late : (p : Pos) (f : Value) (vs : List Value) → Keep Marked AnyMark (apply below c p f vs)
  call_late p f vs = apply_keep Marked AnyMark marked_stable below lates c p f vs

  exp_late : (e : Exp) (scope : Scope) → Keep Marked AnyMark (eval e scope)
  exp_late e scope = exp_keeps Marked AnyMark marked_stable (apply below c) (below.loop c) call_late (lates.loops c) e scope (λ m i. tt)

  exps_late : (es : Exps) (scope : Scope) → Keep Marked AnyMark (eval_all es scope)
  exps_late es scope = exps_keep Marked AnyMark marked_stable (apply below c) (below.loop c) call_late (lates.loops c) es scope (λ m i. tt)

  stat_late : (s : Stat) (scope : Scope) → Keep Marked AnyMark (exec s scope)
  stat_late s scope = stat_keeps Marked AnyMark marked_stable (apply below c) (below.loop c) call_late (lates.loops c) s scope (λ m i. tt)

  block_late : (b : Block) (scope : Scope) → Keep Marked AnyMark (exec_all b scope)
  block_late b scope = block_keeps Marked AnyMark marked_stable (apply below c) (below.loop c) call_late (lates.loops c) b scope (λ m i. tt)

  -- ---- where a typed part begins: no mark passed, and the locals as the environment says

  pub record At (env : Env) (scope : Scope) (w : World) : Type 0 where
    pub stands : Stands w
    pub clear : w.mark ≡ None
    pub names : scope.names.uses ≡ uses
    pub agree : Agree env scope.bound w.cells

  abbrev pub Gets : Scope → Env → (Value → Type 0) → Value → World → Type 0
  Gets scope env P v w = Agree env scope.bound w.cells × P v

  -- from env to env1 the expression gives a value of which P holds. It declares no locals.
  pub record Fits (env : Env) (P : Value → Type 0) (env1 : Env) (e : Exp) : Type 0 where
    pub runs : (scope : Scope) (w : World) (cs : List Closure) → At env scope w → After (Gets scope env1 P) (eval e scope w cs)
    pub none : exp_locals e ≡ 0
    pub size : length env1 ≡ length env

  pub record FitsAll (env env1 : Env) (es : Exps) : Type 0 where
    pub runs : (scope : Scope) (w : World) (cs : List Closure) → At env scope w → After (λ vs u. Agree env1 scope.bound u.cells) (eval_all es scope w cs)
    pub none : exps_locals es ≡ 0
    pub size : length env1 ≡ length env

  -- the first value of a list
  pub record FitsFirst (env : Env) (P : Value → Type 0) (env1 : Env) (es : Exps) : Type 0 where
    pub runs : (scope : Scope) (w : World) (cs : List Closure) → At env scope w → After (λ vs u. Agree env1 scope.bound u.cells × P (first_of vs)) (eval_all es scope w cs)
    pub none : exps_locals es ≡ 0
    pub size : length env1 ≡ length env

  -- ---- expressions

  pub fits_nothing : (env : Env) (p : Pos) → Fits env (Has ty.Nil) env (tree.nothing p)
  fits_nothing env p = record { runs = λ scope w cs a. good w _ a.stands (a.agree, has_nil); none = refl; size = refl }

  pub fits_truth : (env : Env) (p : Pos) (b : Bool) → Fits env (Has (truth_type b)) env (tree.truth p b)
  fits_truth env p b = record { runs = λ scope w cs a. good w _ a.stands (a.agree, has_truth b); none = refl; size = refl }

  pub fits_integer : (env : Env) (p : Pos) (n : ℤ) → Fits env (Has (ty.IntLit n)) env (tree.integer p n)
  fits_integer env p n = record { runs = λ scope w cs a. good w _ a.stands (a.agree, has_integer n); none = refl; size = refl }

  pub fits_text : (env : Env) (p : Pos) (s : List ℕ) → Fits env (Has (ty.StrLit s)) env (tree.text p s)
  fits_text env p s = record { runs = λ scope w cs a. good w _ a.stands (a.agree, has_text s); none = refl; size = refl }

  used : (env : Env) (l : Local) (o : Option Use) → local_in env (number_of o) ≡ Some l → (scope : Scope) (w : World) (cs : List Closure) → At env scope w
      → After (Gets scope env (Has l.current)) (value_of_use o scope w cs)
  used env l (Some (means.Local x)) e scope w cs a =
      let h = a.agree.holds x l e in
      good w _ a.stands (a.agree, subst (λ (d : Option ℕ). Has l.current (read_cell d w)) (sym h.1) h.2)
  used env l (Some (means.Lib n)) e scope w cs a = let f : ⊥ = cc in absurd f
  used env l None e scope w cs a = let f : ⊥ = cc in absurd f

  pub fits_name : (env : Env) (l : Local) (p : Pos) (u : ℕ) (s : List ℕ) → local_in env (number_of (slice_get uses u)) ≡ Some l → Fits env (Has l.current) env (tree.name p u s)
  fits_name env l p u s e = record {
    runs = λ scope w cs a. subst (λ us. After (Gets scope env (Has l.current)) (value_of_use (slice_get us u) scope w cs)) (sym a.names) (used env l (slice_get uses u) e scope w cs a);
    none = refl;
    size = refl;
  }

  pub fits_paren : (env env1 : Env) (P : Value → Type 0) (p : Pos) (e : Exp) → Fits env P env1 e → Fits env P env1 (tree.paren p e)
  fits_paren env env1 P p e h = record { runs = h.runs; none = h.none; size = h.size }

  -- a mark on an expression is passed when its first value is there
  first_marked : (k : Crossing) (r : Outcome (List Value))
      → go_on (go_on r (λ vs. change (pass k) >> give vs)) (λ vs. give (first_of vs)) ≡ go_on (go_on r (λ vs. give (first_of vs))) (λ v. change (pass k) >> give v)
  first_marked k (gives vs w cs) = refl
  first_marked k (raises v w cs) = refl
  first_marked k (cut w) = refl

  marked_is : (k : CrossKind) (e : Exp) (scope : Scope) (w : World) (cs : List Closure) → eval (marked k e) scope w cs ≡ eval (tree.mark k e) scope w cs
  marked_is k (tree.one_of m) scope w cs = first_marked _ (eval_multi m scope w cs)
  marked_is k e scope w cs = refl

  marked_none : (k : CrossKind) (e : Exp) → exp_locals (marked k e) ≡ exp_locals e
  marked_none k (tree.one_of m) = refl
  marked_none k e = refl

  -- a marked expression may promise anything: a mark is passed when its value is there
  pub fits_marked : (env env1 : Env) (P Q : Value → Type 0) (k : CrossKind) (e : Exp) → Fits env P env1 e → Fits env Q env1 (marked k e)
  fits_marked env env1 P Q k e h = record {
    runs = λ scope w cs a.
        subst (After (Gets scope env1 Q)) (sym (marked_is k e scope w cs))
        (after_then (Gets scope env1 P) (Gets scope env1 Q) (eval e scope w cs) _ (h.runs scope w cs a)
        (λ v. record { at = λ w1 cs1 i hc. (passed_marked _ w1 i.stands, hc) })
        (λ v w1 cs1 st n g. late_after (Gets scope env1 Q) (gives v (pass (record { pos = place_of e; kind = k }) w1) cs1) (passed_marked _ w1 st, held_any cs1)));
    none = marked_none k e ∙ h.none;
    size = h.size;
  }

  operated : (env : Env) (scope : Scope) (o : BinaryOperator) (p : Pos) (t u : Ty) (v x : Value) (w : World) (cs : List Closure) → is_ruled o ≡ true → Stands w → Agree env scope.bound w.cells
      → IsInt v → IsInt x → After (Gets scope env (Has (operation_type t u))) (answered p (operate o v x) w cs)
  operated env scope o p t u v x w cs r st a i j =
      let k = ruled_result o i.0 j.0 r in
      subst (λ z. After (Gets scope env (Has (operation_type t u))) (answered p (operate o z x) w cs)) (sym i.1)
      (subst (λ z. After (Gets scope env (Has (operation_type t u))) (answered p (operate o (value.Int i.0) z) w cs)) (sym j.1)
      (subst (λ (z : Answer). After (Gets scope env (Has (operation_type t u))) (answered p z w cs)) (sym k.1)
      (good w _ st (a, has_operation t u k.0))))

  -- operands that give integers
  pub fits_binary : (env env1 env2 : Env) (p : Pos) (o : BinaryOperator) (t u : Ty) (l r : Exp) → is_ruled o ≡ true → Fits env IsInt env1 l → Fits env1 IsInt env2 r
      → Fits env (Has (operation_type t u)) env2 (tree.binary p o l r)
  fits_binary env env1 env2 p o t u l r ruled hl hr = record {
    runs = λ scope w cs a.
        after_then (Gets scope env1 IsInt) (Gets scope env2 (Has (operation_type t u))) (eval l scope w cs) _ (hl.runs scope w cs a)
        (λ v. either_keep Marked AnyMark (keeps_left o v) _ _ (give_keep Marked AnyMark v)
        (then_keep Marked AnyMark _ _ (exp_late r (behind (exp_locals l) scope)) (λ x. answered_keep Marked AnyMark marked_stable p (operate o v x))))
        (λ v w1 cs1 st n g.
        subst (λ b. After (Gets scope env2 (Has (operation_type t u))) (either b (give v) (eval r (behind (exp_locals l) scope) >>= (λ x. answered p (operate o v x))) w1 cs1)) (sym (ruled_left o v ruled))
        (after_then (Gets scope env2 IsInt) (Gets scope env2 (Has (operation_type t u))) (eval r (behind (exp_locals l) scope) w1 cs1) _
        (hr.runs (behind (exp_locals l) scope) w1 cs1 (record { stands = st; clear = n; names = a.names; agree = g.0 }))
        (λ x. answered_keep Marked AnyMark marked_stable p (operate o v x))
        (λ x w2 cs2 st2 n2 g2. operated env2 scope o p t u v x w2 cs2 ruled st2 g2.0 g.1 g2.1)));
    none = omega (arith, hl.none, hr.none);
    size = hr.size ∙ hl.size;
  }

  -- ---- lists

  pub fits_none : (env : Env) → FitsAll env env tree.none
  fits_none env = record { runs = λ scope w cs a. good w _ a.stands a.agree; none = refl; size = refl }

  fits_more : (env env1 env2 : Env) (P : Value → Type 0) (e : Exp) (es : Exps) → Fits env P env1 e → FitsAll env1 env2 es → FitsAll env env2 (tree.more e es)
  fits_more env env1 env2 P e es h hs = record {
    runs = λ scope w cs a.
        after_then (Gets scope env1 P) (λ vs u. Agree env2 scope.bound u.cells) (eval e scope w cs) _ (h.runs scope w cs a)
        (λ v. then_keep Marked AnyMark _ _ (exps_late es (behind (exp_locals e) scope)) (λ vs. give_keep Marked AnyMark (v ∷ vs)))
        (λ v w1 cs1 st n g.
        after_then (λ vs u. Agree env2 scope.bound u.cells) (λ vs u. Agree env2 scope.bound u.cells) (eval_all es (behind (exp_locals e) scope) w1 cs1) _
        (hs.runs (behind (exp_locals e) scope) w1 cs1 (record { stands = st; clear = n; names = a.names; agree = g.0 }))
        (λ vs. give_keep Marked AnyMark (v ∷ vs))
        (λ vs w2 cs2 st2 n2 g2. good w2 _ st2 g2));
    none = omega (arith, h.none, hs.none);
    size = hs.size ∙ h.size;
  }

  -- what the first value promises, the list does
  first_after : (scope : Scope) (env : Env) (P : Value → Type 0) (r : Outcome (List Value)) → After (Gets scope env P) (go_on r (λ vs. give (first_of vs)))
      → After (λ vs u. Agree env scope.bound u.cells × P (first_of vs)) r
  first_after scope env P (gives vs w cs) h = h
  first_after scope env P (raises v w cs) h = h
  first_after scope env P (cut w) h = h

  pub fits_alone : (env env1 : Env) (P : Value → Type 0) (e : Exp) → Fits env P env1 e → FitsFirst env P env1 (alone e)
  fits_alone env env1 P (tree.one_of m) h = record { runs = λ scope w cs a. first_after scope env1 P (eval_multi m scope w cs) (h.runs scope w cs a); none = h.none; size = h.size }
  fits_alone env env1 P e h = record {
    runs = λ scope w cs a.
        after_then (Gets scope env1 P) (λ vs u. Agree env1 scope.bound u.cells × P (first_of vs)) (eval e scope w cs) _ (h.runs scope w cs a)
        (λ v. give_keep Marked AnyMark (v ∷ []))
        (λ v w1 cs1 st n g. good w1 _ st g);
    none = omega (arith, h.none);
    size = h.size;
  }

  pub fits_push : (env env1 env2 : Env) (P : Value → Type 0) (e : Exp) (es : Exps) → Fits env P env1 e → FitsAll env1 env2 es → FitsAll env env2 (push e es)
  fits_push env env1 env2 P (tree.one_of m) tree.none h hs = record {
    runs = λ scope w cs a.
        after_more (λ vs u. Agree env1 scope.bound u.cells × P (first_of vs)) (λ vs u. Agree env2 scope.bound u.cells) (eval_multi m scope w cs)
        (λ vs u st n g. good_holds u _ (hs.runs scope u [] (record { stands = st; clear = n; names = a.names; agree = g.0 })) n)
        (first_after scope env1 P (eval_multi m scope w cs) (h.runs scope w cs a));
    none = h.none;
    size = hs.size ∙ h.size;
  }
  fits_push env env1 env2 P e es h hs = fits_more env env1 env2 P e es h hs

  -- ---- statements

  -- how a statement ends: normally, with the locals in scope as the environment says
  pub record Done (scope : Scope) (env : Env) (s : Stat) (flow : Flow) (w : World) : Type 0 where
    pub inner : Bound
    pub is : flow ≡ normal inner
    pub agree : Agree env inner w.cells
    pub next : scope.next + stat_locals s ≡ length env

  pub record Steps (env env1 : Env) (s : Stat) : Type 0 where
    pub runs : (scope : Scope) (w : World) (cs : List Closure) → At env scope w → scope.next ≡ length env → After (Done scope env1 s) (exec s scope w cs)

  callee_print : (env : Env) (p : Pos) (u : ℕ) (s : List ℕ) → is_print (slice_get uses u) ≡ true → Fits env (λ v. v ≡ value.Builtin lib.Print) env (tree.name p u s)
  callee_print env p u s e = record {
    runs = λ scope w cs a.
        subst (λ us. After (Gets scope env (λ v. v ≡ value.Builtin lib.Print)) (value_of_use (slice_get us u) scope w cs)) (sym a.names)
        (subst (After (Gets scope env (λ v. v ≡ value.Builtin lib.Print))) (sym (print_is (slice_get uses u) scope w cs e)) (good w _ a.stands (a.agree, refl)));
    none = refl;
    size = refl;
  }

  prints : (left : ℕ) (env : Env) (bound : Bound) (p : Pos) (vs : List Value) (w : World) (cs : List Closure) → Stands w → Agree env bound w.cells
      → After (λ rs u. Agree env bound u.cells) (apply below left p (value.Builtin lib.Print) vs w cs)
  prints zero env bound p vs w cs st a = st
  prints (suc left) env bound p vs w cs st a = good (write (printed vs) w) _ st a

  pub fits_print : (env env1 : Env) (p q : Pos) (u : ℕ) (s : List ℕ) (es : Exps) → is_print (slice_get uses u) ≡ true → FitsAll env env1 es
      → Fits env (λ v. Unit {0}) env1 (tree.one_of (tree.call p (tree.name q u s) es))
  fits_print env env1 p q u s es e h =
      let callee = callee_print env q u s e in
      record {
        runs = λ scope w cs a.
            after_then (λ vs x. Agree env1 scope.bound x.cells) (Gets scope env1 (λ v. Unit {0})) (eval_multi (tree.call p (tree.name q u s) es) scope w cs) (λ vs. give (first_of vs))
            (after_then (Gets scope env (λ v. v ≡ value.Builtin lib.Print)) (λ vs x. Agree env1 scope.bound x.cells) (eval (tree.name q u s) scope w cs) _ (callee.runs scope w cs a)
            (λ f. then_keep Marked AnyMark _ _ (exps_late es (behind 0 scope)) (λ vs. call_late p f vs))
            (λ f w1 cs1 st n g.
            after_then (λ vs x. Agree env1 scope.bound x.cells) (λ vs x. Agree env1 scope.bound x.cells) (eval_all es (behind 0 scope) w1 cs1) _
            (h.runs (behind 0 scope) w1 cs1 (record { stands = st; clear = n; names = a.names; agree = g.0 }))
            (λ vs. call_late p f vs)
            (λ vs w2 cs2 st2 n2 g2. subst (λ z. After (λ vs x. Agree env1 scope.bound x.cells) (apply below c p z vs w2 cs2)) (sym g.1) (prints c env1 scope.bound p vs w2 cs2 st2 g2))))
            (λ vs. give_keep Marked AnyMark (first_of vs))
            (λ vs w1 cs1 st n g. good w1 _ st (g, tt));
        none = omega (arith, h.none);
        size = h.size;
      }

  pub steps_run : (env env1 : Env) (P : Value → Type 0) (p : Pos) (e : Exp) → Fits env P env1 e → Steps env env1 (tree.run p e)
  steps_run env env1 P p e h = record {
    runs = λ scope w cs a at.
        after_then (Gets scope env1 P) (Done scope env1 (tree.run p e)) (eval e scope w cs) _ (h.runs scope w cs a)
        (λ v. give_keep Marked AnyMark (normal scope.bound))
        (λ v w1 cs1 st n g. good w1 _ st (record { inner = scope.bound; is = refl; agree = g.0; next = omega (arith, at, h.none, h.size) }));
  }

  -- the next local begins with a value
  pub steps_declare : (env env1 : Env) (p : Pos) (x : Typed) (d t : Ty) (e : Exp) → Fits env (Has t) env1 e → Steps env (env1 ++ local_with d t ∷ []) (tree.declare p (x ∷ []) (alone e))
  steps_declare env env1 p x d t e h =
      let first = fits_alone env env1 (Has t) e h in
      let after = env1 ++ local_with d t ∷ [] in
      record {
        runs = λ scope w cs a at.
            after_then (λ vs u. Agree env1 scope.bound u.cells × Has t (first_of vs)) (Done scope after (tree.declare p (x ∷ []) (alone e))) (eval_all (alone e) (behind 1 scope) w cs) _
            (first.runs (behind 1 scope) w cs (record { stands = a.stands; clear = a.clear; names = a.names; agree = a.agree }))
            (λ vs. then_keep Marked AnyMark _ _ (declare_all_keep Marked AnyMark marked_stable (adjust 1 vs) scope.next scope) (λ scope1. give_keep Marked AnyMark (normal scope1.bound)))
            (λ vs w1 cs1 st n g.
            subst (λ us. After (Done scope after (tree.declare p (x ∷ []) (alone e))) ((declare_all scope.next us scope >>= (λ scope1. give (normal scope1.bound))) w1 cs1)) (sym (adjust_one vs))
            (good (record w1 { cells = w1.cells ++ first_of vs ∷ [] }) _ st (record {
              inner = (scope.next, length w1.cells) ∷ scope.bound;
              is = refl;
              agree = subst (λ k. Agree after ((k, length w1.cells) ∷ scope.bound) (w1.cells ++ first_of vs ∷ [])) (h.size ∙ sym at)
                  (agree_push env1 scope.bound w1.cells (local_with d t) (first_of vs) g.0 (has_known (is_any d) t (first_of vs) g.1));
              next = counted env1 (local_with d t) scope.next (exps_locals (alone e)) at h.size first.none;
            })));
      }
    where
      counted : (known : Env) (l : Local) (next more : ℕ) → next ≡ length env → length known ≡ length env → more ≡ 0 → next + (1 + more) ≡ length (known ++ l ∷ [])
      counted known l next more at size none =
          let here : next + (1 + more) ≡ length known + 1 = omega (arith, at, size, none) in here ∙ sym (length-append known (l ∷ []))

  stored : (env : Env) (scope : Scope) (p : Pos) (q : Pos) (u x : ℕ) (s : List ℕ) (es : Exps) (k : Local) (d t : Ty) (v : Value) (w : World) (cs : List Closure) → slice_get env x ≡ Some k
      → scope.next + stat_locals (tree.assign p (tree.target (tree.name q u s) tree.no_target) es) ≡ length env → Stands w → Agree env scope.bound w.cells → Has t v
      → After (Done scope (slice_set env x (local_with d t)) (tree.assign p (tree.target (tree.name q u s) tree.no_target) es)) (gives (normal scope.bound) (write_cell (cell_of scope x) v w) cs)
  stored env scope p q u x s es k d t v w cs e at st a h =
      let place = a.holds x k e in
      subst (λ (o : Option ℕ). After (Done scope (slice_set env x (local_with d t)) (tree.assign p (tree.target (tree.name q u s) tree.no_target) es)) (gives (normal scope.bound) (write_cell o v w) cs)) (sym place.1)
      (good (record w { cells = slice_set w.cells place.0 v }) _ st (record {
        inner = scope.bound;
        is = refl;
        agree = agree_set env scope.bound w.cells x place.0 (local_with d t) v a place.1 (has_known (is_any d) t v h);
        next = at ∙ sym (length-set env x (local_with d t));
      }))

  -- a local takes a value
  pub steps_assign : (env env1 : Env) (p q : Pos) (u x : ℕ) (s : List ℕ) (k : Local) (d t : Ty) (e : Exp) → number_of (slice_get uses u) ≡ Some x → slice_get env1 x ≡ Some k
      → Fits env (Has t) env1 e → Steps env (slice_set env1 x (local_with d t)) (tree.assign p (tree.target (tree.name q u s) tree.no_target) (alone e))
  steps_assign env env1 p q u x s k d t e meant_here local h =
      let first = fits_alone env env1 (Has t) e h in
      let after = slice_set env1 x (local_with d t) in
      let whole = tree.assign p (tree.target (tree.name q u s) tree.no_target) (alone e) in
      record {
        runs = λ scope w cs a at.
            subst (λ (spot : Spot). After (Done scope after whole) ((eval_all (alone e) (behind 0 scope) >>= (λ vs. store_all (spot ∷ []) (adjust 1 vs) >> give (normal scope.bound))) w cs))
            (sym (ap (λ us. spot_of_use (slice_get us u) scope) a.names ∙ spot_is (slice_get uses u) scope x meant_here))
            (after_then (λ vs z. Agree env1 scope.bound z.cells × Has t (first_of vs)) (Done scope after whole) (eval_all (alone e) (behind 0 scope) w cs) _
            (first.runs (behind 0 scope) w cs (record { stands = a.stands; clear = a.clear; names = a.names; agree = a.agree }))
            (λ vs. next_keep Marked AnyMark _ _ (store_all_keep Marked AnyMark marked_stable (cell (cell_of scope x) ∷ []) (adjust 1 vs)) (give_keep Marked AnyMark (normal scope.bound)))
            (λ vs w1 cs1 st n g.
            subst (λ us. After (Done scope after whole) ((store_all (cell (cell_of scope x) ∷ []) us >> give (normal scope.bound)) w1 cs1)) (sym (adjust_one vs))
            (stored env1 scope p q u x s (alone e) k d t (first_of vs) w1 cs1 local (counted scope.next (exps_locals (alone e)) (length env1) at h.size first.none) st g.0 g.1)));
      }
    where
      counted : (next more n : ℕ) → next ≡ length env → n ≡ length env → more ≡ 0 → next + (0 + 0 + more) ≡ n
      counted next more n at size none = omega (arith, at, size, none)

  -- ---- blocks

  pub record StepsAll (env : Env) (b : Block) : Type 0 where
    pub runs : (scope : Scope) (w : World) (cs : List Closure) → At env scope w → scope.next ≡ length env → After (λ flow u. Unit {0}) (exec_all b scope w cs)

  pub steps_finish : (env : Env) → StepsAll env tree.finish
  steps_finish env = record { runs = λ scope w cs a at. good w _ a.stands tt }

  pub steps_next : (env env1 : Env) (s : Stat) (b : Block) → Steps env env1 s → StepsAll env1 b → StepsAll env (tree.next s b)
  steps_next env env1 s b h hs = record {
    runs = λ scope w cs a at.
        after_then (Done scope env1 s) (λ flow u. Unit {0}) (exec s scope w cs) _ (h.runs scope w cs a at)
        (λ flow. then_do_keep Marked AnyMark flow _ (λ inner. block_late b (behind (stat_locals s) (with_bound inner scope))))
        (λ flow w1 cs1 st n g.
        subst (λ f. After (λ flow u. Unit {0}) (then_do f (λ inner. exec_all b (behind (stat_locals s) (with_bound inner scope))) w1 cs1)) (sym g.is)
        (hs.runs (behind (stat_locals s) (with_bound g.inner scope)) w1 cs1 (record { stands = st; clear = n; names = a.names; agree = g.agree }) g.next));
  }
