-- What the check of a statement comes to, by what its parts come to.
use Rattle.std.proofs.Common.{◌≡◌, refl, sym, ap, subst, ◌∙◌, ℕ, true, false, List, [], ◌∷◌, ◌++◌, Option, Some, None, Ok, Err, Result}
use Rattle.std.specs.List.{slice_get}
use Rattle.std.specs.Prelude.{slice_set}
use Rattle.tl_base.specs.declared.place.Pos.{Pos}
use Rattle.tl_base.specs.declared.refusal.Failure.{Failure}
use Rattle.tl_base.specs.declared.refusal.Failure.TheVariants as failure
use Rattle.tl_base.specs.declared.refusal.RefusalCode.TheVariants as code
use Rattle.lua_tree.specs.declared.annotation.Typed as annotated
use Rattle.lua_tree.specs.declared.scoped.Use.{Use}
use Rattle.lua_tree.specs.declared.syntax.Expr.{Expr}
use Rattle.lua_tree.specs.declared.syntax.Stat as declared_stat
use Rattle.lua_tree.specs.declared.syntax.Stat.TheVariants as s
use Rattle.lua_tree.specs.declared.syntax.Expr.TheVariants as e
use Rattle.lua_tree.specs.Tree as tree
use Rattle.lua_tree.specs.Tree.{Exp, Exps, Stat}
use Rattle.lua_tree.specs.View.{exp_of, exps_of, targets_of, stat_of, block_of}
use Rattle.lua_tree.specs.Places.{place_of}
use Rattle.lua_tree.proofs.Views.{exp_of-Call, stat_of-Assign, stat_of-Call, stat_of-Local}
use Rattle.tl_base.specs.declared.place.ModuleKind.TheVariants.{Typed as TypedModule}
use Rattle.lua_tree.specs.declared.syntax.Block as declared_block
use Rattle.tl_types.specs.Sizes.{is_within}
use Rattle.tl_types.specs.Unions.{general_form}
use Rattle.tl_types.specs.declared.types.Ty.{Ty}
use Rattle.tl_rules.specs.declared.local.Local.{Local}
use Rattle.tl_rules.specs.Annotations.{annotation}
use Rattle.tl_rules.specs.Checked.{fine, fault}
use Rattle.tl_rules.specs.Expressions.{TypedExp, check_exp}
use Rattle.tl_rules.specs.Flow.{flow}
use Rattle.tl_rules.specs.Locals.{Env, local_with, general_declared}
use Rattle.tl_rules.specs.Orders.{plain_order, loose_order}
use Rattle.tl_rules.specs.Statements.{TypedStat, one_value, target_local, begun, check_value, one_local, one_target, check_local, store_by, check_store, check_callee, check_arguments, check_run, check_stat, check_block, check_module}
use Rattle.tl_check.specs.declared.expressions.Typed.{Typed}
use Rattle.tl_check.specs.declared.locals.Begun.{Begun}
use Rattle.tl_check.specs.Answers.{Answers, typed_view, flowed_view, exps_view, stat_view, block_view, begun_view, module_view, declared_in}
use Rattle.tl_check.proofs.Made.{made_local, made_assign, made_call}

abbrev stat_with : Env → Stat → TypedStat
stat_with env t = record { env = env; tree = t }

same_stat : (a b : Env) (t u : Stat) → a ≡ b → t ≡ u → fine (stat_with a t) ≡ fine (stat_with b u)
same_stat a b t u h k = ap (λ z. fine (stat_with z t)) h ∙ ap (λ z. fine (stat_with b z)) k

module _ (uses : List Use) where
  -- a local that begins
  pub local_unread : (env env1 : Env) (p : Pos) (n : annotated.Typed) (es : Exps) (x : Failure) → Answers (λ (t : Option Ty). t) (annotation n.ty) (Err x) → Answers (stat_view env1) (check_local uses plain_order loose_order env p n es) (Err x)
  local_unread env env1 p n es (failure.Refused y) h = rw h refl
  local_unread env env1 p n es failure.NoMemory h = tt

  pub local_unvalued : (env env1 : Env) (p : Pos) (n : annotated.Typed) (es : Exps) (t : Option Ty) (x : Failure) → annotation n.ty ≡ fine t → Answers exp_of (one_value p es) (Err x)
      → Answers (stat_view env1) (check_local uses plain_order loose_order env p n es) (Err x)
  local_unvalued env env1 p n es t (failure.Refused y) h k = rw h (rw k refl)
  local_unvalued env env1 p n es t failure.NoMemory h k = tt

  pub local_unbegun : (env env1 seen : Env) (p : Pos) (n : annotated.Typed) (es : Exps) (t : Option Ty) (v : Expr) (x : Failure) → seen ≡ env → annotation n.ty ≡ fine t → one_value p es ≡ fine (exp_of v)
      → Answers (begun_view seen) (begun uses plain_order loose_order t seen (exp_of v)) (Err x) → Answers (stat_view env1) (check_local uses plain_order loose_order env p n es) (Err x)
  local_unbegun env env1 seen p n es t v (failure.Refused y) i h k l =
      let here : begun uses plain_order loose_order t env (exp_of v) ≡ fault y.code y.pos = subst (λ z. begun uses plain_order loose_order t z (exp_of v) ≡ fault y.code y.pos) i l in
      rw h (rw k (rw here refl))
  local_unbegun env env1 seen p n es t v failure.NoMemory i h k l = tt

  pub local_begins : (env env1 : Env) (p : Pos) (n : annotated.Typed) (es : Exps) (t : Option Ty) (v : Expr) (b : Begun) (ns : List annotated.Typed) (vs : List Expr)
      → annotation n.ty ≡ fine t → one_value p es ≡ fine (exp_of v) → begun uses plain_order loose_order t env (exp_of v) ≡ fine (begun_view env b)
      → env1 ≡ env ++ b.local ∷ [] → ns ≡ n ∷ [] → vs ≡ b.tree ∷ []
      → check_local uses plain_order loose_order env p n es ≡ fine (stat_view env1 (s.Local p ns vs))
  local_begins env env1 p n es t v b ns vs h k l m i j = rw h (rw k (rw l (same_stat _ _ _ _ (sym m) (sym (made_local p n ns b.tree vs i j)))))

  -- a store
  pub store_untargeted : (env env1 : Env) (p : Pos) (target : Exp) (es : Exps) (x : Failure) → Answers (λ (n : ℕ). n) (target_local uses target) (Err x) → Answers (stat_view env1) (check_store uses plain_order loose_order env p target es) (Err x)
  store_untargeted env env1 p target es (failure.Refused y) h = rw h refl
  store_untargeted env env1 p target es failure.NoMemory h = tt

  pub store_unvalued : (env env1 : Env) (p : Pos) (target : Exp) (es : Exps) (n : ℕ) (x : Failure) → target_local uses target ≡ fine n → Answers exp_of (one_value p es) (Err x)
      → Answers (stat_view env1) (check_store uses plain_order loose_order env p target es) (Err x)
  store_unvalued env env1 p target es n (failure.Refused y) h k = rw h (rw k refl)
  store_unvalued env env1 p target es n failure.NoMemory h k = tt

  pub store_untyped : (env env1 seen : Env) (p : Pos) (target : Exp) (es : Exps) (n : ℕ) (v : Expr) (x : Failure) → seen ≡ env → target_local uses target ≡ fine n → one_value p es ≡ fine (exp_of v)
      → Answers (typed_view seen) (check_exp uses seen (exp_of v)) (Err x) → Answers (stat_view env1) (check_store uses plain_order loose_order env p target es) (Err x)
  store_untyped env env1 seen p target es n v (failure.Refused y) i h k l =
      let here : check_exp uses env (exp_of v) ≡ fault y.code y.pos = subst (λ z. check_exp uses z (exp_of v) ≡ fault y.code y.pos) i l in
      rw h (rw k (rw here refl))
  store_untyped env env1 seen p target es n v failure.NoMemory i h k l = tt

  pub store_puts : (env env1 : Env) (p : Pos) (target : Exp) (es : Exps) (n : ℕ) (v : Expr) (t : Typed) (r : Result declared_stat.Stat Failure) → target_local uses target ≡ fine n → one_value p es ≡ fine (exp_of v)
      → check_exp uses env (exp_of v) ≡ fine (typed_view env t) → Answers (stat_view env1) (store_by uses plain_order loose_order (slice_get env n) n p target (typed_view env t)) r
      → Answers (stat_view env1) (check_store uses plain_order loose_order env p target es) r
  store_puts env env1 p target es n v t r h k l m =
      let same : check_store uses plain_order loose_order env p target es ≡ store_by uses plain_order loose_order (slice_get env n) n p target (typed_view env t) = rw h (rw k (rw l refl)) in
      subst (λ z. Answers (stat_view env1) z r) (sym same) m

  -- a value that is put into a local, by what is known of it
  pub put_nowhere : (known : Option Local) (n : ℕ) (p : Pos) (target : Exp) (v : TypedExp) → None ≡ declared_in known → store_by uses plain_order loose_order known n p target v ≡ fault code.X1 p
  put_nowhere None n p target v h = refl
  put_nowhere (Some l) n p target v h = let no : ⊥ = cc in absurd no

  pub put_refused : (env env1 : Env) (known : Option Local) (n : ℕ) (p : Pos) (target : Exp) (v : Typed) (d : Ty) (x : Failure) → Some d ≡ declared_in known
      → Answers flowed_view (flow plain_order loose_order v.ty d (exp_of v.tree)) (Err x) → Answers (stat_view env1) (store_by uses plain_order loose_order known n p target (typed_view env v)) (Err x)
  put_refused env env1 None n p target v d x i h = let no : ⊥ = cc in absurd no
  put_refused env env1 (Some l) n p target v d (failure.Refused y) i h = let e : d ≡ l.declared = cc in rw (sym e) (rw h refl)
  put_refused env env1 (Some l) n p target v d failure.NoMemory i h = tt

  pub put_there : (env env1 : Env) (known : Option Local) (n : ℕ) (p : Pos) (target : Expr) (v f : Typed) (d : Ty) (ts vs : List Expr) → Some d ≡ declared_in known
      → flow plain_order loose_order v.ty d (exp_of v.tree) ≡ fine (flowed_view f) → env1 ≡ slice_set env n (local_with d f.ty) → ts ≡ target ∷ [] → vs ≡ f.tree ∷ []
      → store_by uses plain_order loose_order known n p (exp_of target) (typed_view env v) ≡ fine (stat_view env1 (s.Assign p ts vs))
  put_there env env1 None n p target v f d ts vs i h m j k = let no : ⊥ = cc in absurd no
  put_there env env1 (Some l) n p target v f d ts vs i h m j k =
      let e : d ≡ l.declared = cc in
      let there : flow plain_order loose_order v.ty l.declared (exp_of v.tree) ≡ fine (flowed_view f) = subst (λ z. flow plain_order loose_order v.ty z (exp_of v.tree) ≡ fine (flowed_view f)) e h in
      let step : store_by uses plain_order loose_order (Some l) n p (exp_of target) (typed_view env v) ≡ fine (stat_with (slice_set env n (local_with l.declared f.ty)) (tree.assign p (tree.target (exp_of target) tree.no_target) (tree.push (exp_of f.tree) tree.none))) = rw there refl in
      step ∙ same_stat _ _ _ _ (ap (λ z. slice_set env n (local_with z f.ty)) (sym e) ∙ sym m) (sym (made_assign p target ts f.tree vs j k))

  -- a call
  run_uncalled_at : (env : Env) (p place : Pos) (f : Expr) (es : List Expr) (x : Failure) → Answers exp_of (check_callee uses (exp_of f)) (Err x)
      → Answers (stat_view env) (check_run uses plain_order loose_order env p (tree.one_of (tree.call place (exp_of f) (exps_of es)))) (Err x)
  run_uncalled_at env p place f es (failure.Refused y) h = rw h refl
  run_uncalled_at env p place f es failure.NoMemory h = tt

  run_unargued_at : (env : Env) (p place : Pos) (f g : Expr) (es : List Expr) (x : Failure) → check_callee uses (exp_of f) ≡ fine (exp_of g)
      → Answers (exps_view env) (check_arguments uses plain_order loose_order env (exps_of es)) (Err x)
      → Answers (stat_view env) (check_run uses plain_order loose_order env p (tree.one_of (tree.call place (exp_of f) (exps_of es)))) (Err x)
  run_unargued_at env p place f g es (failure.Refused y) h k = rw h (rw k refl)
  run_unargued_at env p place f g es failure.NoMemory h k = tt

  run_made_at : (env : Env) (p place : Pos) (f g : Expr) (es vs : List Expr) → check_callee uses (exp_of f) ≡ fine (exp_of g) → check_arguments uses plain_order loose_order env (exps_of es) ≡ fine (exps_view env vs)
      → check_run uses plain_order loose_order env p (tree.one_of (tree.call place (exp_of f) (exps_of es))) ≡ fine (stat_view env (s.Call p (e.Call place g vs)))
  run_made_at env p place f g es vs h k = rw h (rw k (same_stat env env _ _ refl (sym (made_call p place g vs))))

  seen_call : (expr : Expr) (place : Pos) (f : Expr) (es : List Expr) → expr ≡ e.Call place f es → exp_of expr ≡ tree.one_of (tree.call place (exp_of f) (exps_of es))
  seen_call expr place f es i = ap exp_of i ∙ exp_of-Call place f es

  pub run_uncalled : (env : Env) (p place : Pos) (expr f inner : Expr) (es : List Expr) (x : Failure) → expr ≡ e.Call place f es → inner ≡ f → Answers exp_of (check_callee uses (exp_of inner)) (Err x)
      → Answers (stat_view env) (check_run uses plain_order loose_order env p (exp_of expr)) (Err x)
  run_uncalled env p place expr f inner es x i same h =
      subst (λ z. Answers (stat_view env) (check_run uses plain_order loose_order env p z) (Err x)) (sym (seen_call expr place f es i))
      (run_uncalled_at env p place f es x (subst (λ z. Answers exp_of (check_callee uses (exp_of z)) (Err x)) same h))

  pub run_unargued : (env : Env) (p place : Pos) (expr f g : Expr) (es : List Expr) (x : Failure) → expr ≡ e.Call place f es → check_callee uses (exp_of f) ≡ fine (exp_of g)
      → Answers (exps_view env) (check_arguments uses plain_order loose_order env (exps_of es)) (Err x) → Answers (stat_view env) (check_run uses plain_order loose_order env p (exp_of expr)) (Err x)
  run_unargued env p place expr f g es x i h k =
      subst (λ z. Answers (stat_view env) (check_run uses plain_order loose_order env p z) (Err x)) (sym (seen_call expr place f es i)) (run_unargued_at env p place f g es x h k)

  pub run_made : (env : Env) (p place : Pos) (expr f g : Expr) (es vs : List Expr) → expr ≡ e.Call place f es → check_callee uses (exp_of f) ≡ fine (exp_of g)
      → check_arguments uses plain_order loose_order env (exps_of es) ≡ fine (exps_view env vs) → check_run uses plain_order loose_order env p (exp_of expr) ≡ fine (stat_view env (s.Call p (e.Call place g vs)))
  run_made env p place expr f g es vs i h k = ap (check_run uses plain_order loose_order env p) (seen_call expr place f es i) ∙ run_made_at env p place f g es vs h k

  -- a value that flows to a place of this type
  pub value_untyped : (env : Env) (t : Ty) (v : Exp) (x : Failure) → Answers (typed_view env) (check_exp uses env v) (Err x) → Answers (typed_view env) (check_value uses plain_order loose_order env t v) (Err x)
  value_untyped env t v (failure.Refused y) h = rw h refl
  value_untyped env t v failure.NoMemory h = tt

  pub value_flows : (env : Env) (t : Ty) (v : Exp) (w : Typed) (r : Result Typed Failure) → check_exp uses env v ≡ fine (typed_view env w) → Answers flowed_view (flow plain_order loose_order w.ty t (exp_of w.tree)) r
      → Answers (typed_view env) (check_value uses plain_order loose_order env t v) r
  value_flows env t v w (Ok f) h k = rw h (rw k refl)
  value_flows env t v w (Err (failure.Refused y)) h k = rw h (rw k refl)
  value_flows env t v w (Err failure.NoMemory) h k = tt

  -- the value of a local that begins
  pub begun_unvalued : (env : Env) (d : Option Ty) (t : Ty) (v : Exp) (x : Failure) → d ≡ Some t → Answers (typed_view env) (check_value uses plain_order loose_order env t v) (Err x)
      → Answers (begun_view env) (begun uses plain_order loose_order d env v) (Err x)
  begun_unvalued env d t v (failure.Refused y) i h = rw i (rw h refl)
  begun_unvalued env d t v failure.NoMemory i h = tt

  pub begun_untyped : (env : Env) (d : Option Ty) (v : Exp) (x : Failure) → d ≡ None → Answers (typed_view env) (check_exp uses env v) (Err x) → Answers (begun_view env) (begun uses plain_order loose_order d env v) (Err x)
  begun_untyped env d v (failure.Refused y) i h = rw i (rw h refl)
  begun_untyped env d v failure.NoMemory i h = tt

  pub begun_large : (env : Env) (d : Option Ty) (v : Exp) (w : Typed) → d ≡ None → check_exp uses env v ≡ fine (typed_view env w) → is_within (general_form w.ty) ≡ false
      → begun uses plain_order loose_order d env v ≡ fault code.X1 (place_of (exp_of w.tree))
  begun_large env d v w i h k = rw i (rw h (rw k refl))

  pub begun_declared : (env : Env) (d : Option Ty) (t : Ty) (v : Exp) (w : Typed) (l : Local) → d ≡ Some t → check_value uses plain_order loose_order env t v ≡ fine (typed_view env w) → l ≡ local_with t w.ty
      → begun uses plain_order loose_order d env v ≡ fine (begun_view env (record { local = l; tree = w.tree }))
  begun_declared env d t v w l i h k = rw i (rw h (rw k refl))

  pub begun_general : (env : Env) (d : Option Ty) (t : Ty) (v : Exp) (w : Typed) (l : Local) → d ≡ None → check_exp uses env v ≡ fine (typed_view env w) → is_within (general_form w.ty) ≡ true
      → t ≡ general_declared w.ty → l ≡ local_with t w.ty → begun uses plain_order loose_order d env v ≡ fine (begun_view env (record { local = l; tree = w.tree }))
  begun_general env d t v w l i h k m n =
      let same : l ≡ local_with (general_declared w.ty) w.ty = n ∙ ap (λ z. local_with z w.ty) m in
      rw i (rw h (rw k (rw same refl)))

  -- statements
  pub stat_runs : (env seen : Env) (stat : declared_stat.Stat) (p : Pos) (expr : Expr) (r : Result declared_stat.Stat Failure) → seen ≡ env → stat ≡ s.Call p expr
      → Answers (stat_view seen) (check_run uses plain_order loose_order seen p (exp_of expr)) r → Answers (stat_view env) (check_stat uses plain_order loose_order env (stat_of stat)) r
  stat_runs env seen stat p expr r same i h =
      subst (λ z. Answers (stat_view env) (check_stat uses plain_order loose_order env z) r) (sym (ap stat_of i ∙ stat_of-Call p expr))
      (subst (λ z. Answers (stat_view z) (check_run uses plain_order loose_order z p (exp_of expr)) r) same h)

  seen_local : (stat : declared_stat.Stat) (p : Pos) (ns : List annotated.Typed) (es : List Expr) → stat ≡ s.Local p ns es → stat_of stat ≡ tree.declare p ns (exps_of es)
  seen_local stat p ns es i = ap stat_of i ∙ stat_of-Local p ns es

  pub undeclared : (env env1 : Env) (p : Pos) (ns : List annotated.Typed) (es : Exps) (x : Failure) → Answers (λ (n : annotated.Typed). n) (one_local p ns) (Err x)
      → Answers (stat_view env1) (check_stat uses plain_order loose_order env (tree.declare p ns es)) (Err x)
  undeclared env env1 p ns es (failure.Refused y) h = rw h refl
  undeclared env env1 p ns es failure.NoMemory h = tt

  pub declares : (env env1 : Env) (p : Pos) (ns : List annotated.Typed) (n : annotated.Typed) (es : Exps) (r : Result declared_stat.Stat Failure)
      → one_local p ns ≡ fine n → Answers (stat_view env1) (check_local uses plain_order loose_order env p n es) r → Answers (stat_view env1) (check_stat uses plain_order loose_order env (tree.declare p ns es)) r
  declares env env1 p ns n es r h k =
      let same : check_stat uses plain_order loose_order env (tree.declare p ns es) ≡ check_local uses plain_order loose_order env p n es = rw h refl in
      subst (λ z. Answers (stat_view env1) z r) (sym same) k

  pub stat_declares : (env env1 : Env) (stat : declared_stat.Stat) (p : Pos) (ns : List annotated.Typed) (es : List Expr) (r : Result declared_stat.Stat Failure) → stat ≡ s.Local p ns es
      → Answers (stat_view env1) (check_stat uses plain_order loose_order env (tree.declare p ns (exps_of es))) r → Answers (stat_view env1) (check_stat uses plain_order loose_order env (stat_of stat)) r
  stat_declares env env1 stat p ns es r i h = subst (λ z. Answers (stat_view env1) (check_stat uses plain_order loose_order env z) r) (sym (ap stat_of i ∙ stat_of-Local p ns es)) h

  pub untargeted : (env env1 : Env) (p : Pos) (ts : List Expr) (es : Exps) (x : Failure) → Answers exp_of (one_target p (targets_of ts)) (Err x)
      → Answers (stat_view env1) (check_stat uses plain_order loose_order env (tree.assign p (targets_of ts) es)) (Err x)
  untargeted env env1 p ts es (failure.Refused y) h = rw h refl
  untargeted env env1 p ts es failure.NoMemory h = tt

  pub stores : (env env1 : Env) (p : Pos) (ts : List Expr) (t : Expr) (es : Exps) (r : Result declared_stat.Stat Failure)
      → one_target p (targets_of ts) ≡ fine (exp_of t) → Answers (stat_view env1) (check_store uses plain_order loose_order env p (exp_of t) es) r
      → Answers (stat_view env1) (check_stat uses plain_order loose_order env (tree.assign p (targets_of ts) es)) r
  stores env env1 p ts t es r h k =
      let same : check_stat uses plain_order loose_order env (tree.assign p (targets_of ts) es) ≡ check_store uses plain_order loose_order env p (exp_of t) es = rw h refl in
      subst (λ z. Answers (stat_view env1) z r) (sym same) k

  pub stat_stores : (env env1 : Env) (stat : declared_stat.Stat) (p : Pos) (ts es : List Expr) (r : Result declared_stat.Stat Failure) → stat ≡ s.Assign p ts es
      → Answers (stat_view env1) (check_stat uses plain_order loose_order env (tree.assign p (targets_of ts) (exps_of es))) r → Answers (stat_view env1) (check_stat uses plain_order loose_order env (stat_of stat)) r
  stat_stores env env1 stat p ts es r i h = subst (λ z. Answers (stat_view env1) (check_stat uses plain_order loose_order env z) r) (sym (ap stat_of i ∙ stat_of-Assign p ts es)) h

  -- a module
  pub module_refused : (seen : List Use) (env env1 : Env) (b : declared_block.Block) (x : Failure) → seen ≡ uses → env ≡ [] → Answers (block_view env1) (check_block seen plain_order loose_order env (block_of b)) (Err x)
      → Answers module_view (check_module uses plain_order loose_order TypedModule (block_of b)) (Err x)
  module_refused seen env env1 b (failure.Refused y) s i h =
      let there : check_block uses plain_order loose_order env (block_of b) ≡ fault y.code y.pos = subst (λ z. check_block z plain_order loose_order env (block_of b) ≡ fault y.code y.pos) s h in
      let here : check_block uses plain_order loose_order [] (block_of b) ≡ fault y.code y.pos = subst (λ z. check_block uses plain_order loose_order z (block_of b) ≡ fault y.code y.pos) i there in
      rw here refl
  module_refused seen env env1 b failure.NoMemory s i h = tt

  pub module_made : (seen : List Use) (env env1 : Env) (b made : declared_block.Block) → seen ≡ uses → env ≡ [] → check_block seen plain_order loose_order env (block_of b) ≡ fine (block_view env1 made)
      → check_module uses plain_order loose_order TypedModule (block_of b) ≡ fine (block_of made)
  module_made seen env env1 b made s i h =
      let there : check_block uses plain_order loose_order env (block_of b) ≡ fine (block_view env1 made) = subst (λ z. check_block z plain_order loose_order env (block_of b) ≡ fine (block_view env1 made)) s h in
      let here : check_block uses plain_order loose_order [] (block_of b) ≡ fine (block_view env1 made) = subst (λ z. check_block uses plain_order loose_order z (block_of b) ≡ fine (block_view env1 made)) i there in
      rw here refl
