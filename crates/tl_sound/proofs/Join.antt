-- What the rules take runs as they say: one line a form.
use Rattle.std.proofs.Common.{◌≡◌, refl, subst, sym, ℕ, Bool, true, false, List, [], ◌∷◌, ◌++◌, Option, Some, None, slice_get}
use Rattle.std.specs.Prelude.{slice_set}
use Rattle.std.specs.List.{list_all, list_any}
use Rattle.tl_base.specs.declared.place.Pos.{Pos}
use Rattle.tl_base.specs.declared.crossing.CrossKind.TheVariants as cross
use Rattle.lua_tree.specs.declared.annotation.Typed.{Typed}
use Rattle.lua_tree.specs.declared.scoped.Use.{Use}
use Rattle.lua_tree.specs.declared.syntax.BinaryOperator.{BinaryOperator}
use Rattle.lua_tree.specs.Tree as tree
use Rattle.lua_tree.specs.Tree.{Exp, Multi, Exps, Targets, Stat, Block}
use Rattle.lua_values.specs.declared.value.Value.{Value}
use Rattle.lua_meaning.specs.Calls.{Below}
use Rattle.tl_types.specs.declared.types.Ty.{Ty}
use Rattle.tl_types.specs.declared.types.Ty.TheVariants as ty
use Rattle.tl_types.specs.Types.{members}
use Rattle.tl_types.specs.Unions.{is_any, is_value, general_form}
use Rattle.tl_types.specs.Sizes.{is_within}
use Rattle.tl_types.specs.Below.{Test}
use Rattle.tl_rules.specs.declared.local.Local.{Local}
use Rattle.tl_rules.specs.declared.operand.Fit.{Fit}
use Rattle.tl_rules.specs.declared.operand.Fit.TheVariants as fit
use Rattle.tl_rules.specs.Annotations.{annotation}
use Rattle.tl_rules.specs.Checked.{Checked, fine, fault}
use Rattle.tl_rules.specs.Locals.{Env, number_of, local_in, local_with, general_declared}
use Rattle.tl_rules.specs.Operands.{is_ruled, is_integer, fit_by, integer_fit, operand_by, operand}
use Rattle.tl_rules.specs.Expressions.{TypedExp, operation, named_by, check_exp}
use Rattle.tl_rules.specs.Flow.{Flowed, flow_by, flow}
use Rattle.tl_rules.specs.Statements.{TypedExps, TypedMulti, TypedStat, TypedBlock, Begun, one_value, one_local, one_target, alone, is_print, number_at, check_callee, target_local, check_value, check_arguments, check_call, check_run, begun, check_local, store_by, check_store, check_stat, check_block}
use Rattle.tl_sound.proofs.KeepsLevels.{BelowKeeps}
use Rattle.tl_sound.proofs.Late.{Marked, AnyMark}
use Rattle.tl_sound.proofs.Runs.{Given, given_then, given_ruled, after_more}
use Rattle.tl_sound.proofs.Values.{Has, IsInt, all_int}
use Rattle.tl_sound.proofs.Forms.{Fits, FitsAll, Steps, StepsAll, fits_nothing, fits_truth, fits_integer, fits_text, fits_name, fits_paren, fits_marked, fits_binary, fits_none, fits_push, fits_print, steps_run, steps_declare, steps_assign, steps_finish, steps_next, eval}

-- any result will do, where what follows asks for nothing
given_any : {A : Type 0} (r : Checked A) → Given (λ a. Unit {0}) r
given_any (fine a) = tt
given_any (fault c p) = tt

-- where all members fit
all_fit : (any value all some : Bool) → fit_by any value all some ≡ fit.All → all ≡ true
all_fit true value all some e = let f : ⊥ = cc in absurd f
all_fit false true all some e = let f : ⊥ = cc in absurd f
all_fit false false true some e = refl
all_fit false false false true e = let f : ⊥ = cc in absurd f
all_fit false false false false e = let f : ⊥ = cc in absurd f

module _ (uses : List Use) (low : Below) (lates : BelowKeeps Marked AnyMark low) (c : ℕ) where
  abbrev F : Env → (Value → Type 0) → Env → Exp → Type 0
  F env P env1 e = Fits uses low lates c env P env1 e

  -- ---- expressions

  abbrev FitsExp : Env → TypedExp → Type 0
  FitsExp env v = Fits uses low lates c env (Has v.ty) v.env v.tree

  -- where all members are integers the value is one
  fits_int : (env env1 : Env) (t : Ty) (e : Exp) → list_all is_integer (members t) ≡ true → F env (Has t) env1 e → F env IsInt env1 e
  fits_int env env1 t e all h = record {
    runs = λ scope w cs a. after_more _ _ (eval uses low lates c e scope w cs) (λ v u st n g. (g.0, all_int (members t) v all g.1)) (h.runs scope w cs a);
    none = h.none;
    size = h.size;
  }

  operand_by_sound : (f : Fit) (env env1 : Env) (t : Ty) (e : Exp) → (f ≡ fit.All → F env IsInt env1 e) → F env (Has t) env1 e → Given (λ l. F env IsInt env1 l) (operand_by f e)
  operand_by_sound fit.Unknown env env1 t e k h = fits_marked uses low lates c env env1 (Has t) IsInt cross.Operand e h
  operand_by_sound fit.Opaque env env1 t e k h = tt
  operand_by_sound fit.All env env1 t e k h = k refl
  operand_by_sound fit.Some env env1 t e k h = tt
  operand_by_sound fit.No env env1 t e k h = tt

  operand_sound : (env env1 : Env) (t : Ty) (e : Exp) → F env (Has t) env1 e → Given (λ l. F env IsInt env1 l) (operand t e)
  operand_sound env env1 t e h =
      operand_by_sound (integer_fit t) env env1 t e
      (λ all. fits_int env env1 t e (all_fit (is_any t) (is_value t) (list_all is_integer (members t)) (list_any is_integer (members t)) all) h) h

  operation_sound : (env : Env) (p : Pos) (o : BinaryOperator) (a b : TypedExp) → is_ruled o ≡ true → FitsExp env a → FitsExp a.env b → Given (FitsExp env) (operation p o a b)
  operation_sound env p o a b ruled ha hb =
      given_then (λ l. F env IsInt a.env l) (FitsExp env) (operand a.ty a.tree) _ (operand_sound env a.env a.ty a.tree ha) (λ l hl.
      given_then (λ r. F a.env IsInt b.env r) (FitsExp env) (operand b.ty b.tree) _ (operand_sound a.env b.env b.ty b.tree hb) (λ r hr.
      fits_binary uses low lates c env a.env b.env p o a.ty b.ty l r ruled hl hr))

  named_sound : (env : Env) (p : Pos) (u : ℕ) (s : List ℕ) (o : Option Local) → local_in env (number_of (slice_get uses u)) ≡ o → Given (FitsExp env) (named_by o env p u s)
  named_sound env p u s (Some l) e = fits_name uses low lates c env l p u s e
  named_sound env p u s None e = tt

  exp_sound : (env : Env) (e : Exp) → Given (FitsExp env) (check_exp uses env e)
  exp_sound env (tree.nothing p) = fits_nothing uses low lates c env p
  exp_sound env (tree.truth p b) = fits_truth uses low lates c env p b
  exp_sound env (tree.integer p n) = fits_integer uses low lates c env p n
  exp_sound env (tree.text p s) = fits_text uses low lates c env p s
  exp_sound env (tree.name p u s) = named_sound env p u s (local_in env (number_of (slice_get uses u))) refl
  exp_sound env (tree.paren p e) =
      given_then (FitsExp env) (FitsExp env) (check_exp uses env e) _ (exp_sound env e) (λ v h. fits_paren uses low lates c env v.env (Has v.ty) p v.tree h)
  exp_sound env (tree.binary p o a b) =
      given_ruled (FitsExp env) (is_ruled o) p _ (λ ruled.
      given_then (FitsExp env) (FitsExp env) (check_exp uses env a) _ (exp_sound env a) (λ l hl.
      given_then (FitsExp l.env) (FitsExp env) (check_exp uses l.env b) _ (exp_sound l.env b) (λ r hr. operation_sound env p o l r ruled hl hr)))
  exp_sound env (tree.mark k e) = exp_sound env e
  exp_sound env e = tt

  module _ (below consistent : Test) where
    -- ---- flows

    abbrev FitsFlow : Env → Env → Flowed → Type 0
    FitsFlow env env1 v = F env (Has v.ty) env1 v.tree

    flow_by_sound : (plain loose : Bool) (env env1 : Env) (s t : Ty) (e : Exp) → F env (Has s) env1 e → Given (FitsFlow env env1) (flow_by plain loose s t e)
    flow_by_sound true loose env env1 s t e h = h
    flow_by_sound false true env env1 s t e h = fits_marked uses low lates c env env1 (Has s) (Has t) cross.Place e h
    flow_by_sound false false env env1 s t e h = tt

    flow_sound : (env env1 : Env) (s t : Ty) (e : Exp) → F env (Has s) env1 e → Given (FitsFlow env env1) (flow below consistent s t e)
    flow_sound env env1 s t e h = flow_by_sound (below s t) (consistent s t) env env1 s t e h

    value_sound : (env : Env) (t : Ty) (e : Exp) → Given (FitsExp env) (check_value uses below consistent env t e)
    value_sound env t e =
        given_then (FitsExp env) (FitsExp env) (check_exp uses env e) _ (exp_sound env e) (λ v h.
        given_then (FitsFlow env v.env) (FitsExp env) (flow below consistent v.ty t v.tree) _ (flow_sound env v.env v.ty t v.tree h) (λ f hf. hf))

    -- ---- calls

    abbrev FitsExps : Env → TypedExps → Type 0
    FitsExps env vs = FitsAll uses low lates c env vs.env vs.trees

    arguments_sound : (env : Env) (es : Exps) → Given (FitsExps env) (check_arguments uses below consistent env es)
    arguments_sound env tree.none = fits_none uses low lates c env
    arguments_sound env (tree.ends m) = tt
    arguments_sound env (tree.more e es) =
        given_then (FitsExp env) (FitsExps env) (check_value uses below consistent env ty.Value e) _ (value_sound env ty.Value e) (λ v h.
        given_then (FitsExps v.env) (FitsExps env) (check_arguments uses below consistent v.env es) _ (arguments_sound v.env es) (λ vs hs.
        fits_push uses low lates c env v.env vs.env (Has v.ty) v.tree vs.trees h hs))

    abbrev FitsCall : Env → TypedMulti → Type 0
    FitsCall env m = F env (λ v. Unit {0}) m.env (tree.one_of m.tree)

    -- the callee stands as it was written
    abbrev Prints : Exp → Type 0
    Prints f = (p : Pos) × (u : ℕ) × (s : List ℕ) × (f ≡ tree.name p u s) × (is_print (slice_get uses u) ≡ true)

    callee_sound : (f : Exp) → Given Prints (check_callee uses f)
    callee_sound (tree.name p u s) = given_ruled Prints (is_print (slice_get uses u)) p _ (λ e. (p, u, s, refl, e))
    callee_sound f = tt

    call_sound : (env : Env) (m : Multi) → Given (FitsCall env) (check_call uses below consistent env m)
    call_sound env (tree.call p f es) =
        given_then Prints (FitsCall env) (check_callee uses f) _ (callee_sound f) (λ g hg.
        given_then (FitsExps env) (FitsCall env) (check_arguments uses below consistent env es) _ (arguments_sound env es) (λ vs hs.
        subst (λ (e : Exp). F env (λ v. Unit {0}) vs.env (tree.one_of (tree.call p e vs.trees))) (sym hg.3)
        (fits_print uses low lates c env vs.env p hg.0 hg.1 hg.2 vs.trees hg.4 hs)))
    call_sound env m = tt

    -- ---- statements

    abbrev StepsStat : Env → TypedStat → Type 0
    StepsStat env s = Steps uses low lates c env s.env s.tree

    run_sound : (env : Env) (p : Pos) (e : Exp) → Given (StepsStat env) (check_run uses below consistent env p e)
    run_sound env p (tree.one_of m) =
        given_then (FitsCall env) (StepsStat env) (check_call uses below consistent env m) _ (call_sound env m) (λ t h. steps_run uses low lates c env t.env (λ v. Unit {0}) p (tree.one_of t.tree) h)
    run_sound env p e = tt

    -- a value of which all is known that its local knows
    abbrev Begins : Env → Begun → Type 0
    Begins env b = (d : Ty) × (t : Ty) × (b.local ≡ local_with d t) × F env (Has t) b.env b.tree

    begun_sound : (t : Option Ty) (env : Env) (e : Exp) → Given (Begins env) (begun uses below consistent t env e)
    begun_sound (Some t) env e =
        given_then (FitsExp env) (Begins env) (check_value uses below consistent env t e) _ (value_sound env t e) (λ v h. (t, v.ty, refl, h))
    begun_sound None env e =
        given_then (FitsExp env) (Begins env) (check_exp uses env e) _ (exp_sound env e) (λ v h.
        given_ruled (Begins env) (is_within (general_form v.ty)) _ _ (λ within. (general_declared v.ty, v.ty, refl, h)))

    local_sound : (env : Env) (p : Pos) (n : Typed) (es : Exps) → Given (StepsStat env) (check_local uses below consistent env p n es)
    local_sound env p n es =
        given_then (λ t. Unit {0}) (StepsStat env) (annotation n.ty) _ (given_any (annotation n.ty)) (λ t u.
        given_then (λ e. Unit {0}) (StepsStat env) (one_value p es) _ (given_any (one_value p es)) (λ e u2.
        given_then (Begins env) (StepsStat env) (begun uses below consistent t env e) _ (begun_sound t env e) (λ b h.
        subst (λ (l : Local). Steps uses low lates c env (b.env ++ l ∷ []) (tree.declare p (n ∷ []) (alone b.tree))) (sym h.2)
        (steps_declare uses low lates c env b.env p n h.0 h.1 b.tree h.3))))

    -- the target stands as it was written
    abbrev Stores : Exp → ℕ → Type 0
    Stores target x = (p : Pos) × (u : ℕ) × (s : List ℕ) × (target ≡ tree.name p u s) × (number_of (slice_get uses u) ≡ Some x)

    number_sound : (p : Pos) (u : ℕ) (s : List ℕ) (o : Option ℕ) → number_of (slice_get uses u) ≡ o → Given (Stores (tree.name p u s)) (number_at o p)
    number_sound p u s (Some x) e = (p, u, s, refl, e)
    number_sound p u s None e = tt

    target_sound : (target : Exp) → Given (Stores target) (target_local uses target)
    target_sound (tree.name p u s) = number_sound p u s (number_of (slice_get uses u)) refl
    target_sound target = tt

    store_by_sound : (env : Env) (x : ℕ) (p : Pos) (target : Exp) (v : TypedExp) (o : Option Local) → slice_get v.env x ≡ o → Stores target x → FitsExp env v
        → Given (StepsStat env) (store_by uses below consistent o x p target v)
    store_by_sound env x p target v None e t h = tt
    store_by_sound env x p target v (Some l) e t h =
        given_then (FitsFlow env v.env) (StepsStat env) (flow below consistent v.ty l.declared v.tree) _ (flow_sound env v.env v.ty l.declared v.tree h) (λ f hf.
        subst (λ (g : Exp). Steps uses low lates c env (slice_set v.env x (local_with l.declared f.ty)) (tree.assign p (tree.target g tree.no_target) (alone f.tree))) (sym t.3)
        (steps_assign uses low lates c env v.env p t.0 t.1 x t.2 l l.declared f.ty f.tree t.4 e hf))

    store_sound : (env : Env) (p : Pos) (target : Exp) (es : Exps) → Given (StepsStat env) (check_store uses below consistent env p target es)
    store_sound env p target es =
        given_then (Stores target) (StepsStat env) (target_local uses target) _ (target_sound target) (λ x t.
        given_then (λ e. Unit {0}) (StepsStat env) (one_value p es) _ (given_any (one_value p es)) (λ e u.
        given_then (FitsExp env) (StepsStat env) (check_exp uses env e) _ (exp_sound env e) (λ v h.
        store_by_sound env x p target v (slice_get v.env x) refl t h)))

    stat_sound : (env : Env) (s : Stat) → Given (StepsStat env) (check_stat uses below consistent env s)
    stat_sound env (tree.run p e) = run_sound env p e
    stat_sound env (tree.declare p ns es) = given_then (λ n. Unit {0}) (StepsStat env) (one_local p ns) _ (given_any (one_local p ns)) (λ n u. local_sound env p n es)
    stat_sound env (tree.assign p ts es) = given_then (λ t. Unit {0}) (StepsStat env) (one_target p ts) _ (given_any (one_target p ts)) (λ t u. store_sound env p t es)
    stat_sound env s = tt

    abbrev pub StepsBlock : Env → TypedBlock → Type 0
    StepsBlock env b = StepsAll uses low lates c env b.tree

    pub block_sound : (env : Env) (b : Block) → Given (StepsBlock env) (check_block uses below consistent env b)
    block_sound env tree.finish = steps_finish uses low lates c env
    block_sound env (tree.returns p es) = tt
    block_sound env (tree.next s b) =
        given_then (StepsStat env) (StepsBlock env) (check_stat uses below consistent env s) _ (stat_sound env s) (λ t h.
        given_then (StepsBlock t.env) (StepsBlock env) (check_block uses below consistent t.env b) _ (block_sound t.env b) (λ ts hs.
        steps_next uses low lates c env t.env t.tree ts.tree h hs))
