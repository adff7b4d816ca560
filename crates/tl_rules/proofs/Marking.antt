-- Typing adds marks to a tree and changes nothing else of it.
use Rattle.std.proofs.Common.{◌≡◌, refl, sym, ap, subst, ◌∙◌, ℕ, Bool, true, false, List, [], ◌∷◌, Option, Some, None}
use Rattle.std.specs.List.{slice_get}
use Rattle.tl_base.specs.declared.place.Pos.{Pos}
use Rattle.tl_base.specs.declared.place.ModuleKind.{ModuleKind}
use Rattle.tl_base.specs.declared.place.ModuleKind.TheVariants.{Typed as TypedModule, Untyped}
use Rattle.tl_base.specs.declared.crossing.CrossKind.{CrossKind}
use Rattle.tl_base.specs.declared.crossing.CrossKind.TheVariants as cross
use Rattle.lua_tree.specs.declared.annotation.Typed.{Typed}
use Rattle.lua_tree.specs.declared.scoped.Use.{Use}
use Rattle.lua_tree.specs.declared.syntax.BinaryOperator.{BinaryOperator}
use Rattle.lua_tree.specs.Plain.{plain_name, plain_exp, plain_multi, plain_exps, plain_stat, plain_block, plain_targets}
use Rattle.lua_tree.specs.Tree as tree
use Rattle.lua_tree.specs.Tree.{Exp, Multi, Exps, Targets, Stat, Block, marked, push}
use Rattle.tl_types.specs.declared.types.Ty.{Ty}
use Rattle.tl_types.specs.declared.types.Ty.TheVariants as ty
use Rattle.tl_types.specs.Sizes.{is_within}
use Rattle.tl_types.specs.Unions.{general_form}
use Rattle.tl_types.specs.Below.{Test}
use Rattle.tl_rules.specs.declared.local.Local.{Local}
use Rattle.tl_rules.specs.declared.operand.Fit.{Fit}
use Rattle.tl_rules.specs.declared.operand.Fit.TheVariants as fit
use Rattle.tl_rules.specs.Annotations.{annotation}
use Rattle.tl_rules.specs.Checked.{Checked, fine, fault, then_check, where_ruled}
use Rattle.tl_rules.specs.Locals.{Env, number_of, local_in}
use Rattle.tl_rules.specs.Operands.{is_ruled, integer_fit, operand_by, operand}
use Rattle.tl_rules.specs.Expressions.{TypedExp, operation, named_by, check_exp}
use Rattle.tl_rules.specs.Flow.{Flowed, flow_by, flow}
use Rattle.tl_rules.specs.Statements.{TypedExps, TypedMulti, TypedStat, TypedBlock, Begun, one_value, one_local, one_target, alone, is_print, check_callee, target_local, check_value, check_arguments, check_call, check_run, begun, check_local, store_by, check_store, check_stat, check_block, check_module}

-- of what the rules take
abbrev Given : {A : Type 0} → (A → Type 0) → Checked A → Type 0
Given P (fine a) = P a
Given P (fault c p) = Unit {0}

given_then : {A B : Type 0} (P : A → Type 0) (Q : B → Type 0) (r : Checked A) (go : A → Checked B) → Given P r → ((a : A) → P a → Given Q (go a)) → Given Q (then_check r go)
given_then P Q (fine a) go g h = h a g
given_then P Q (fault c p) go g h = tt

given_ruled : {A : Type 0} (P : A → Type 0) (b : Bool) (p : Pos) (r : Checked A) → Given P r → Given P (where_ruled b p r)
given_ruled P true p r h = h
given_ruled P false p r h = tt

given_more : {A : Type 0} (P Q : A → Type 0) (r : Checked A) → Given P r → ((a : A) → P a → Q a) → Given Q r
given_more P Q (fine a) g h = h a g
given_more P Q (fault c p) g h = tt

given_any : {A : Type 0} (r : Checked A) → Given (λ a. Unit {0}) r
given_any (fine a) = tt
given_any (fault c p) = tt

-- ---- trees that give one value

abbrev One : Exp → Type 0
One (tree.one_of m) = ⊥
One e = Unit {0}

-- the tree of one value that was made of another
pub record Same (e made : Exp) : Type 0 where
  pub plain : plain_exp made ≡ plain_exp e
  pub one : One made

marked_same : (k : CrossKind) (e made : Exp) → Same e made → Same e (marked k made)
marked_same k e (tree.one_of m) h = absurd h.one
marked_same k e made h = record { plain = h.plain; one = tt }

push_one : (e : Exp) (es : Exps) → One e → push e es ≡ tree.more e es
push_one (tree.one_of m) es h = absurd h
push_one e es h = refl

pushed : (e made : Exp) (es mades : Exps) → Same e made → plain_exps mades ≡ plain_exps es → plain_exps (push made mades) ≡ plain_exps (tree.more e es)
pushed e made es mades h hs = ap plain_exps (push_one made mades h.one) ∙ (ap (λ z. tree.more z (plain_exps mades)) h.plain ∙ ap (tree.more (plain_exp e)) hs)

-- ---- expressions

abbrev SameExp : Exp → TypedExp → Type 0
SameExp e v = Same e v.tree

operand_by_same : (f : Fit) (e made : Exp) → Same e made → Given (Same e) (operand_by f made)
operand_by_same fit.Unknown e made h = marked_same cross.Operand e made h
operand_by_same fit.Opaque e made h = tt
operand_by_same fit.All e made h = h
operand_by_same fit.Some e made h = tt
operand_by_same fit.No e made h = tt

operand_same : (t : Ty) (e made : Exp) → Same e made → Given (Same e) (operand t made)
operand_same t e made h = operand_by_same (integer_fit t) e made h

operation_same : (p : Pos) (o : BinaryOperator) (a b : Exp) (v w : TypedExp) → Same a v.tree → Same b w.tree → Given (SameExp (tree.binary p o a b)) (operation p o v w)
operation_same p o a b v w ha hb =
    given_then (Same a) (SameExp (tree.binary p o a b)) (operand v.ty v.tree) _ (operand_same v.ty a v.tree ha) (λ l hl.
    given_then (Same b) (SameExp (tree.binary p o a b)) (operand w.ty w.tree) _ (operand_same w.ty b w.tree hb) (λ r hr.
    record { plain = ap (λ z. tree.binary p o z (plain_exp r)) hl.plain ∙ ap (tree.binary p o (plain_exp a)) hr.plain; one = tt }))

named_same : (o : Option Local) (env : Env) (p : Pos) (u : ℕ) (s : List ℕ) → Given (SameExp (tree.name p u s)) (named_by o env p u s)
named_same (Some l) env p u s = record { plain = refl; one = tt }
named_same None env p u s = tt

module _ (uses : List Use) where
  exp_same : (env : Env) (e : Exp) → Given (SameExp e) (check_exp uses env e)
  exp_same env (tree.nothing p) = record { plain = refl; one = tt }
  exp_same env (tree.truth p b) = record { plain = refl; one = tt }
  exp_same env (tree.integer p n) = record { plain = refl; one = tt }
  exp_same env (tree.text p s) = record { plain = refl; one = tt }
  exp_same env (tree.name p u s) = named_same (local_in env (number_of (slice_get uses u))) env p u s
  exp_same env (tree.paren p e) =
      given_then (SameExp e) (SameExp (tree.paren p e)) (check_exp uses env e) _ (exp_same env e) (λ v h. record { plain = ap (tree.paren p) h.plain; one = tt })
  exp_same env (tree.binary p o a b) =
      given_ruled (SameExp (tree.binary p o a b)) (is_ruled o) p _
      (given_then (SameExp a) (SameExp (tree.binary p o a b)) (check_exp uses env a) _ (exp_same env a) (λ l hl.
      given_then (SameExp b) (SameExp (tree.binary p o a b)) (check_exp uses l.env b) _ (exp_same l.env b) (λ r hr. operation_same p o a b l r hl hr)))
  exp_same env (tree.mark k e) = given_more (SameExp e) (SameExp (tree.mark k e)) (check_exp uses env e) (exp_same env e) (λ v h. record { plain = h.plain; one = h.one })
  exp_same env e = tt

  -- ---- forms with one part

  abbrev IsAlone : Exps → Exp → Type 0
  IsAlone es e = es ≡ tree.more e tree.none

  value_alone : (p : Pos) (es : Exps) → Given (IsAlone es) (one_value p es)
  value_alone p (tree.more e tree.none) = refl
  value_alone p (tree.ends m) = tt
  value_alone p es = tt

  local_alone : (p : Pos) (ns : List Typed) → Given (λ n. ns ≡ n ∷ []) (one_local p ns)
  local_alone p (n ∷ []) = refl
  local_alone p ns = tt

  target_alone : (p : Pos) (ts : Targets) → Given (λ t. ts ≡ tree.target t tree.no_target) (one_target p ts)
  target_alone p (tree.target t tree.no_target) = refl
  target_alone p ts = tt

  alone_same : (e made : Exp) → Same e made → plain_exps (alone made) ≡ plain_exps (tree.more e tree.none)
  alone_same e made h = pushed e made tree.none tree.none h refl

  callee_same : (f : Exp) → Given (λ g. g ≡ f) (check_callee uses f)
  callee_same (tree.name p u s) = given_ruled (λ g. g ≡ tree.name p u s) (is_print (slice_get uses u)) p _ refl
  callee_same f = tt

  module _ (below consistent : Test) where
    -- ---- flows and calls

    flow_by_same : (plain loose : Bool) (s t : Ty) (e made : Exp) → Same e made → Given (λ (f : Flowed). Same e f.tree) (flow_by plain loose s t made)
    flow_by_same true loose s t e made h = h
    flow_by_same false true s t e made h = marked_same cross.Place e made h
    flow_by_same false false s t e made h = tt

    value_same : (env : Env) (t : Ty) (e : Exp) → Given (SameExp e) (check_value uses below consistent env t e)
    value_same env t e =
        given_then (SameExp e) (SameExp e) (check_exp uses env e) _ (exp_same env e) (λ v h.
        given_then (λ (f : Flowed). Same e f.tree) (SameExp e) (flow below consistent v.ty t v.tree) _ (flow_by_same (below v.ty t) (consistent v.ty t) v.ty t e v.tree h) (λ f hf. hf))

    abbrev SameExps : Exps → TypedExps → Type 0
    SameExps es vs = plain_exps vs.trees ≡ plain_exps es

    arguments_same : (env : Env) (es : Exps) → Given (SameExps es) (check_arguments uses below consistent env es)
    arguments_same env tree.none = refl
    arguments_same env (tree.ends m) = tt
    arguments_same env (tree.more e es) =
        given_then (SameExp e) (SameExps (tree.more e es)) (check_value uses below consistent env ty.Value e) _ (value_same env ty.Value e) (λ v h.
        given_then (SameExps es) (SameExps (tree.more e es)) (check_arguments uses below consistent v.env es) _ (arguments_same v.env es) (λ vs hs. pushed e v.tree es vs.trees h hs))

    abbrev SameMulti : Multi → TypedMulti → Type 0
    SameMulti m c = plain_multi c.tree ≡ plain_multi m

    call_same : (env : Env) (m : Multi) → Given (SameMulti m) (check_call uses below consistent env m)
    call_same env (tree.call p f es) =
        given_then (λ g. g ≡ f) (SameMulti (tree.call p f es)) (check_callee uses f) _ (callee_same f) (λ g hg.
        given_then (SameExps es) (SameMulti (tree.call p f es)) (check_arguments uses below consistent env es) _ (arguments_same env es) (λ vs hs.
        ap (λ z. tree.call p (plain_exp z) (plain_exps vs.trees)) hg ∙ ap (tree.call p (plain_exp f)) hs))
    call_same env m = tt

    -- ---- statements, before what follows them

    abbrev SameStat : Stat → TypedStat → Type 0
    SameStat s t = (b : Block) → plain_stat t.tree b ≡ plain_stat s b

    run_same : (env : Env) (p : Pos) (e : Exp) → Given (SameStat (tree.run p e)) (check_run uses below consistent env p e)
    run_same env p (tree.one_of m) =
        given_then (SameMulti m) (SameStat (tree.run p (tree.one_of m))) (check_call uses below consistent env m) _ (call_same env m) (λ c h b. ap (λ z. tree.next (tree.run p (tree.one_of z)) b) h)
    run_same env p e = tt

    begun_same : (t : Option Ty) (env : Env) (e : Exp) → Given (λ (b : Begun). Same e b.tree) (begun uses below consistent t env e)
    begun_same (Some t) env e =
        given_then (SameExp e) (λ (b : Begun). Same e b.tree) (check_value uses below consistent env t e) _ (value_same env t e) (λ v h. h)
    begun_same None env e =
        given_then (SameExp e) (λ (b : Begun). Same e b.tree) (check_exp uses env e) _ (exp_same env e) (λ v h. given_ruled (λ (b : Begun). Same e b.tree) (is_within (general_form v.ty)) _ _ h)

    local_same : (env : Env) (p : Pos) (n : Typed) (es : Exps) → Given (SameStat (tree.declare p (n ∷ []) es)) (check_local uses below consistent env p n es)
    local_same env p n es =
        given_then (λ t. Unit {0}) (SameStat (tree.declare p (n ∷ []) es)) (annotation n.ty) _ (given_any (annotation n.ty)) (λ t u.
        given_then (IsAlone es) (SameStat (tree.declare p (n ∷ []) es)) (one_value p es) _ (value_alone p es) (λ e is.
        given_then (λ (b : Begun). Same e b.tree) (SameStat (tree.declare p (n ∷ []) es)) (begun uses below consistent t env e) _ (begun_same t env e) (λ b h rest.
        ap (λ z. tree.next (tree.declare p (plain_name n ∷ []) z) rest) (alone_same e b.tree h ∙ ap plain_exps (sym is)))))

    store_by_same : (o : Option Local) (x : ℕ) (p : Pos) (target e : Exp) (v : TypedExp) → Same e v.tree
        → Given (SameStat (tree.assign p (tree.target target tree.no_target) (tree.more e tree.none))) (store_by uses below consistent o x p target v)
    store_by_same None x p target e v h = tt
    store_by_same (Some l) x p target e v h =
        given_then (λ (f : Flowed). Same e f.tree) (SameStat (tree.assign p (tree.target target tree.no_target) (tree.more e tree.none))) (flow below consistent v.ty l.declared v.tree) _
        (flow_by_same (below v.ty l.declared) (consistent v.ty l.declared) v.ty l.declared e v.tree h) (λ f hf rest.
        ap (λ z. tree.next (tree.assign p (plain_targets (tree.target target tree.no_target)) z) rest) (alone_same e f.tree hf))

    store_same : (env : Env) (p : Pos) (target : Exp) (es : Exps) → Given (SameStat (tree.assign p (tree.target target tree.no_target) es)) (check_store uses below consistent env p target es)
    store_same env p target es =
        given_then (λ x. Unit {0}) (SameStat (tree.assign p (tree.target target tree.no_target) es)) (target_local uses target) _ (given_any (target_local uses target)) (λ x u.
        given_then (IsAlone es) (SameStat (tree.assign p (tree.target target tree.no_target) es)) (one_value p es) _ (value_alone p es) (λ e is.
        given_then (SameExp e) (SameStat (tree.assign p (tree.target target tree.no_target) es)) (check_exp uses env e) _ (exp_same env e) (λ v h.
        subst (λ z. Given (SameStat (tree.assign p (tree.target target tree.no_target) z)) (store_by uses below consistent (slice_get v.env x) x p target v)) (sym is)
        (store_by_same (slice_get v.env x) x p target e v h))))

    stat_same : (env : Env) (s : Stat) → Given (SameStat s) (check_stat uses below consistent env s)
    stat_same env (tree.run p e) = run_same env p e
    stat_same env (tree.declare p ns es) =
        given_then (λ n. ns ≡ n ∷ []) (SameStat (tree.declare p ns es)) (one_local p ns) _ (local_alone p ns) (λ n is.
        subst (λ z. Given (SameStat (tree.declare p z es)) (check_local uses below consistent env p n es)) (sym is) (local_same env p n es))
    stat_same env (tree.assign p ts es) =
        given_then (λ t. ts ≡ tree.target t tree.no_target) (SameStat (tree.assign p ts es)) (one_target p ts) _ (target_alone p ts) (λ t is.
        subst (λ z. Given (SameStat (tree.assign p z es)) (check_store uses below consistent env p t es)) (sym is) (store_same env p t es))
    stat_same env s = tt

    abbrev SameBlock : Block → TypedBlock → Type 0
    SameBlock b t = plain_block t.tree ≡ plain_block b

    block_same : (env : Env) (b : Block) → Given (SameBlock b) (check_block uses below consistent env b)
    block_same env tree.finish = refl
    block_same env (tree.returns p es) = tt
    block_same env (tree.next s b) =
        given_then (SameStat s) (SameBlock (tree.next s b)) (check_stat uses below consistent env s) _ (stat_same env s) (λ t h.
        given_then (SameBlock b) (SameBlock (tree.next s b)) (check_block uses below consistent t.env b) _ (block_same t.env b) (λ ts hs. h (plain_block ts.tree) ∙ ap (plain_stat s) hs))

    module_given : (kind : ModuleKind) (b : Block) → Given (λ made. plain_block made ≡ plain_block b) (check_module uses below consistent kind b)
    module_given TypedModule b =
        given_then (SameBlock b) (λ made. plain_block made ≡ plain_block b) (check_block uses below consistent [] b) _ (block_same [] b) (λ t h. h)
    module_given Untyped b = refl

    pub module_same : (kind : ModuleKind) (b made : Block) → check_module uses below consistent kind b ≡ fine made → plain_block made ≡ plain_block b
    module_same kind b made e = subst (Given (λ made. plain_block made ≡ plain_block b)) e (module_given kind b)
