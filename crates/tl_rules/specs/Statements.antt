-- The typing rules of statements, blocks and modules: an environment and a tree give the environment afterwards and the marked tree, or the first
-- premise that fails. A form that no clause names has no rule yet.
use Rattle.std.specs.Prelude.{ℕ, Bool, true, false, List, [], ◌∷◌, ◌++◌, Option, Some, None, slice_set}
use Rattle.std.specs.List.{slice_get}
use Rattle.tl_base.specs.declared.place.Pos.{Pos}
use Rattle.tl_base.specs.declared.place.ModuleKind.{ModuleKind}
use Rattle.tl_base.specs.declared.place.ModuleKind.TheVariants.{Typed as TypedModule, Untyped}
use Rattle.tl_base.specs.declared.refusal.RefusalCode.TheVariants as code
use Rattle.lua_tree.specs.declared.annotation.Typed.{Typed}
use Rattle.lua_tree.specs.declared.names.LibName.TheVariants as lib
use Rattle.lua_tree.specs.declared.scoped.Use.{Use}
use Rattle.lua_tree.specs.declared.scoped.Use.TheVariants as means
use Rattle.lua_tree.specs.Tree as tree
use Rattle.lua_tree.specs.Tree.{Exp, Multi, Exps, Targets, Stat, Block}
use Rattle.lua_tree.specs.Places.{place_of, multi_place}
use Rattle.tl_types.specs.declared.types.Ty.{Ty}
use Rattle.tl_types.specs.declared.types.Ty.TheVariants as ty
use Rattle.tl_types.specs.Sizes.{is_within}
use Rattle.tl_types.specs.Unions.{general_form}
use Rattle.tl_types.specs.Below.{Test}
use Rattle.tl_rules.specs.declared.local.Local.{Local}
use Rattle.tl_rules.specs.Annotations.{annotation}
use Rattle.tl_rules.specs.Checked.{Checked, fine, fault, then_check, where_ruled}
use Rattle.tl_rules.specs.Expressions.{TypedExp, check_exp}
use Rattle.tl_rules.specs.Flow.{flow}
use Rattle.tl_rules.specs.Locals.{Env, number_of, local_with, general_declared}
use Rattle.tl_rules.specs.Places.{stat_place}

pub record TypedExps : Type 0 where
  pub env : Env
  pub trees : Exps

pub record TypedMulti : Type 0 where
  pub env : Env
  pub tree : Multi

pub record TypedStat : Type 0 where
  pub env : Env
  pub tree : Stat

pub record TypedBlock : Type 0 where
  pub env : Env
  pub tree : Block

-- a local that begins, the environment before it, and the tree of its value
pub record Begun : Type 0 where
  pub local : Local
  pub env : Env
  pub tree : Exp

-- ---- forms with one part, so far

-- the one value of a statement at a place
abbrev pub one_value : Pos → Exps → Checked Exp
one_value p (tree.more e tree.none) = fine e
one_value p (tree.ends m) = fault code.X1 (multi_place m)
one_value p es = fault code.X1 p

abbrev pub one_local : Pos → List Typed → Checked Typed
one_local p (n ∷ []) = fine n
one_local p ns = fault code.X1 p

abbrev pub one_target : Pos → Targets → Checked Exp
one_target p (tree.target e tree.no_target) = fine e
one_target p ts = fault code.X1 p

-- the statement's tree with this value
abbrev pub alone : Exp → Exps
alone e = tree.push e tree.none

-- ---- names

-- the function of the library that is called: so far `print`
abbrev pub is_print : Option Use → Bool
is_print (Some (means.Lib lib.Print)) = true
is_print u = false

abbrev pub number_at : Option ℕ → Pos → Checked ℕ
number_at (Some x) p = fine x
number_at None p = fault code.X1 p

module _ (uses : List Use) where
  abbrev pub check_callee : Exp → Checked Exp
  check_callee (tree.name p u s) = where_ruled (is_print (slice_get uses u)) p (fine (tree.name p u s))
  check_callee e = fault code.X1 (place_of e)

  -- the number of the local into which a statement stores
  abbrev pub target_local : Exp → Checked ℕ
  target_local (tree.name p u s) = number_at (number_of (slice_get uses u)) p
  target_local e = fault code.X1 (place_of e)

-- ---- the rules

module _ (uses : List Use) (below consistent : Test) where
  -- an expression whose value flows to a place of type t: the type is what is known of the value there
  abbrev pub check_value : Env → Ty → Exp → Checked TypedExp
  check_value env t e =
      then_check (check_exp uses env e) (λ v. then_check (flow below consistent v.ty t v.tree) (λ f.
      fine (record { ty = f.ty; env = v.env; tree = f.tree })))

  -- the arguments of `print`, each of which flows to `value`
  abbrev pub check_arguments : Env → Exps → Checked TypedExps
  check_arguments env tree.none = fine (record { env = env; trees = tree.none })
  check_arguments env (tree.ends m) = fault code.X1 (multi_place m)
  check_arguments env (tree.more e es) =
      then_check (check_value env ty.Value e) (λ v. then_check (check_arguments v.env es) (λ vs.
      fine (record { env = vs.env; trees = tree.push v.tree vs.trees })))

  abbrev pub check_call : Env → Multi → Checked TypedMulti
  check_call env (tree.call p f es) =
      then_check (check_callee uses f) (λ g. then_check (check_arguments env es) (λ vs.
      fine (record { env = vs.env; tree = tree.call p g vs.trees })))
  check_call env m = fault code.X1 (multi_place m)

  -- a call that stands alone
  abbrev pub check_run : Env → Pos → Exp → Checked TypedStat
  check_run env p (tree.one_of m) = then_check (check_call env m) (λ c. fine (record { env = c.env; tree = tree.run p (tree.one_of c.tree) }))
  check_run env p e = fault code.X1 (place_of e)

  -- the value of a local that begins flows to the type that is written, if one is. Else the local is declared with its general form, which
  -- has to keep within the limits of types.
  abbrev pub begun : Option Ty → Env → Exp → Checked Begun
  begun (Some t) env e =
      then_check (check_value env t e) (λ v. fine (record { local = local_with t v.ty; env = v.env; tree = v.tree }))
  begun None env e =
      then_check (check_exp uses env e) (λ v. where_ruled (is_within (general_form v.ty)) (place_of v.tree) (
      fine (record { local = local_with (general_declared v.ty) v.ty; env = v.env; tree = v.tree })))

  -- the next local begins
  abbrev pub check_local : Env → Pos → Typed → Exps → Checked TypedStat
  check_local env p n es =
      then_check (annotation n.ty) (λ t. then_check (one_value p es) (λ e. then_check (begun t env e) (λ b.
      fine (record { env = b.env ++ b.local ∷ []; tree = tree.declare p (n ∷ []) (alone b.tree) }))))

  -- a store into the local x, by what is known of it when the value is there
  abbrev pub store_by : Option Local → ℕ → Pos → Exp → TypedExp → Checked TypedStat
  store_by None x p target v = fault code.X1 p
  store_by (Some l) x p target v =
      then_check (flow below consistent v.ty l.declared v.tree) (λ f.
      fine (record { env = slice_set v.env x (local_with l.declared f.ty); tree = tree.assign p (tree.target target tree.no_target) (alone f.tree) }))

  abbrev pub check_store : Env → Pos → Exp → Exps → Checked TypedStat
  check_store env p target es =
      then_check (target_local uses target) (λ x. then_check (one_value p es) (λ e. then_check (check_exp uses env e) (λ v.
      store_by (slice_get v.env x) x p target v)))

  abbrev pub check_stat : Env → Stat → Checked TypedStat
  check_stat env (tree.run p e) = check_run env p e
  check_stat env (tree.declare p ns es) = then_check (one_local p ns) (λ n. check_local env p n es)
  check_stat env (tree.assign p ts es) = then_check (one_target p ts) (λ t. check_store env p t es)
  check_stat env s = fault code.X1 (stat_place s)

  abbrev pub check_block : Env → Block → Checked TypedBlock
  check_block env tree.finish = fine (record { env = env; tree = tree.finish })
  check_block env (tree.returns p es) = fault code.X1 p
  check_block env (tree.next s b) =
      then_check (check_stat env s) (λ t. then_check (check_block t.env b) (λ ts.
      fine (record { env = ts.env; tree = tree.next t.tree ts.tree })))

  -- a module's marked tree. An untyped module isn't typed, and nothing in it is marked.
  abbrev pub check_module : ModuleKind → Block → Checked Block
  check_module TypedModule b = then_check (check_block [] b) (λ t. fine t.tree)
  check_module Untyped b = fine b
