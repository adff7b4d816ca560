-- What the check answers, against the typing rules.
use Rattle.std.specs.Prelude.{◌≡◌, Bool, true, false, Ok, Err, List, [], ◌∷◌, Option, Some, None, Result}
use Rattle.tl_base.specs.declared.refusal.Failure.{Failure}
use Rattle.tl_base.specs.declared.refusal.Failure.TheVariants as failure
use Rattle.lua_tree.specs.declared.syntax.Expr.{Expr}
use Rattle.lua_tree.specs.declared.syntax.Stat as declared_stat
use Rattle.lua_tree.specs.declared.syntax.Block as declared_block
use Rattle.lua_tree.specs.View.{exp_of, exps_of, stat_of, block_of}
use Rattle.tl_types.specs.declared.types.Ty.{Ty}
use Rattle.tl_rules.specs.declared.local.Local.{Local}
use Rattle.tl_rules.specs.Checked.{Checked, fine, fault}
use Rattle.tl_rules.specs.Locals.{Env}
use Rattle.tl_rules.specs.Expressions.{TypedExp}
use Rattle.tl_rules.specs.Flow.{Flowed}
use Rattle.lua_tree.specs.declared.scoped.Scoped.{Scoped}
use Rattle.lua_tree.specs.Tree.{Exp, Block, one_of}
use Rattle.tl_rules.specs.Statements.{TypedExps, TypedStat, TypedBlock}
use Rattle.tl_rules.specs.Statements.{Begun as TheBegun}
use Rattle.tl_check.specs.declared.locals.Begun.{Begun}
use Rattle.tl_check.specs.declared.expressions.Typed.{Typed}

-- what the rules give, seen through f; or the first fault, with its code and its place; or want of memory
abbrev pub Answers : {A B : Type 0} → (A → B) → Checked B → Result A Failure → Type 0
Answers f r (Ok a) = r ≡ fine (f a)
Answers f r (Err (failure.Refused x)) = r ≡ fault x.code x.pos
Answers f r (Err failure.NoMemory) = Unit {0}

abbrev pub typed_view : Env → Typed → TypedExp
typed_view env t = record { ty = t.ty; env = env; tree = exp_of t.tree }

abbrev pub flowed_view : Typed → Flowed
flowed_view t = record { ty = t.ty; tree = exp_of t.tree }

-- the parts of a statement that leave the locals as they are
abbrev pub exps_view : Env → List Expr → TypedExps
exps_view env es = record { env = env; trees = exps_of es }

abbrev pub stat_view : Env → declared_stat.Stat → TypedStat
stat_view env s = record { env = env; tree = stat_of s }

abbrev pub block_view : Env → declared_block.Block → TypedBlock
block_view env b = record { env = env; tree = block_of b }

abbrev pub begun_view : Env → Begun → TheBegun
begun_view env b = record { local = b.local; env = env; tree = exp_of b.tree }

-- whether a list that ends with the expression ends with all its values
abbrev pub gives_many : Exp → Bool
gives_many (one_of m) = true
gives_many e = false

abbrev pub module_view : Scoped → Block
module_view s = block_of s.chunk.body

-- the element of a list that has no other
abbrev pub only : {A : Type 0} → List A → Option A
only (x ∷ []) = Some x
only xs = None

-- the type that a local is declared with
abbrev pub declared_in : Option Local → Option Ty
declared_in (Some l) = Some l.declared
declared_in None = None
