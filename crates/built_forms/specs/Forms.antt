-- Which forms of module the program runs today.
use Rattle.std.specs.Prelude.{ℕ, ◌+◌, Bool, true, false, ◌&&◌, ◌||◌, nat_le, not, List, [], ◌∷◌, Option, Some, None, slice_get, bytes_eq, codes}
use Rattle.std.specs.List.{list_all}
use Rattle.tl_base.specs.declared.place.ModuleKind.{ModuleKind}
use Rattle.tl_base.specs.declared.place.ModuleKind.TheVariants as kind
use Rattle.lua_tree.specs.declared.annotation.Typed.{Typed}
use Rattle.lua_tree.specs.declared.annotation.TypeExpr.{TypeExpr, Nil, Named}
use Rattle.lua_tree.specs.declared.names.LibName.{LibName}
use Rattle.lua_tree.specs.declared.names.LibName.TheVariants as lib
use Rattle.lua_tree.specs.declared.scoped.Use.{Use}
use Rattle.lua_tree.specs.declared.scoped.Use.TheVariants as use_of
use Rattle.lua_tree.specs.declared.syntax.BinaryOperator.{BinaryOperator}
use Rattle.lua_tree.specs.declared.syntax.BinaryOperator.TheVariants as operator
use Rattle.lua_tree.specs.Tree as tree
use Rattle.lua_tree.specs.Tree.{Exp, Multi, Exps, Function, Stat, Targets, Clauses, Else, Step, Block}

abbrev pub is_print : LibName → Bool
is_print lib.Print = true
is_print n = false

-- a use of a local, or of the library's `print`
abbrev pub is_known : Use → Bool
is_known (use_of.Local n) = true
is_known (use_of.Lib n) = is_print n

-- whether a tree has no table constructor, no index, no method call and no method statement, in the functions inside it neither
abbrev mutual
  pub built_exp : Exp → Bool
  built_exp (tree.nothing p) = true
  built_exp (tree.truth p b) = true
  built_exp (tree.integer p n) = true
  built_exp (tree.text p s) = true
  built_exp (tree.function p f) = built_function f
  built_exp (tree.name p n s) = true
  built_exp (tree.paren p e) = built_exp e
  built_exp (tree.field p e n) = false
  built_exp (tree.index p e k) = false
  built_exp (tree.table p es) = false
  built_exp (tree.unary p o e) = built_exp e
  built_exp (tree.binary p o a b) = built_exp a && built_exp b
  built_exp (tree.mark k e) = built_exp e
  built_exp (tree.one_of m) = built_multi m

  pub built_multi : Multi → Bool
  built_multi (tree.vararg p) = true
  built_multi (tree.call p f es) = built_exp f && built_exps es
  built_multi (tree.method p e n es) = false
  built_multi (tree.mark_all k m) = built_multi m

  pub built_exps : Exps → Bool
  built_exps tree.none = true
  built_exps (tree.ends m) = built_multi m
  built_exps (tree.more e es) = built_exp e && built_exps es

  pub built_function : Function → Bool
  built_function (tree.function_of ps rest rs b) = built_block b

  pub built_targets : Targets → Bool
  built_targets tree.no_target = true
  built_targets (tree.target e ts) = built_exp e && built_targets ts

  pub built_clauses : Clauses → Bool
  built_clauses tree.no_clause = true
  built_clauses (tree.clause e b cs) = (built_exp e && built_block b) && built_clauses cs

  pub built_else : Else → Bool
  built_else tree.no_else = true
  built_else (tree.else_do b) = built_block b

  pub built_step : Step → Bool
  built_step tree.no_step = true
  built_step (tree.step e) = built_exp e

  pub built_stat : Stat → Bool
  built_stat (tree.empty p) = true
  built_stat (tree.assign p ts es) = built_targets ts && built_exps es
  built_stat (tree.run p e) = built_exp e
  built_stat (tree.leave p) = true
  built_stat (tree.scope p b) = built_block b
  built_stat (tree.while p e b) = built_exp e && built_block b
  built_stat (tree.repeat p b e) = built_block b && built_exp e
  built_stat (tree.choose p cs b) = built_clauses cs && built_else b
  built_stat (tree.count p n a b c d) = built_exp a && (built_exp b && (built_step c && built_block d))
  built_stat (tree.each p ns es b) = built_exps es && built_block b
  built_stat (tree.define p e f) = built_exp e && built_exp f
  built_stat (tree.define_method p e n f) = false
  built_stat (tree.declare_function p n f) = built_exp f
  built_stat (tree.declare p ns es) = built_exps es
  built_stat (tree.interface p n fs) = true
  built_stat (tree.alias p n t) = true

  pub built_block : Block → Bool
  built_block tree.finish = true
  built_block (tree.returns p es) = built_exps es
  built_block (tree.next s b) = built_stat s && built_block b

-- whether a use means a local
abbrev pub means_local : Option Use → Bool
means_local (Some (use_of.Local n)) = true
means_local u = false

-- whether a use means the library's `print`
abbrev pub means_print : Option Use → Bool
means_print (Some (use_of.Lib n)) = is_print n
means_print u = false

-- `+`, `-` and `*`
abbrev pub joins_atoms : BinaryOperator → Bool
joins_atoms operator.Add = true
joins_atoms operator.Subtract = true
joins_atoms operator.Multiply = true
joins_atoms o = false

-- atoms, joined by these operators without parentheses
abbrev pub is_chain : List Use → Exp → Bool
is_chain uses (tree.nothing p) = true
is_chain uses (tree.truth p b) = true
is_chain uses (tree.integer p n) = true
is_chain uses (tree.text p s) = true
is_chain uses (tree.name p n s) = means_local (slice_get uses n)
is_chain uses (tree.binary p o a b) = joins_atoms o && (is_chain uses a && is_chain uses b)
is_chain uses e = false

abbrev pub atom_count : Exp → ℕ
atom_count (tree.binary p o a b) = atom_count a + atom_count b
atom_count e = 1

-- a chain of 200 atoms at most
abbrev pub is_straight_value : List Use → Exp → Bool
is_straight_value uses e = is_chain uses e && nat_le (atom_count e) 200

abbrev pub are_straight_values : List Use → Exps → Bool
are_straight_values uses tree.none = true
are_straight_values uses (tree.ends m) = false
are_straight_values uses (tree.more e es) = is_straight_value uses e && are_straight_values uses es

-- one value alone
abbrev pub is_one_value : List Use → Exps → Bool
is_one_value uses (tree.more e tree.none) = is_straight_value uses e
is_one_value uses es = false

-- one value or more
abbrev pub are_arguments : List Use → Exps → Bool
are_arguments uses tree.none = false
are_arguments uses es = are_straight_values uses es

abbrev pub is_print_name : List Use → Exp → Bool
is_print_name uses (tree.name p n s) = means_print (slice_get uses n)
is_print_name uses e = false

abbrev pub is_local_name : List Use → Exp → Bool
is_local_name uses (tree.name p n s) = means_local (slice_get uses n)
is_local_name uses e = false

-- one local alone
abbrev pub is_one_local : List Use → Targets → Bool
is_one_local uses (tree.target e tree.no_target) = is_local_name uses e
is_one_local uses ts = false

abbrev pub is_print_call : List Use → Exp → Bool
is_print_call uses (tree.one_of (tree.call p f es)) = is_print_name uses f && are_arguments uses es
is_print_call uses e = false

abbrev pub is_type_name : List ℕ → Bool
is_type_name name =
    bytes_eq name (codes "boolean") || (
    bytes_eq name (codes "integer") || (
    bytes_eq name (codes "string") || (
    bytes_eq name (codes "value") || bytes_eq name (codes "any"))))

-- `nil`, or a type of one of these names; none is qualified
abbrev pub is_built_type : TypeExpr → Bool
is_built_type (Nil p) = true
is_built_type (Named p [] name) = is_type_name name
is_built_type t = false

abbrev pub is_built_annotation : Option TypeExpr → Bool
is_built_annotation None = true
is_built_annotation (Some t) = is_built_type t

-- a local that isn't named like the library's `print`
abbrev pub is_built_local : Typed → Bool
is_built_local n = not (bytes_eq n.name.text (codes "print")) && is_built_annotation n.ty

-- a `print`, the declaration of one local, or the assignment of one
abbrev pub is_straight_stat : List Use → Stat → Bool
is_straight_stat uses (tree.run p e) = is_print_call uses e
is_straight_stat uses (tree.declare p (n ∷ []) es) = is_built_local n && is_one_value uses es
is_straight_stat uses (tree.assign p ts es) = is_one_local uses ts && is_one_value uses es
is_straight_stat uses s = false

-- such statements alone, without a `return`
abbrev pub is_straight : List Use → Block → Bool
is_straight uses tree.finish = true
is_straight uses (tree.returns p es) = false
is_straight uses (tree.next s b) = is_straight_stat uses s && is_straight uses b

abbrev pub is_built : ModuleKind → List Use → Block → Bool
is_built kind.Untyped uses b = list_all is_known uses && built_block b
is_built kind.Typed uses b = is_straight uses b
