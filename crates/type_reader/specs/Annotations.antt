-- The annotations of a module, in order of place.
use Rattle.std.specs.Prelude.{List, [], ◌∷◌, ◌++◌, Option, Some, None}
use Rattle.std.specs.Option.{option_map_or}
use Rattle.std.specs.List.{flat_map}
use Rattle.tl_base.specs.declared.place.Pos.{Pos}
use Rattle.lua_tree.specs.declared.annotation.Name.{Name}
use Rattle.lua_tree.specs.declared.annotation.Typed.{Typed}
use Rattle.lua_tree.specs.declared.annotation.TypeExpr.{TypeExpr}
use Rattle.lua_tree.specs.declared.annotation.TypeField.{TypeField}
use Rattle.lua_tree.specs.declared.annotation.TypeResults.{TypeResults}
use Rattle.lua_tree.specs.declared.syntax.Rest.{Rest}
use Rattle.lua_tree.specs.declared.syntax.Entry.{Entry, fold-Entry}
use Rattle.lua_tree.specs.declared.syntax.Entry.TheOpen as open_tree
use Rattle.lua_tree.specs.declared.syntax.Entry.TheOpen.{Entry-F, Stat-F, Block-F, Body-F, Clause-F, Return-F}
use Rattle.lua_tree.specs.declared.syntax.Expr.{Expr, Expr-F, fold-Expr}
use Rattle.lua_tree.specs.declared.syntax.Stat.{Stat, fold-Stat}
use Rattle.lua_tree.specs.declared.syntax.Block.{Block, fold-Block}
use Rattle.lua_tree.specs.declared.syntax.Body.{Body, fold-Body}
use Rattle.lua_tree.specs.declared.syntax.Clause.{Clause, fold-Clause}
use Rattle.lua_tree.specs.declared.syntax.Return.{Return, fold-Return}

pub data Annotation : Type 0 where
  -- the type behind a name or behind `...`
  of_type : TypeExpr → Annotation
  -- the results of a body
  of_results : TypeResults → Annotation
  -- an interface statement: its place, its name and its fields
  interface : Pos → Name → List TypeField → Annotation
  -- an alias statement: its place, its name and its type
  alias : Pos → Name → TypeExpr → Annotation

abbrev pub Annotations : Type 0
Annotations = List Annotation

abbrev pub optional_type : Option TypeExpr → Annotations
optional_type None = []
optional_type (Some t) = of_type t ∷ []

abbrev pub optional_results : Option TypeResults → Annotations
optional_results None = []
optional_results (Some r) = of_results r ∷ []

abbrev pub typed : List Typed → Annotations
typed ns = flat_map (λ n. optional_type n.ty) ns

abbrev pub rest_type : Option Rest → Annotations
rest_type None = []
rest_type (Some r) = optional_type r.ty

abbrev pub all : List Annotations → Annotations
all xs = flat_map (λ x. x) xs

abbrev pub optional : Option Annotations → Annotations
optional x = option_map_or (λ y. y) x []

abbrev pub expr_at : Expr-F Annotations Annotations Annotations Annotations Annotations Annotations Annotations → Annotations
expr_at (open_tree.Nil p) = []
expr_at (open_tree.Bool p b) = []
expr_at (open_tree.Int p n) = []
expr_at (open_tree.Str p s) = []
expr_at (open_tree.Vararg p) = []
expr_at (open_tree.«Expr::Function» p f) = f
expr_at (open_tree.Name p n s) = []
expr_at (open_tree.Paren p e) = e
expr_at (open_tree.Field p e n) = e
expr_at (open_tree.Index p e k) = e ++ k
expr_at (open_tree.«Expr::Call» p f es) = f ++ all es
expr_at (open_tree.«Expr::Method» p e n es) = e ++ all es
expr_at (open_tree.Table p es) = all es
expr_at (open_tree.Unary p o e) = e
expr_at (open_tree.Binary p o a b) = a ++ b
expr_at (open_tree.Mark k e) = e

abbrev pub entry_at : Entry-F Annotations Annotations Annotations Annotations Annotations Annotations Annotations → Annotations
entry_at (open_tree.Keyed k e) = k ++ e
entry_at (open_tree.Named n e) = e
entry_at (open_tree.Item e) = e

abbrev pub stat_at : Stat-F Annotations Annotations Annotations Annotations Annotations Annotations Annotations → Annotations
stat_at (open_tree.Empty p) = []
stat_at (open_tree.Assign p ts es) = all ts ++ all es
stat_at (open_tree.«Stat::Call» p e) = e
stat_at (open_tree.Break p) = []
stat_at (open_tree.Do p b) = b
stat_at (open_tree.While p e b) = e ++ b
stat_at (open_tree.Repeat p b e) = b ++ e
stat_at (open_tree.If p cs b) = all cs ++ optional b
stat_at (open_tree.NumericFor p n a b c d) = a ++ b ++ optional c ++ d
stat_at (open_tree.GenericFor p ns es b) = all es ++ b
stat_at (open_tree.«Stat::Function» p e f) = e ++ f
stat_at (open_tree.«Stat::Method» p e n f) = e ++ f
stat_at (open_tree.LocalFunction p n f) = f
stat_at (open_tree.Local p ns es) = typed ns ++ all es
stat_at (open_tree.Interface p n fs) = interface p n fs ∷ []
stat_at (open_tree.Alias p n t) = alias p n t ∷ []

abbrev pub return_at : Return-F Annotations Annotations Annotations Annotations Annotations Annotations Annotations → Annotations
return_at r = all r.values

abbrev pub block_at : Block-F Annotations Annotations Annotations Annotations Annotations Annotations Annotations → Annotations
block_at b = all b.stats ++ optional b.result

abbrev pub body_at : Body-F Annotations Annotations Annotations Annotations Annotations Annotations Annotations → Annotations
body_at b = typed b.params ++ rest_type b.rest ++ optional_results b.results ++ b.block

abbrev pub clause_at : Clause-F Annotations Annotations Annotations Annotations Annotations Annotations Annotations → Annotations
clause_at c = c.condition ++ c.block

abbrev pub expr_of : Expr → Annotations
expr_of = fold-Expr Annotations Annotations Annotations Annotations Annotations Annotations Annotations entry_at expr_at stat_at block_at body_at clause_at return_at

abbrev pub entry_of : Entry → Annotations
entry_of = fold-Entry Annotations Annotations Annotations Annotations Annotations Annotations Annotations entry_at expr_at stat_at block_at body_at clause_at return_at

abbrev pub stat_of : Stat → Annotations
stat_of = fold-Stat Annotations Annotations Annotations Annotations Annotations Annotations Annotations entry_at expr_at stat_at block_at body_at clause_at return_at

abbrev pub block_of : Block → Annotations
block_of = fold-Block Annotations Annotations Annotations Annotations Annotations Annotations Annotations entry_at expr_at stat_at block_at body_at clause_at return_at

abbrev pub body_of : Body → Annotations
body_of = fold-Body Annotations Annotations Annotations Annotations Annotations Annotations Annotations entry_at expr_at stat_at block_at body_at clause_at return_at

abbrev pub clause_of : Clause → Annotations
clause_of = fold-Clause Annotations Annotations Annotations Annotations Annotations Annotations Annotations entry_at expr_at stat_at block_at body_at clause_at return_at

abbrev pub return_of : Return → Annotations
return_of = fold-Return Annotations Annotations Annotations Annotations Annotations Annotations Annotations entry_at expr_at stat_at block_at body_at clause_at return_at
