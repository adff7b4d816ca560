-- The map from the trees of the code to those of the definitions (Lua 5.3 manual, section 9, for the forms).
use Rattle.std.specs.Prelude.{List, [], ◌∷◌, Option, Some, None, map}
use Rattle.tl_base.specs.declared.place.Pos.{Pos}
use Rattle.tl_base.specs.declared.crossing.CrossKind.{CrossKind}
use Rattle.lua_tree.specs.declared.annotation.Name.{Name}
use Rattle.lua_tree.specs.declared.syntax.Entry.{Entry, fold-Entry}
use Rattle.lua_tree.specs.declared.syntax.Entry.TheOpen as open_tree
use Rattle.lua_tree.specs.declared.syntax.Entry.TheOpen.{Entry-F, Stat-F, Block-F, Body-F, Clause-F, Return-F}
use Rattle.lua_tree.specs.declared.syntax.Expr.{Expr, Expr-F, fold-Expr}
use Rattle.lua_tree.specs.declared.syntax.Stat as declared_stat
use Rattle.lua_tree.specs.declared.syntax.Stat.{fold-Stat}
use Rattle.lua_tree.specs.declared.syntax.Block as declared_block
use Rattle.lua_tree.specs.declared.syntax.Block.{fold-Block}
use Rattle.lua_tree.specs.declared.syntax.Body.{Body, fold-Body}
use Rattle.lua_tree.specs.declared.syntax.Clause.{Clause, fold-Clause}
use Rattle.lua_tree.specs.declared.syntax.Return.{Return, fold-Return}
use Rattle.lua_tree.specs.Tree as tree
use Rattle.lua_tree.specs.Tree.{Exp, Exps, Entries, Function, Stat, Targets, Clauses, Else, Step, Block}

pub data SeenEntry : Type 0 where
  item : Exp → SeenEntry
  named : Name → Exp → SeenEntry
  keyed : Exp → Exp → SeenEntry

pub record SeenReturn : Type 0 where
  pub place : Pos
  pub values : Exps

pub record SeenClause : Type 0 where
  pub condition : Exp
  pub body : Block

abbrev pub exps_from : List Exp → Exps
exps_from [] = tree.none
exps_from (e ∷ es) = tree.push e (exps_from es)

abbrev pub entries_from : List SeenEntry → Entries
entries_from [] = tree.no_entry
entries_from (item e ∷ es) = tree.push_item e (entries_from es)
entries_from (named n e ∷ es) = tree.named n e (entries_from es)
entries_from (keyed k e ∷ es) = tree.keyed k e (entries_from es)

abbrev pub targets_from : List Exp → Targets
targets_from [] = tree.no_target
targets_from (e ∷ es) = tree.target e (targets_from es)

abbrev pub clauses_from : List SeenClause → Clauses
clauses_from [] = tree.no_clause
clauses_from (c ∷ cs) = tree.clause c.condition c.body (clauses_from cs)

abbrev pub else_from : Option Block → Else
else_from None = tree.no_else
else_from (Some b) = tree.else_do b

abbrev pub step_from : Option Exp → Step
step_from None = tree.no_step
step_from (Some e) = tree.step e

abbrev pub end_from : Option SeenReturn → Block
end_from None = tree.finish
end_from (Some r) = tree.returns r.place r.values

abbrev pub block_from : List Stat → Option SeenReturn → Block
block_from [] r = end_from r
block_from (s ∷ ss) r = tree.next s (block_from ss r)

abbrev pub entry_at : Entry-F SeenEntry Exp Stat Block Function SeenClause SeenReturn → SeenEntry
entry_at (open_tree.Keyed k e) = keyed k e
entry_at (open_tree.Named n e) = named n e
entry_at (open_tree.Item e) = item e

abbrev pub expr_at : Expr-F SeenEntry Exp Stat Block Function SeenClause SeenReturn → Exp
expr_at (open_tree.Nil p) = tree.nothing p
expr_at (open_tree.Bool p b) = tree.truth p b
expr_at (open_tree.Int p n) = tree.integer p n
expr_at (open_tree.Str p s) = tree.text p s
expr_at (open_tree.Vararg p) = tree.one_of (tree.vararg p)
expr_at (open_tree.«Expr::Function» p f) = tree.function p f
expr_at (open_tree.Name p n s) = tree.name p n s
expr_at (open_tree.Paren p e) = tree.paren p e
expr_at (open_tree.Field p e n) = tree.field p e n
expr_at (open_tree.Index p e k) = tree.index p e k
expr_at (open_tree.«Expr::Call» p f es) = tree.one_of (tree.call p f (exps_from es))
expr_at (open_tree.«Expr::Method» p e n es) = tree.one_of (tree.method p e n (exps_from es))
expr_at (open_tree.Table p es) = tree.table p (entries_from es)
expr_at (open_tree.Unary p o e) = tree.unary p o e
expr_at (open_tree.Binary p o a b) = tree.binary p o a b
expr_at (open_tree.Mark k e) = tree.marked k e

abbrev pub stat_at : Stat-F SeenEntry Exp Stat Block Function SeenClause SeenReturn → Stat
stat_at (open_tree.Empty p) = tree.empty p
stat_at (open_tree.Assign p ts es) = tree.assign p (targets_from ts) (exps_from es)
stat_at (open_tree.«Stat::Call» p e) = tree.run p e
stat_at (open_tree.Break p) = tree.leave p
stat_at (open_tree.Do p b) = tree.scope p b
stat_at (open_tree.While p e b) = tree.while p e b
stat_at (open_tree.Repeat p b e) = tree.repeat p b e
stat_at (open_tree.If p cs b) = tree.choose p (clauses_from cs) (else_from b)
stat_at (open_tree.NumericFor p n a b c d) = tree.count p n a b (step_from c) d
stat_at (open_tree.GenericFor p ns es b) = tree.each p ns (exps_from es) b
stat_at (open_tree.«Stat::Function» p e f) = tree.define p e f
stat_at (open_tree.«Stat::Method» p e n f) = tree.define_method p e n f
stat_at (open_tree.LocalFunction p n f) = tree.declare_function p n f
stat_at (open_tree.Local p ns es) = tree.declare p ns (exps_from es)
stat_at (open_tree.Interface p n fs) = tree.interface p n fs
stat_at (open_tree.Alias p n t) = tree.alias p n t

abbrev pub block_at : Block-F SeenEntry Exp Stat Block Function SeenClause SeenReturn → Block
block_at b = block_from b.stats b.result

abbrev pub body_at : Body-F SeenEntry Exp Stat Block Function SeenClause SeenReturn → Function
body_at b = tree.function_of b.params b.rest b.results b.block

abbrev pub clause_at : Clause-F SeenEntry Exp Stat Block Function SeenClause SeenReturn → SeenClause
clause_at c = record { condition = c.condition; body = c.block }

abbrev pub return_at : Return-F SeenEntry Exp Stat Block Function SeenClause SeenReturn → SeenReturn
return_at r = record { place = r.pos; values = exps_from r.values }

abbrev pub exp_of : Expr → Exp
exp_of = fold-Expr SeenEntry Exp Stat Block Function SeenClause SeenReturn entry_at expr_at stat_at block_at body_at clause_at return_at

abbrev pub exps_of : List Expr → Exps
exps_of es = exps_from (map exp_of es)

abbrev pub entry_of : Entry → SeenEntry
entry_of = fold-Entry SeenEntry Exp Stat Block Function SeenClause SeenReturn entry_at expr_at stat_at block_at body_at clause_at return_at

abbrev pub entries_of : List Entry → Entries
entries_of es = entries_from (map entry_of es)

abbrev pub stat_of : declared_stat.Stat → Stat
stat_of = fold-Stat SeenEntry Exp Stat Block Function SeenClause SeenReturn entry_at expr_at stat_at block_at body_at clause_at return_at

abbrev pub block_of : declared_block.Block → Block
block_of = fold-Block SeenEntry Exp Stat Block Function SeenClause SeenReturn entry_at expr_at stat_at block_at body_at clause_at return_at

abbrev pub function_of : Body → Function
function_of = fold-Body SeenEntry Exp Stat Block Function SeenClause SeenReturn entry_at expr_at stat_at block_at body_at clause_at return_at

abbrev pub clause_of : Clause → SeenClause
clause_of = fold-Clause SeenEntry Exp Stat Block Function SeenClause SeenReturn entry_at expr_at stat_at block_at body_at clause_at return_at

abbrev pub return_of : Return → SeenReturn
return_of = fold-Return SeenEntry Exp Stat Block Function SeenClause SeenReturn entry_at expr_at stat_at block_at body_at clause_at return_at

abbrev pub targets_of : List Expr → Targets
targets_of ts = targets_from (map exp_of ts)

abbrev pub clauses_of : List Clause → Clauses
clauses_of cs = clauses_from (map clause_of cs)
