-- The map from the trees of the code to those of the definitions, form by form.
use Rattle.std.proofs.Common.{◌≡◌, sym, ap, ◌∙◌, ℕ, ℤ, Bool, List, Option, None, Some, map}
use Rattle.std.specs.Option.{option_map}
use Rattle.tl_base.specs.declared.place.Pos.{Pos}
use Rattle.tl_base.specs.declared.crossing.CrossKind.{CrossKind}
use Rattle.lua_tree.specs.declared.annotation.Name.{Name}
use Rattle.lua_tree.specs.declared.annotation.Typed.{Typed}
use Rattle.lua_tree.specs.declared.annotation.TypeExpr.{TypeExpr}
use Rattle.lua_tree.specs.declared.annotation.TypeField.{TypeField}
use Rattle.lua_tree.specs.declared.annotation.TypeResults.{TypeResults}
use Rattle.lua_tree.specs.declared.syntax.UnaryOperator.{UnaryOperator}
use Rattle.lua_tree.specs.declared.syntax.BinaryOperator.{BinaryOperator}
use Rattle.lua_tree.specs.declared.syntax.Rest.{Rest}
use Rattle.lua_tree.specs.declared.syntax.Body.{Body}
use Rattle.lua_tree.specs.declared.syntax.Clause.{Clause}
use Rattle.lua_tree.specs.declared.syntax.Return.{Return}
use Rattle.lua_tree.specs.declared.syntax.Stat as declared_stat
use Rattle.lua_tree.specs.declared.syntax.Block as declared_block
use Rattle.lua_tree.specs.declared.syntax.Entry.{Entry}
use Rattle.lua_tree.specs.declared.syntax.Entry.TheVariants as entry
use Rattle.lua_tree.specs.declared.syntax.Entry.TheOpen as open_tree
use Rattle.lua_tree.specs.declared.syntax.Entry.TheOpen.{Entry-F, Expr-F, Stat-F, Block-F, Body-F, Clause-F, Return-F}
use Rattle.lua_tree.specs.declared.syntax.Entry.TheViews.{roll-Block, roll-Body, roll-Clause, roll-Return}
use Rattle.lua_tree.specs.declared.syntax.Entry.TheFolds.{fold-roll-Entry, fold-roll-Expr, fold-roll-Stat, fold-roll-Block, fold-roll-Body, fold-roll-Clause, fold-roll-Return}
use Rattle.lua_tree.specs.declared.syntax.Expr.{Expr}
use Rattle.lua_tree.specs.declared.syntax.Expr.TheVariants as e
use Rattle.lua_tree.specs.declared.syntax.Stat.TheVariants as s
use Rattle.lua_tree.specs.Tree as tree
use Rattle.lua_tree.specs.Tree.{Exp, Stat, Block, Function}
use Rattle.lua_tree.specs.View.{SeenEntry, SeenReturn, SeenClause, item, named, keyed, else_from, step_from, end_from, block_from, exps_from, entries_from, targets_from, clauses_from, entry_at, expr_at, stat_at, block_at, body_at, clause_at, return_at, exp_of, exps_of, targets_of, entry_of, entries_of, stat_of, block_of, function_of, clause_of, clauses_of, return_of}

pub exp_of-Nil : (p : Pos) → exp_of (e.Nil p) ≡ tree.nothing p
exp_of-Nil p = ap exp_of (sym (e.rolls-Nil p)) ∙ fold-roll-Expr SeenEntry Exp Stat Block Function SeenClause SeenReturn entry_at expr_at stat_at block_at body_at clause_at return_at (open_tree.Nil p)

pub exp_of-Bool : (p : Pos) (b : Bool) → exp_of (e.Bool p b) ≡ tree.truth p b
exp_of-Bool p b = ap exp_of (sym (e.rolls-Bool p b)) ∙ fold-roll-Expr SeenEntry Exp Stat Block Function SeenClause SeenReturn entry_at expr_at stat_at block_at body_at clause_at return_at (open_tree.Bool p b)

pub exp_of-Int : (p : Pos) (n : ℤ) → exp_of (e.Int p n) ≡ tree.integer p n
exp_of-Int p n = ap exp_of (sym (e.rolls-Int p n)) ∙ fold-roll-Expr SeenEntry Exp Stat Block Function SeenClause SeenReturn entry_at expr_at stat_at block_at body_at clause_at return_at (open_tree.Int p n)

pub exp_of-Str : (p : Pos) (t : List ℕ) → exp_of (e.Str p t) ≡ tree.text p t
exp_of-Str p t = ap exp_of (sym (e.rolls-Str p t)) ∙ fold-roll-Expr SeenEntry Exp Stat Block Function SeenClause SeenReturn entry_at expr_at stat_at block_at body_at clause_at return_at (open_tree.Str p t)

pub exp_of-Vararg : (p : Pos) → exp_of (e.Vararg p) ≡ tree.one_of (tree.vararg p)
exp_of-Vararg p = ap exp_of (sym (e.rolls-Vararg p)) ∙ fold-roll-Expr SeenEntry Exp Stat Block Function SeenClause SeenReturn entry_at expr_at stat_at block_at body_at clause_at return_at (open_tree.Vararg p)

pub exp_of-Function : (p : Pos) (b : Body) → exp_of (e.Function p b) ≡ tree.function p (function_of b)
exp_of-Function p b = ap exp_of (sym (e.rolls-Function p b)) ∙ fold-roll-Expr SeenEntry Exp Stat Block Function SeenClause SeenReturn entry_at expr_at stat_at block_at body_at clause_at return_at (open_tree.«Expr::Function» p b)

pub exp_of-Name : (p : Pos) (n : ℕ) (t : List ℕ) → exp_of (e.Name p n t) ≡ tree.name p n t
exp_of-Name p n t = ap exp_of (sym (e.rolls-Name p n t)) ∙ fold-roll-Expr SeenEntry Exp Stat Block Function SeenClause SeenReturn entry_at expr_at stat_at block_at body_at clause_at return_at (open_tree.Name p n t)

pub exp_of-Paren : (p : Pos) (a : Expr) → exp_of (e.Paren p a) ≡ tree.paren p (exp_of a)
exp_of-Paren p a = ap exp_of (sym (e.rolls-Paren p a)) ∙ fold-roll-Expr SeenEntry Exp Stat Block Function SeenClause SeenReturn entry_at expr_at stat_at block_at body_at clause_at return_at (open_tree.Paren p a)

pub exp_of-Field : (p : Pos) (a : Expr) (n : Name) → exp_of (e.Field p a n) ≡ tree.field p (exp_of a) n
exp_of-Field p a n = ap exp_of (sym (e.rolls-Field p a n)) ∙ fold-roll-Expr SeenEntry Exp Stat Block Function SeenClause SeenReturn entry_at expr_at stat_at block_at body_at clause_at return_at (open_tree.Field p a n)

pub exp_of-Index : (p : Pos) (a k : Expr) → exp_of (e.Index p a k) ≡ tree.index p (exp_of a) (exp_of k)
exp_of-Index p a k = ap exp_of (sym (e.rolls-Index p a k)) ∙ fold-roll-Expr SeenEntry Exp Stat Block Function SeenClause SeenReturn entry_at expr_at stat_at block_at body_at clause_at return_at (open_tree.Index p a k)

pub exp_of-Call : (p : Pos) (f : Expr) (es : List Expr) → exp_of (e.Call p f es) ≡ tree.one_of (tree.call p (exp_of f) (exps_of es))
exp_of-Call p f es = ap exp_of (sym (e.rolls-Call p f es)) ∙ fold-roll-Expr SeenEntry Exp Stat Block Function SeenClause SeenReturn entry_at expr_at stat_at block_at body_at clause_at return_at (open_tree.«Expr::Call» p f es)

pub exp_of-Method : (p : Pos) (a : Expr) (n : Name) (es : List Expr) → exp_of (e.Method p a n es) ≡ tree.one_of (tree.method p (exp_of a) n (exps_of es))
exp_of-Method p a n es = ap exp_of (sym (e.rolls-Method p a n es)) ∙ fold-roll-Expr SeenEntry Exp Stat Block Function SeenClause SeenReturn entry_at expr_at stat_at block_at body_at clause_at return_at (open_tree.«Expr::Method» p a n es)

pub exp_of-Table : (p : Pos) (es : List Entry) → exp_of (e.Table p es) ≡ tree.table p (entries_of es)
exp_of-Table p es = ap exp_of (sym (e.rolls-Table p es)) ∙ fold-roll-Expr SeenEntry Exp Stat Block Function SeenClause SeenReturn entry_at expr_at stat_at block_at body_at clause_at return_at (open_tree.Table p es)

pub exp_of-Unary : (p : Pos) (o : UnaryOperator) (a : Expr) → exp_of (e.Unary p o a) ≡ tree.unary p o (exp_of a)
exp_of-Unary p o a = ap exp_of (sym (e.rolls-Unary p o a)) ∙ fold-roll-Expr SeenEntry Exp Stat Block Function SeenClause SeenReturn entry_at expr_at stat_at block_at body_at clause_at return_at (open_tree.Unary p o a)

pub exp_of-Binary : (p : Pos) (o : BinaryOperator) (a b : Expr) → exp_of (e.Binary p o a b) ≡ tree.binary p o (exp_of a) (exp_of b)
exp_of-Binary p o a b = ap exp_of (sym (e.rolls-Binary p o a b)) ∙ fold-roll-Expr SeenEntry Exp Stat Block Function SeenClause SeenReturn entry_at expr_at stat_at block_at body_at clause_at return_at (open_tree.Binary p o a b)

pub exp_of-Mark : (k : CrossKind) (a : Expr) → exp_of (e.Mark k a) ≡ tree.marked k (exp_of a)
exp_of-Mark k a = ap exp_of (sym (e.rolls-Mark k a)) ∙ fold-roll-Expr SeenEntry Exp Stat Block Function SeenClause SeenReturn entry_at expr_at stat_at block_at body_at clause_at return_at (open_tree.Mark k a)

pub entry_of-Keyed : (k a : Expr) → entry_of (entry.Keyed k a) ≡ keyed (exp_of k) (exp_of a)
entry_of-Keyed k a = ap entry_of (sym (entry.rolls-Keyed k a)) ∙ fold-roll-Entry SeenEntry Exp Stat Block Function SeenClause SeenReturn entry_at expr_at stat_at block_at body_at clause_at return_at (open_tree.Keyed k a)

pub entry_of-Named : (n : Name) (a : Expr) → entry_of (entry.Named n a) ≡ named n (exp_of a)
entry_of-Named n a = ap entry_of (sym (entry.rolls-Named n a)) ∙ fold-roll-Entry SeenEntry Exp Stat Block Function SeenClause SeenReturn entry_at expr_at stat_at block_at body_at clause_at return_at (open_tree.Named n a)

pub entry_of-Item : (a : Expr) → entry_of (entry.Item a) ≡ item (exp_of a)
entry_of-Item a = ap entry_of (sym (entry.rolls-Item a)) ∙ fold-roll-Entry SeenEntry Exp Stat Block Function SeenClause SeenReturn entry_at expr_at stat_at block_at body_at clause_at return_at (open_tree.Item a)

pub stat_of-Empty : (p : Pos) → stat_of (s.Empty p) ≡ tree.empty p
stat_of-Empty p = ap stat_of (sym (s.rolls-Empty p)) ∙ fold-roll-Stat SeenEntry Exp Stat Block Function SeenClause SeenReturn entry_at expr_at stat_at block_at body_at clause_at return_at (open_tree.Empty p)

pub stat_of-Assign : (p : Pos) (ts es : List Expr) → stat_of (s.Assign p ts es) ≡ tree.assign p (targets_of ts) (exps_of es)
stat_of-Assign p ts es = ap stat_of (sym (s.rolls-Assign p ts es)) ∙ fold-roll-Stat SeenEntry Exp Stat Block Function SeenClause SeenReturn entry_at expr_at stat_at block_at body_at clause_at return_at (open_tree.Assign p ts es)

pub stat_of-Call : (p : Pos) (a : Expr) → stat_of (s.Call p a) ≡ tree.run p (exp_of a)
stat_of-Call p a = ap stat_of (sym (s.rolls-Call p a)) ∙ fold-roll-Stat SeenEntry Exp Stat Block Function SeenClause SeenReturn entry_at expr_at stat_at block_at body_at clause_at return_at (open_tree.«Stat::Call» p a)

pub stat_of-Break : (p : Pos) → stat_of (s.Break p) ≡ tree.leave p
stat_of-Break p = ap stat_of (sym (s.rolls-Break p)) ∙ fold-roll-Stat SeenEntry Exp Stat Block Function SeenClause SeenReturn entry_at expr_at stat_at block_at body_at clause_at return_at (open_tree.Break p)

pub stat_of-Do : (p : Pos) (b : declared_block.Block) → stat_of (s.Do p b) ≡ tree.scope p (block_of b)
stat_of-Do p b = ap stat_of (sym (s.rolls-Do p b)) ∙ fold-roll-Stat SeenEntry Exp Stat Block Function SeenClause SeenReturn entry_at expr_at stat_at block_at body_at clause_at return_at (open_tree.Do p b)

pub stat_of-While : (p : Pos) (a : Expr) (b : declared_block.Block) → stat_of (s.While p a b) ≡ tree.while p (exp_of a) (block_of b)
stat_of-While p a b = ap stat_of (sym (s.rolls-While p a b)) ∙ fold-roll-Stat SeenEntry Exp Stat Block Function SeenClause SeenReturn entry_at expr_at stat_at block_at body_at clause_at return_at (open_tree.While p a b)

pub stat_of-Repeat : (p : Pos) (b : declared_block.Block) (a : Expr) → stat_of (s.Repeat p b a) ≡ tree.repeat p (block_of b) (exp_of a)
stat_of-Repeat p b a = ap stat_of (sym (s.rolls-Repeat p b a)) ∙ fold-roll-Stat SeenEntry Exp Stat Block Function SeenClause SeenReturn entry_at expr_at stat_at block_at body_at clause_at return_at (open_tree.Repeat p b a)

pub stat_of-If : (p : Pos) (cs : List Clause) (b : Option declared_block.Block) → stat_of (s.If p cs b) ≡ tree.choose p (clauses_of cs) (else_from (option_map block_of b))
stat_of-If p cs None = ap stat_of (sym (s.rolls-If p cs None)) ∙ fold-roll-Stat SeenEntry Exp Stat Block Function SeenClause SeenReturn entry_at expr_at stat_at block_at body_at clause_at return_at (open_tree.If p cs None)
stat_of-If p cs (Some x) = ap stat_of (sym (s.rolls-If p cs (Some x))) ∙ fold-roll-Stat SeenEntry Exp Stat Block Function SeenClause SeenReturn entry_at expr_at stat_at block_at body_at clause_at return_at (open_tree.If p cs (Some x))

pub stat_of-NumericFor : (p : Pos) (n : Name) (a b : Expr) (c : Option Expr) (d : declared_block.Block) → stat_of (s.NumericFor p n a b c d) ≡ tree.count p n (exp_of a) (exp_of b) (step_from (option_map exp_of c)) (block_of d)
stat_of-NumericFor p n a b None d = ap stat_of (sym (s.rolls-NumericFor p n a b None d)) ∙ fold-roll-Stat SeenEntry Exp Stat Block Function SeenClause SeenReturn entry_at expr_at stat_at block_at body_at clause_at return_at (open_tree.NumericFor p n a b None d)
stat_of-NumericFor p n a b (Some x) d = ap stat_of (sym (s.rolls-NumericFor p n a b (Some x) d)) ∙ fold-roll-Stat SeenEntry Exp Stat Block Function SeenClause SeenReturn entry_at expr_at stat_at block_at body_at clause_at return_at (open_tree.NumericFor p n a b (Some x) d)

pub stat_of-GenericFor : (p : Pos) (ns : List Name) (es : List Expr) (b : declared_block.Block) → stat_of (s.GenericFor p ns es b) ≡ tree.each p ns (exps_of es) (block_of b)
stat_of-GenericFor p ns es b = ap stat_of (sym (s.rolls-GenericFor p ns es b)) ∙ fold-roll-Stat SeenEntry Exp Stat Block Function SeenClause SeenReturn entry_at expr_at stat_at block_at body_at clause_at return_at (open_tree.GenericFor p ns es b)

pub stat_of-Function : (p : Pos) (a f : Expr) → stat_of (s.Function p a f) ≡ tree.define p (exp_of a) (exp_of f)
stat_of-Function p a f = ap stat_of (sym (s.rolls-Function p a f)) ∙ fold-roll-Stat SeenEntry Exp Stat Block Function SeenClause SeenReturn entry_at expr_at stat_at block_at body_at clause_at return_at (open_tree.«Stat::Function» p a f)

pub stat_of-Method : (p : Pos) (a : Expr) (n : Name) (f : Expr) → stat_of (s.Method p a n f) ≡ tree.define_method p (exp_of a) n (exp_of f)
stat_of-Method p a n f = ap stat_of (sym (s.rolls-Method p a n f)) ∙ fold-roll-Stat SeenEntry Exp Stat Block Function SeenClause SeenReturn entry_at expr_at stat_at block_at body_at clause_at return_at (open_tree.«Stat::Method» p a n f)

pub stat_of-LocalFunction : (p : Pos) (n : Name) (f : Expr) → stat_of (s.LocalFunction p n f) ≡ tree.declare_function p n (exp_of f)
stat_of-LocalFunction p n f = ap stat_of (sym (s.rolls-LocalFunction p n f)) ∙ fold-roll-Stat SeenEntry Exp Stat Block Function SeenClause SeenReturn entry_at expr_at stat_at block_at body_at clause_at return_at (open_tree.LocalFunction p n f)

pub stat_of-Local : (p : Pos) (ns : List Typed) (es : List Expr) → stat_of (s.Local p ns es) ≡ tree.declare p ns (exps_of es)
stat_of-Local p ns es = ap stat_of (sym (s.rolls-Local p ns es)) ∙ fold-roll-Stat SeenEntry Exp Stat Block Function SeenClause SeenReturn entry_at expr_at stat_at block_at body_at clause_at return_at (open_tree.Local p ns es)

pub stat_of-Interface : (p : Pos) (n : Name) (fs : List TypeField) → stat_of (s.Interface p n fs) ≡ tree.interface p n fs
stat_of-Interface p n fs = ap stat_of (sym (s.rolls-Interface p n fs)) ∙ fold-roll-Stat SeenEntry Exp Stat Block Function SeenClause SeenReturn entry_at expr_at stat_at block_at body_at clause_at return_at (open_tree.Interface p n fs)

pub stat_of-Alias : (p : Pos) (n : Name) (t : TypeExpr) → stat_of (s.Alias p n t) ≡ tree.alias p n t
stat_of-Alias p n t = ap stat_of (sym (s.rolls-Alias p n t)) ∙ fold-roll-Stat SeenEntry Exp Stat Block Function SeenClause SeenReturn entry_at expr_at stat_at block_at body_at clause_at return_at (open_tree.Alias p n t)

pub block_of-roll : (ss : List declared_stat.Stat) (r : Option Return) → block_of (roll-Block (record { stats = ss; result = r })) ≡ block_from (map stat_of ss) (option_map return_of r)
block_of-roll ss None = fold-roll-Block SeenEntry Exp Stat Block Function SeenClause SeenReturn entry_at expr_at stat_at block_at body_at clause_at return_at (record { stats = ss; result = None })
block_of-roll ss (Some r) = fold-roll-Block SeenEntry Exp Stat Block Function SeenClause SeenReturn entry_at expr_at stat_at block_at body_at clause_at return_at (record { stats = ss; result = Some r })

pub return_of-roll : (p : Pos) (es : List Expr) → return_of (roll-Return (record { pos = p; values = es })) ≡ record { place = p; values = exps_of es }
return_of-roll p es = fold-roll-Return SeenEntry Exp Stat Block Function SeenClause SeenReturn entry_at expr_at stat_at block_at body_at clause_at return_at (record { pos = p; values = es })

pub clause_of-roll : (a : Expr) (b : declared_block.Block) → clause_of (roll-Clause (record { condition = a; block = b })) ≡ record { condition = exp_of a; body = block_of b }
clause_of-roll a b = fold-roll-Clause SeenEntry Exp Stat Block Function SeenClause SeenReturn entry_at expr_at stat_at block_at body_at clause_at return_at (record { condition = a; block = b })

pub function_of-roll : (ps : List Typed) (rest : Option Rest) (rs : Option TypeResults) (b : declared_block.Block) → function_of (roll-Body (record { params = ps; rest = rest; results = rs; block = b })) ≡ tree.function_of ps rest rs (block_of b)
function_of-roll ps rest rs b = fold-roll-Body SeenEntry Exp Stat Block Function SeenClause SeenReturn entry_at expr_at stat_at block_at body_at clause_at return_at (record { params = ps; rest = rest; results = rs; block = b })
