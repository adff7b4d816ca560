-- The parts of a tree, form by form.
use Rattle.std.proofs.Common.{◌≡◌, sym, ap, ◌∙◌, ℕ, ℤ, Bool, List, [], ◌∷◌, ◌++◌, Option, None, Some, map}
use Rattle.std.specs.Option.{option_map}
use Rattle.tl_base.specs.declared.place.Pos.{Pos}
use Rattle.lua_tree.specs.declared.annotation.Name.{Name}
use Rattle.lua_tree.specs.declared.annotation.Typed.{Typed}
use Rattle.lua_tree.specs.declared.annotation.TypeExpr.{TypeExpr}
use Rattle.lua_tree.specs.declared.annotation.TypeField.{TypeField}
use Rattle.lua_tree.specs.declared.annotation.TypeResults.{TypeResults}
use Rattle.lua_tree.specs.declared.syntax.UnaryOperator.{UnaryOperator}
use Rattle.lua_tree.specs.declared.syntax.BinaryOperator.{BinaryOperator}
use Rattle.lua_tree.specs.declared.syntax.Rest.{Rest}
use Rattle.lua_tree.specs.declared.syntax.Body.{Body}
use Rattle.lua_tree.specs.declared.syntax.Clause.{Clause}
use Rattle.lua_tree.specs.declared.syntax.Return.{Return}
use Rattle.lua_tree.specs.declared.syntax.Block.{Block}
use Rattle.lua_tree.specs.declared.syntax.Stat.{Stat}
use Rattle.lua_tree.specs.declared.syntax.Stat.TheVariants as stat
use Rattle.lua_tree.specs.declared.syntax.Entry.{Entry}
use Rattle.lua_tree.specs.declared.syntax.Entry.TheVariants as entry
use Rattle.lua_tree.specs.declared.syntax.Entry.TheOpen as open_tree
use Rattle.lua_tree.specs.declared.syntax.Entry.TheFolds.{fold-roll-Entry, fold-roll-Expr, fold-roll-Stat, fold-roll-Block, fold-roll-Body, fold-roll-Clause, fold-roll-Return}
use Rattle.lua_tree.specs.declared.syntax.Expr.{Expr}
use Rattle.lua_tree.specs.declared.syntax.Expr.TheVariants as e
use Rattle.lua_parser.specs.Grammar.Syntax.{clause, block, returns, body as body_with}
use Rattle.lua_parser.specs.Parts.{Parts, use_of, local, body, locals, all_of, maybe_of, entry_at, expr_at, stat_at, block_at, body_at, clause_at, return_at, parts_of, parts_of_expr, parts_of_entry, parts_of_stat, parts_of_body, parts_of_clause, parts_of_return}

abbrev pub parts_of_exprs : List Expr → Parts
parts_of_exprs es = all_of (map parts_of_expr es)

abbrev pub parts_of_entries : List Entry → Parts
parts_of_entries es = all_of (map parts_of_entry es)

abbrev pub parts_of_stats : List Stat → Parts
parts_of_stats ss = all_of (map parts_of_stat ss)

abbrev pub parts_of_clauses : List Clause → Parts
parts_of_clauses cs = all_of (map parts_of_clause cs)

pub parts-Nil : (p : Pos) → parts_of_expr (e.Nil p) ≡ []
parts-Nil p = ap parts_of_expr (sym (e.rolls-Nil p)) ∙ fold-roll-Expr Parts Parts Parts Parts Parts Parts Parts entry_at expr_at stat_at block_at body_at clause_at return_at (open_tree.Nil p)

pub parts-Bool : (p : Pos) (b : Bool) → parts_of_expr (e.Bool p b) ≡ []
parts-Bool p b = ap parts_of_expr (sym (e.rolls-Bool p b)) ∙ fold-roll-Expr Parts Parts Parts Parts Parts Parts Parts entry_at expr_at stat_at block_at body_at clause_at return_at (open_tree.Bool p b)

pub parts-Int : (p : Pos) (n : ℤ) → parts_of_expr (e.Int p n) ≡ []
parts-Int p n = ap parts_of_expr (sym (e.rolls-Int p n)) ∙ fold-roll-Expr Parts Parts Parts Parts Parts Parts Parts entry_at expr_at stat_at block_at body_at clause_at return_at (open_tree.Int p n)

pub parts-Str : (p : Pos) (x : List ℕ) → parts_of_expr (e.Str p x) ≡ []
parts-Str p x = ap parts_of_expr (sym (e.rolls-Str p x)) ∙ fold-roll-Expr Parts Parts Parts Parts Parts Parts Parts entry_at expr_at stat_at block_at body_at clause_at return_at (open_tree.Str p x)

pub parts-Vararg : (p : Pos) → parts_of_expr (e.Vararg p) ≡ []
parts-Vararg p = ap parts_of_expr (sym (e.rolls-Vararg p)) ∙ fold-roll-Expr Parts Parts Parts Parts Parts Parts Parts entry_at expr_at stat_at block_at body_at clause_at return_at (open_tree.Vararg p)

pub parts-Function : (p : Pos) (b : Body) → parts_of_expr (e.Function p b) ≡ parts_of_body b
parts-Function p b = ap parts_of_expr (sym (e.rolls-Function p b)) ∙ fold-roll-Expr Parts Parts Parts Parts Parts Parts Parts entry_at expr_at stat_at block_at body_at clause_at return_at (open_tree.«Expr::Function» p b)

pub parts-Name : (p : Pos) (n : ℕ) (x : List ℕ) → parts_of_expr (e.Name p n x) ≡ use_of n ∷ []
parts-Name p n x = ap parts_of_expr (sym (e.rolls-Name p n x)) ∙ fold-roll-Expr Parts Parts Parts Parts Parts Parts Parts entry_at expr_at stat_at block_at body_at clause_at return_at (open_tree.Name p n x)

pub parts-Paren : (p : Pos) (a : Expr) → parts_of_expr (e.Paren p a) ≡ parts_of_expr a
parts-Paren p a = ap parts_of_expr (sym (e.rolls-Paren p a)) ∙ fold-roll-Expr Parts Parts Parts Parts Parts Parts Parts entry_at expr_at stat_at block_at body_at clause_at return_at (open_tree.Paren p a)

pub parts-Field : (p : Pos) (a : Expr) (x : Name) → parts_of_expr (e.Field p a x) ≡ parts_of_expr a
parts-Field p a x = ap parts_of_expr (sym (e.rolls-Field p a x)) ∙ fold-roll-Expr Parts Parts Parts Parts Parts Parts Parts entry_at expr_at stat_at block_at body_at clause_at return_at (open_tree.Field p a x)

pub parts-Index : (p : Pos) (a k : Expr) → parts_of_expr (e.Index p a k) ≡ parts_of_expr a ++ parts_of_expr k
parts-Index p a k = ap parts_of_expr (sym (e.rolls-Index p a k)) ∙ fold-roll-Expr Parts Parts Parts Parts Parts Parts Parts entry_at expr_at stat_at block_at body_at clause_at return_at (open_tree.Index p a k)

pub parts-Call : (p : Pos) (a : Expr) (es : List Expr) → parts_of_expr (e.Call p a es) ≡ parts_of_expr a ++ parts_of_exprs es
parts-Call p a es = ap parts_of_expr (sym (e.rolls-Call p a es)) ∙ fold-roll-Expr Parts Parts Parts Parts Parts Parts Parts entry_at expr_at stat_at block_at body_at clause_at return_at (open_tree.«Expr::Call» p a es)

pub parts-Method : (p : Pos) (a : Expr) (x : Name) (es : List Expr) → parts_of_expr (e.Method p a x es) ≡ parts_of_expr a ++ parts_of_exprs es
parts-Method p a x es = ap parts_of_expr (sym (e.rolls-Method p a x es)) ∙ fold-roll-Expr Parts Parts Parts Parts Parts Parts Parts entry_at expr_at stat_at block_at body_at clause_at return_at (open_tree.«Expr::Method» p a x es)

pub parts-Table : (p : Pos) (es : List Entry) → parts_of_expr (e.Table p es) ≡ parts_of_entries es
parts-Table p es = ap parts_of_expr (sym (e.rolls-Table p es)) ∙ fold-roll-Expr Parts Parts Parts Parts Parts Parts Parts entry_at expr_at stat_at block_at body_at clause_at return_at (open_tree.Table p es)

pub parts-Unary : (p : Pos) (o : UnaryOperator) (a : Expr) → parts_of_expr (e.Unary p o a) ≡ parts_of_expr a
parts-Unary p o a = ap parts_of_expr (sym (e.rolls-Unary p o a)) ∙ fold-roll-Expr Parts Parts Parts Parts Parts Parts Parts entry_at expr_at stat_at block_at body_at clause_at return_at (open_tree.Unary p o a)

pub parts-Binary : (p : Pos) (o : BinaryOperator) (a b : Expr) → parts_of_expr (e.Binary p o a b) ≡ parts_of_expr a ++ parts_of_expr b
parts-Binary p o a b = ap parts_of_expr (sym (e.rolls-Binary p o a b)) ∙ fold-roll-Expr Parts Parts Parts Parts Parts Parts Parts entry_at expr_at stat_at block_at body_at clause_at return_at (open_tree.Binary p o a b)

pub parts-Keyed : (k a : Expr) → parts_of_entry (entry.Keyed k a) ≡ parts_of_expr k ++ parts_of_expr a
parts-Keyed k a = ap parts_of_entry (sym (entry.rolls-Keyed k a)) ∙ fold-roll-Entry Parts Parts Parts Parts Parts Parts Parts entry_at expr_at stat_at block_at body_at clause_at return_at (open_tree.Keyed k a)

pub parts-Named : (x : Name) (a : Expr) → parts_of_entry (entry.Named x a) ≡ parts_of_expr a
parts-Named x a = ap parts_of_entry (sym (entry.rolls-Named x a)) ∙ fold-roll-Entry Parts Parts Parts Parts Parts Parts Parts entry_at expr_at stat_at block_at body_at clause_at return_at (open_tree.Named x a)

pub parts-Item : (a : Expr) → parts_of_entry (entry.Item a) ≡ parts_of_expr a
parts-Item a = ap parts_of_entry (sym (entry.rolls-Item a)) ∙ fold-roll-Entry Parts Parts Parts Parts Parts Parts Parts entry_at expr_at stat_at block_at body_at clause_at return_at (open_tree.Item a)

pub parts-stat-Empty : (p : Pos) → parts_of_stat (stat.Empty p) ≡ []
parts-stat-Empty p = ap parts_of_stat (sym (stat.rolls-Empty p)) ∙ fold-roll-Stat Parts Parts Parts Parts Parts Parts Parts entry_at expr_at stat_at block_at body_at clause_at return_at (open_tree.Empty p)

pub parts-stat-Assign : (p : Pos) (ts es : List Expr) → parts_of_stat (stat.Assign p ts es) ≡ parts_of_exprs ts ++ parts_of_exprs es
parts-stat-Assign p ts es = ap parts_of_stat (sym (stat.rolls-Assign p ts es)) ∙ fold-roll-Stat Parts Parts Parts Parts Parts Parts Parts entry_at expr_at stat_at block_at body_at clause_at return_at (open_tree.Assign p ts es)

pub parts-stat-Call : (p : Pos) (a : Expr) → parts_of_stat (stat.Call p a) ≡ parts_of_expr a
parts-stat-Call p a = ap parts_of_stat (sym (stat.rolls-Call p a)) ∙ fold-roll-Stat Parts Parts Parts Parts Parts Parts Parts entry_at expr_at stat_at block_at body_at clause_at return_at (open_tree.«Stat::Call» p a)

pub parts-stat-Break : (p : Pos) → parts_of_stat (stat.Break p) ≡ []
parts-stat-Break p = ap parts_of_stat (sym (stat.rolls-Break p)) ∙ fold-roll-Stat Parts Parts Parts Parts Parts Parts Parts entry_at expr_at stat_at block_at body_at clause_at return_at (open_tree.Break p)

pub parts-stat-Do : (p : Pos) (b : Block) → parts_of_stat (stat.Do p b) ≡ parts_of b
parts-stat-Do p b = ap parts_of_stat (sym (stat.rolls-Do p b)) ∙ fold-roll-Stat Parts Parts Parts Parts Parts Parts Parts entry_at expr_at stat_at block_at body_at clause_at return_at (open_tree.Do p b)

pub parts-stat-While : (p : Pos) (a : Expr) (b : Block) → parts_of_stat (stat.While p a b) ≡ parts_of_expr a ++ parts_of b
parts-stat-While p a b = ap parts_of_stat (sym (stat.rolls-While p a b)) ∙ fold-roll-Stat Parts Parts Parts Parts Parts Parts Parts entry_at expr_at stat_at block_at body_at clause_at return_at (open_tree.While p a b)

pub parts-stat-Repeat : (p : Pos) (b : Block) (a : Expr) → parts_of_stat (stat.Repeat p b a) ≡ parts_of b ++ parts_of_expr a
parts-stat-Repeat p b a = ap parts_of_stat (sym (stat.rolls-Repeat p b a)) ∙ fold-roll-Stat Parts Parts Parts Parts Parts Parts Parts entry_at expr_at stat_at block_at body_at clause_at return_at (open_tree.Repeat p b a)

pub parts-stat-If : (p : Pos) (cs : List Clause) (d : Option Block) → parts_of_stat (stat.If p cs d) ≡ parts_of_clauses cs ++ maybe_of (option_map parts_of d)
parts-stat-If p cs None = ap parts_of_stat (sym (stat.rolls-If p cs None)) ∙ fold-roll-Stat Parts Parts Parts Parts Parts Parts Parts entry_at expr_at stat_at block_at body_at clause_at return_at (open_tree.If p cs None)
parts-stat-If p cs (Some b) = ap parts_of_stat (sym (stat.rolls-If p cs (Some b))) ∙ fold-roll-Stat Parts Parts Parts Parts Parts Parts Parts entry_at expr_at stat_at block_at body_at clause_at return_at (open_tree.If p cs (Some b))

pub parts-stat-NumericFor : (p : Pos) (x : Name) (a b : Expr) (c : Option Expr) (d : Block) → parts_of_stat (stat.NumericFor p x a b c d) ≡ local ∷ parts_of_expr a ++ (parts_of_expr b ++ (maybe_of (option_map parts_of_expr c) ++ parts_of d))
parts-stat-NumericFor p x a b None d = ap parts_of_stat (sym (stat.rolls-NumericFor p x a b None d)) ∙ fold-roll-Stat Parts Parts Parts Parts Parts Parts Parts entry_at expr_at stat_at block_at body_at clause_at return_at (open_tree.NumericFor p x a b None d)
parts-stat-NumericFor p x a b (Some c) d = ap parts_of_stat (sym (stat.rolls-NumericFor p x a b (Some c) d)) ∙ fold-roll-Stat Parts Parts Parts Parts Parts Parts Parts entry_at expr_at stat_at block_at body_at clause_at return_at (open_tree.NumericFor p x a b (Some c) d)

pub parts-stat-GenericFor : (p : Pos) (xs : List Name) (es : List Expr) (b : Block) → parts_of_stat (stat.GenericFor p xs es b) ≡ locals xs ++ (parts_of_exprs es ++ parts_of b)
parts-stat-GenericFor p xs es b = ap parts_of_stat (sym (stat.rolls-GenericFor p xs es b)) ∙ fold-roll-Stat Parts Parts Parts Parts Parts Parts Parts entry_at expr_at stat_at block_at body_at clause_at return_at (open_tree.GenericFor p xs es b)

pub parts-stat-Function : (p : Pos) (a f : Expr) → parts_of_stat (stat.Function p a f) ≡ parts_of_expr a ++ parts_of_expr f
parts-stat-Function p a f = ap parts_of_stat (sym (stat.rolls-Function p a f)) ∙ fold-roll-Stat Parts Parts Parts Parts Parts Parts Parts entry_at expr_at stat_at block_at body_at clause_at return_at (open_tree.«Stat::Function» p a f)

pub parts-stat-Method : (p : Pos) (a : Expr) (x : Name) (f : Expr) → parts_of_stat (stat.Method p a x f) ≡ parts_of_expr a ++ local ∷ parts_of_expr f
parts-stat-Method p a x f = ap parts_of_stat (sym (stat.rolls-Method p a x f)) ∙ fold-roll-Stat Parts Parts Parts Parts Parts Parts Parts entry_at expr_at stat_at block_at body_at clause_at return_at (open_tree.«Stat::Method» p a x f)

pub parts-stat-LocalFunction : (p : Pos) (x : Name) (f : Expr) → parts_of_stat (stat.LocalFunction p x f) ≡ local ∷ parts_of_expr f
parts-stat-LocalFunction p x f = ap parts_of_stat (sym (stat.rolls-LocalFunction p x f)) ∙ fold-roll-Stat Parts Parts Parts Parts Parts Parts Parts entry_at expr_at stat_at block_at body_at clause_at return_at (open_tree.LocalFunction p x f)

pub parts-stat-Local : (p : Pos) (xs : List Typed) (es : List Expr) → parts_of_stat (stat.Local p xs es) ≡ locals xs ++ parts_of_exprs es
parts-stat-Local p xs es = ap parts_of_stat (sym (stat.rolls-Local p xs es)) ∙ fold-roll-Stat Parts Parts Parts Parts Parts Parts Parts entry_at expr_at stat_at block_at body_at clause_at return_at (open_tree.Local p xs es)

pub parts-stat-Interface : (p : Pos) (x : Name) (fs : List TypeField) → parts_of_stat (stat.Interface p x fs) ≡ []
parts-stat-Interface p x fs = ap parts_of_stat (sym (stat.rolls-Interface p x fs)) ∙ fold-roll-Stat Parts Parts Parts Parts Parts Parts Parts entry_at expr_at stat_at block_at body_at clause_at return_at (open_tree.Interface p x fs)

pub parts-stat-Alias : (p : Pos) (x : Name) (a : TypeExpr) → parts_of_stat (stat.Alias p x a) ≡ []
parts-stat-Alias p x a = ap parts_of_stat (sym (stat.rolls-Alias p x a)) ∙ fold-roll-Stat Parts Parts Parts Parts Parts Parts Parts entry_at expr_at stat_at block_at body_at clause_at return_at (open_tree.Alias p x a)

pub parts-block : (ss : List Stat) (r : Option Return) → parts_of (block ss r) ≡ parts_of_stats ss ++ maybe_of (option_map parts_of_return r)
parts-block ss None = fold-roll-Block Parts Parts Parts Parts Parts Parts Parts entry_at expr_at stat_at block_at body_at clause_at return_at (record { stats = ss; result = None })
parts-block ss (Some r) = fold-roll-Block Parts Parts Parts Parts Parts Parts Parts entry_at expr_at stat_at block_at body_at clause_at return_at (record { stats = ss; result = Some r })

pub parts-returns : (p : Pos) (es : List Expr) → parts_of_return (returns p es) ≡ parts_of_exprs es
parts-returns p es = fold-roll-Return Parts Parts Parts Parts Parts Parts Parts entry_at expr_at stat_at block_at body_at clause_at return_at (record { pos = p; values = es })

pub parts-clause : (a : Expr) (b : Block) → parts_of_clause (clause a b) ≡ parts_of_expr a ++ parts_of b
parts-clause a b = fold-roll-Clause Parts Parts Parts Parts Parts Parts Parts entry_at expr_at stat_at block_at body_at clause_at return_at (record { condition = a; block = b })

pub parts-body : (ps : List Typed) (rest : Option Rest) (rs : Option TypeResults) (b : Block) → parts_of_body (body_with ps rest rs b) ≡ body ∷ locals ps ++ parts_of b
parts-body ps rest rs b = fold-roll-Body Parts Parts Parts Parts Parts Parts Parts entry_at expr_at stat_at block_at body_at clause_at return_at (record { params = ps; rest = rest; results = rs; block = b })
