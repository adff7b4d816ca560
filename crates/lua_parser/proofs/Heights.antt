-- The heights of expressions and types, form by form.
use Rattle.std.proofs.Common.{◌≡◌, sym, ap, ◌∙◌, ℕ, ◌+◌, max, ℤ, Bool, List, Option, None, Some, map}
use Rattle.std.specs.Option.{option_map}
use Rattle.tl_base.specs.declared.place.Pos.{Pos}
use Rattle.lua_tree.specs.declared.annotation.Name.{Name}
use Rattle.lua_tree.specs.declared.annotation.TypeExpr.{TypeExpr}
use Rattle.lua_tree.specs.declared.annotation.TypeExpr.TheVariants as t
use Rattle.lua_tree.specs.declared.annotation.TypeExpr.TheOpen as open_type
use Rattle.lua_tree.specs.declared.annotation.TypeExpr.TheFolds.{fold-roll-TypeExpr, fold-roll-TypeField, fold-roll-TypeTuple, fold-roll-TypeResults}
use Rattle.lua_tree.specs.declared.annotation.TypeField.{TypeField, fold-TypeField}
use Rattle.lua_tree.specs.declared.annotation.TypeTuple.{TypeTuple, fold-TypeTuple}
use Rattle.lua_tree.specs.declared.annotation.TypeResults.{TypeResults, fold-TypeResults}
use Rattle.lua_tree.specs.declared.syntax.UnaryOperator.{UnaryOperator}
use Rattle.lua_tree.specs.declared.syntax.BinaryOperator.{BinaryOperator}
use Rattle.lua_tree.specs.declared.syntax.Body.{Body}
use Rattle.lua_tree.specs.declared.syntax.Entry.{Entry}
use Rattle.lua_tree.specs.declared.syntax.Expr.{Expr}
use Rattle.lua_tree.specs.declared.syntax.Expr.TheVariants as e
use Rattle.lua_tree.specs.View.{exp_of, exps_of, entries_of}
use Rattle.lua_tree.specs.Height.{height, highest, highest_entry}
use Rattle.lua_tree.proofs.Views.{exp_of-Nil, exp_of-Bool, exp_of-Int, exp_of-Str, exp_of-Vararg, exp_of-Function, exp_of-Name, exp_of-Paren, exp_of-Field, exp_of-Index, exp_of-Call, exp_of-Method, exp_of-Table, exp_of-Unary, exp_of-Binary}
use Rattle.lua_parser.specs.Grammar.Types.{field, tuple, results}
use Rattle.lua_parser.specs.Grammar.Heights as heights
use Rattle.lua_parser.specs.Grammar.Heights.{height_or, type_height, type_height_at, field_height_at, results_height_at, tuple_height_at}

pub height-Nil : (p : Pos) → height (exp_of (e.Nil p)) ≡ 1
height-Nil p = ap height (exp_of-Nil p)

pub height-Bool : (p : Pos) (b : Bool) → height (exp_of (e.Bool p b)) ≡ 1
height-Bool p b = ap height (exp_of-Bool p b)

pub height-Int : (p : Pos) (n : ℤ) → height (exp_of (e.Int p n)) ≡ 1
height-Int p n = ap height (exp_of-Int p n)

pub height-Str : (p : Pos) (x : List ℕ) → height (exp_of (e.Str p x)) ≡ 1
height-Str p x = ap height (exp_of-Str p x)

pub height-Vararg : (p : Pos) → height (exp_of (e.Vararg p)) ≡ 1
height-Vararg p = ap height (exp_of-Vararg p)

pub height-Function : (p : Pos) (b : Body) → height (exp_of (e.Function p b)) ≡ 1
height-Function p b = ap height (exp_of-Function p b)

pub height-Name : (p : Pos) (n : ℕ) (x : List ℕ) → height (exp_of (e.Name p n x)) ≡ 1
height-Name p n x = ap height (exp_of-Name p n x)

pub height-Paren : (p : Pos) (a : Expr) → height (exp_of (e.Paren p a)) ≡ height (exp_of a) + 1
height-Paren p a = ap height (exp_of-Paren p a)

pub height-Field : (p : Pos) (a : Expr) (x : Name) → height (exp_of (e.Field p a x)) ≡ height (exp_of a) + 1
height-Field p a x = ap height (exp_of-Field p a x)

pub height-Index : (p : Pos) (a b : Expr) → height (exp_of (e.Index p a b)) ≡ max (height (exp_of a)) (height (exp_of b)) + 1
height-Index p a b = ap height (exp_of-Index p a b)

pub height-Call : (p : Pos) (a : Expr) (es : List Expr) → height (exp_of (e.Call p a es)) ≡ max (height (exp_of a)) (highest (exps_of es)) + 1
height-Call p a es = ap height (exp_of-Call p a es)

pub height-Method : (p : Pos) (a : Expr) (x : Name) (es : List Expr) → height (exp_of (e.Method p a x es)) ≡ max (height (exp_of a)) (highest (exps_of es)) + 1
height-Method p a x es = ap height (exp_of-Method p a x es)

pub height-Table : (p : Pos) (es : List Entry) → height (exp_of (e.Table p es)) ≡ highest_entry (entries_of es) + 1
height-Table p es = ap height (exp_of-Table p es)

pub height-Unary : (p : Pos) (o : UnaryOperator) (a : Expr) → height (exp_of (e.Unary p o a)) ≡ height (exp_of a) + 1
height-Unary p o a = ap height (exp_of-Unary p o a)

pub height-Binary : (p : Pos) (o : BinaryOperator) (a b : Expr) → height (exp_of (e.Binary p o a b)) ≡ max (height (exp_of a)) (height (exp_of b)) + 1
height-Binary p o a b = ap height (exp_of-Binary p o a b)

-- ---- types

abbrev pub tuple_height : TypeTuple → ℕ
tuple_height = fold-TypeTuple ℕ ℕ ℕ ℕ type_height_at field_height_at results_height_at tuple_height_at

abbrev pub results_height : TypeResults → ℕ
results_height = fold-TypeResults ℕ ℕ ℕ ℕ type_height_at field_height_at results_height_at tuple_height_at

abbrev pub field_height : TypeField → ℕ
field_height = fold-TypeField ℕ ℕ ℕ ℕ type_height_at field_height_at results_height_at tuple_height_at

pub type_height-Nil : (p : Pos) → type_height (t.Nil p) ≡ 1
type_height-Nil p = ap type_height (sym (t.rolls-Nil p)) ∙ fold-roll-TypeExpr ℕ ℕ ℕ ℕ type_height_at field_height_at results_height_at tuple_height_at (open_type.Nil p)

pub type_height-Bool : (p : Pos) (b : Bool) → type_height (t.Bool p b) ≡ 1
type_height-Bool p b = ap type_height (sym (t.rolls-Bool p b)) ∙ fold-roll-TypeExpr ℕ ℕ ℕ ℕ type_height_at field_height_at results_height_at tuple_height_at (open_type.Bool p b)

pub type_height-Int : (p : Pos) (n : ℤ) → type_height (t.Int p n) ≡ 1
type_height-Int p n = ap type_height (sym (t.rolls-Int p n)) ∙ fold-roll-TypeExpr ℕ ℕ ℕ ℕ type_height_at field_height_at results_height_at tuple_height_at (open_type.Int p n)

pub type_height-Str : (p : Pos) (x : List ℕ) → type_height (t.Str p x) ≡ 1
type_height-Str p x = ap type_height (sym (t.rolls-Str p x)) ∙ fold-roll-TypeExpr ℕ ℕ ℕ ℕ type_height_at field_height_at results_height_at tuple_height_at (open_type.Str p x)

pub type_height-Named : (p : Pos) (m : List (List ℕ)) (x : List ℕ) → type_height (t.Named p m x) ≡ 1
type_height-Named p m x = ap type_height (sym (t.rolls-Named p m x)) ∙ fold-roll-TypeExpr ℕ ℕ ℕ ℕ type_height_at field_height_at results_height_at tuple_height_at (open_type.Named p m x)

pub type_height-Paren : (p : Pos) (x : TypeExpr) → type_height (t.Paren p x) ≡ type_height x + 1
type_height-Paren p x = ap type_height (sym (t.rolls-Paren p x)) ∙ fold-roll-TypeExpr ℕ ℕ ℕ ℕ type_height_at field_height_at results_height_at tuple_height_at (open_type.Paren p x)

pub type_height-Array : (p : Pos) (x : TypeExpr) → type_height (t.Array p x) ≡ type_height x + 1
type_height-Array p x = ap type_height (sym (t.rolls-Array p x)) ∙ fold-roll-TypeExpr ℕ ℕ ℕ ℕ type_height_at field_height_at results_height_at tuple_height_at (open_type.Array p x)

pub type_height-Optional : (p : Pos) (x : TypeExpr) → type_height (t.Optional p x) ≡ type_height x + 1
type_height-Optional p x = ap type_height (sym (t.rolls-Optional p x)) ∙ fold-roll-TypeExpr ℕ ℕ ℕ ℕ type_height_at field_height_at results_height_at tuple_height_at (open_type.Optional p x)

pub type_height-Map : (p : Pos) (x y : TypeExpr) → type_height (t.Map p x y) ≡ max (type_height x) (type_height y) + 1
type_height-Map p x y = ap type_height (sym (t.rolls-Map p x y)) ∙ fold-roll-TypeExpr ℕ ℕ ℕ ℕ type_height_at field_height_at results_height_at tuple_height_at (open_type.Map p x y)

pub type_height-Record : (p : Pos) (fs : List TypeField) → type_height (t.Record p fs) ≡ heights.highest (map field_height fs) + 1
type_height-Record p fs = ap type_height (sym (t.rolls-Record p fs)) ∙ fold-roll-TypeExpr ℕ ℕ ℕ ℕ type_height_at field_height_at results_height_at tuple_height_at (open_type.Record p fs)

pub type_height-Function : (p : Pos) (a : TypeTuple) (r : TypeResults) → type_height (t.Function p a r) ≡ max (tuple_height a) (results_height r) + 1
type_height-Function p a r = ap type_height (sym (t.rolls-Function p a r)) ∙ fold-roll-TypeExpr ℕ ℕ ℕ ℕ type_height_at field_height_at results_height_at tuple_height_at (open_type.Function p a r)

pub type_height-Union : (p : Pos) (xs : List TypeExpr) → type_height (t.Union p xs) ≡ heights.highest (map type_height xs) + 1
type_height-Union p xs = ap type_height (sym (t.rolls-Union p xs)) ∙ fold-roll-TypeExpr ℕ ℕ ℕ ℕ type_height_at field_height_at results_height_at tuple_height_at (open_type.Union p xs)

pub field_height-roll : (p : Pos) (c : Bool) (n : Name) (x : TypeExpr) → field_height (field p c n x) ≡ type_height x
field_height-roll p c n x = fold-roll-TypeField ℕ ℕ ℕ ℕ type_height_at field_height_at results_height_at tuple_height_at (record { pos = p; is_const = c; name = n; ty = x })

pub tuple_height-roll : (xs : List TypeExpr) (rest : Option TypeExpr) → tuple_height (tuple xs rest) ≡ max (heights.highest (map type_height xs)) (height_or (option_map type_height rest))
tuple_height-roll xs None = fold-roll-TypeTuple ℕ ℕ ℕ ℕ type_height_at field_height_at results_height_at tuple_height_at (record { items = xs; tail = None })
tuple_height-roll xs (Some x) = fold-roll-TypeTuple ℕ ℕ ℕ ℕ type_height_at field_height_at results_height_at tuple_height_at (record { items = xs; tail = Some x })

pub results_height-roll : (p : Pos) (xs : List TypeTuple) → results_height (results p xs) ≡ heights.highest (map tuple_height xs)
results_height-roll p xs = fold-roll-TypeResults ℕ ℕ ℕ ℕ type_height_at field_height_at results_height_at tuple_height_at (record { pos = p; tuples = xs })
