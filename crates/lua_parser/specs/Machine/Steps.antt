-- What each part of a module does at the next word.
use Rattle.std.specs.Prelude.{ℕ, ◌+◌, ◌==◌, nat_le, nat_eq, Bool, true, false, ◌&&◌, List, [], ◌∷◌, Option, Some, None, if◌then◌else◌, codes, neg_ℤ, ℤ}
use Rattle.std.specs.Int.{w64, int_wrap}
use Rattle.std.specs.Cmp.Lexicographic.{pointwise}
use Rattle.tl_base.specs.declared.place.Pos.{Pos}
use Rattle.tl_base.specs.declared.place.ModuleKind.{ModuleKind}
use Rattle.tl_base.specs.declared.place.ModuleKind.TheVariants as module_kind
use Rattle.lua_tree.specs.declared.annotation.Name.{Name}
use Rattle.lua_tree.specs.declared.annotation.TypeExpr.{TypeExpr}
use Rattle.lua_tree.specs.declared.annotation.TypeExpr.TheVariants as t
use Rattle.lua_tree.specs.declared.annotation.TypeField.{TypeField}
use Rattle.lua_tree.specs.declared.annotation.TypeResults.{TypeResults}
use Rattle.lua_tree.specs.declared.syntax.UnaryOperator.{UnaryOperator}
use Rattle.lua_tree.specs.declared.syntax.UnaryOperator.TheVariants as u
use Rattle.lua_tree.specs.declared.syntax.BinaryOperator.{BinaryOperator}
use Rattle.lua_tree.specs.declared.syntax.BinaryOperator.TheVariants as b
use Rattle.lua_tree.specs.declared.syntax.Expr.{Expr}
use Rattle.lua_tree.specs.declared.syntax.Expr.TheVariants as e
use Rattle.lua_tree.specs.declared.syntax.Stat.{Stat}
use Rattle.lua_tree.specs.declared.syntax.Stat.TheVariants as stat
use Rattle.lua_tree.specs.declared.syntax.Body.{Body}
use Rattle.lua_tree.specs.declared.syntax.Block.{Block}
use Rattle.lua_tree.specs.declared.syntax.Entry.{Entry}
use Rattle.lua_tree.specs.declared.syntax.Entry.TheVariants as entry
use Rattle.lua_lexer.specs.declared.token.Keyword.{Keyword}
use Rattle.lua_lexer.specs.declared.token.Keyword.TheVariants as w
use Rattle.lua_lexer.specs.declared.token.Symbol.{Symbol}
use Rattle.lua_lexer.specs.declared.token.Symbol.TheVariants as s
use Rattle.lua_parser.specs.Words.{WordKind, Mark, mark, key, sign, finish, name_at}
use Rattle.lua_parser.specs.Grammar.Levels.{level, unary_level, left_level, right_level}
use Rattle.lua_parser.specs.Grammar.Types as type
use Rattle.lua_parser.specs.Grammar.Types.{Ending, InItself, InTuple, InType, opens, field, tuple, results}
use Rattle.lua_parser.specs.Grammar.Syntax.{Form, Target, Called, Enclosed, place, clause, block, returns, body, typed, rest_at}
use Rattle.lua_parser.specs.Machine.Plan.{After, ended, joined, Item, Gives, Plan, done, want, want_name, read, Reply, stuck, ends, takes, onward}

-- ---- tests on words

abbrev pub keyword_number : Keyword → ℕ
keyword_number w.And = 0
keyword_number w.Break = 1
keyword_number w.Do = 2
keyword_number w.Else = 3
keyword_number w.Elseif = 4
keyword_number w.End = 5
keyword_number w.False = 6
keyword_number w.For = 7
keyword_number w.Function = 8
keyword_number w.Goto = 9
keyword_number w.If = 10
keyword_number w.In = 11
keyword_number w.Local = 12
keyword_number w.Nil = 13
keyword_number w.Not = 14
keyword_number w.Or = 15
keyword_number w.Repeat = 16
keyword_number w.Return = 17
keyword_number w.Then = 18
keyword_number w.True = 19
keyword_number w.Until = 20
keyword_number w.While = 21

abbrev pub symbol_number : Symbol → ℕ
symbol_number s.Plus = 22
symbol_number s.Minus = 23
symbol_number s.Star = 24
symbol_number s.Slash = 25
symbol_number s.Percent = 26
symbol_number s.Caret = 27
symbol_number s.Hash = 28
symbol_number s.Ampersand = 29
symbol_number s.Tilde = 30
symbol_number s.Pipe = 31
symbol_number s.ShiftLeft = 32
symbol_number s.ShiftRight = 33
symbol_number s.DoubleSlash = 34
symbol_number s.Equal = 35
symbol_number s.NotEqual = 36
symbol_number s.LessEqual = 37
symbol_number s.GreaterEqual = 38
symbol_number s.Less = 39
symbol_number s.Greater = 40
symbol_number s.Assign = 41
symbol_number s.OpenParen = 42
symbol_number s.CloseParen = 43
symbol_number s.OpenBrace = 44
symbol_number s.CloseBrace = 45
symbol_number s.OpenBracket = 46
symbol_number s.CloseBracket = 47
symbol_number s.DoubleColon = 48
symbol_number s.Semicolon = 49
symbol_number s.Colon = 50
symbol_number s.Comma = 51
symbol_number s.Dot = 52
symbol_number s.Concat = 53
symbol_number s.Dots = 54
symbol_number s.Question = 55
symbol_number s.Arrow = 56

abbrev pub mark_number : Mark → ℕ
mark_number (key x) = keyword_number x
mark_number (sign x) = symbol_number x
mark_number finish = 57

abbrev pub is_mark : Mark → WordKind → Bool
is_mark m (mark n) = mark_number m == mark_number n
is_mark m k = false

abbrev pub is_sign : Symbol → WordKind → Bool
is_sign x k = is_mark (sign x) k

abbrev pub is_key : Keyword → WordKind → Bool
is_key x k = is_mark (key x) k

abbrev pub if_name : {A : Type 0} → WordKind → (List ℕ → A) → A → A
if_name (WordKind.name x) f a = f x
if_name k f a = a

abbrev pub if_number : {A : Type 0} → WordKind → (ℤ → A) → A → A
if_number (WordKind.number x) f a = f x
if_number k f a = a

abbrev pub if_text : {A : Type 0} → WordKind → (List ℕ → A) → A → A
if_text (WordKind.text x) f a = f x
if_text k f a = a

abbrev pub is_text : List ℕ → List ℕ → Bool
is_text x y = pointwise nat_eq x y

abbrev pub is_typed : ModuleKind → Bool
is_typed module_kind.Typed = true
is_typed module_kind.Untyped = false

abbrev pub unary_at : WordKind → Option UnaryOperator
unary_at (mark (key w.Not)) = Some u.Not
unary_at (mark (sign s.Hash)) = Some u.Length
unary_at (mark (sign s.Minus)) = Some u.Negate
unary_at (mark (sign s.Tilde)) = Some u.BitNot
unary_at k = None

abbrev pub binary_at : WordKind → Option BinaryOperator
binary_at (mark (key w.Or)) = Some b.Or
binary_at (mark (key w.And)) = Some b.And
binary_at (mark (sign s.Less)) = Some b.Less
binary_at (mark (sign s.Greater)) = Some b.Greater
binary_at (mark (sign s.LessEqual)) = Some b.LessEqual
binary_at (mark (sign s.GreaterEqual)) = Some b.GreaterEqual
binary_at (mark (sign s.NotEqual)) = Some b.NotEqual
binary_at (mark (sign s.Equal)) = Some b.Equal
binary_at (mark (sign s.Pipe)) = Some b.BitOr
binary_at (mark (sign s.Tilde)) = Some b.BitXor
binary_at (mark (sign s.Ampersand)) = Some b.BitAnd
binary_at (mark (sign s.ShiftLeft)) = Some b.ShiftLeft
binary_at (mark (sign s.ShiftRight)) = Some b.ShiftRight
binary_at (mark (sign s.Concat)) = Some b.Concat
binary_at (mark (sign s.Plus)) = Some b.Add
binary_at (mark (sign s.Minus)) = Some b.Subtract
binary_at (mark (sign s.Star)) = Some b.Multiply
binary_at (mark (sign s.DoubleSlash)) = Some b.Divide
binary_at (mark (sign s.Percent)) = Some b.Modulo
binary_at k = None

-- ---- replies

abbrev pub begun : {A : Type 0} → Option (Plan A) → Reply A
begun None = stuck
begun (Some p) = takes p

-- what goes on if it can, and else ends before the word
abbrev pub or_ends : {A : Type 0} → Option (Plan A) → A → Reply A
or_ends None a = ends a
or_ends (Some p) a = takes p

-- what takes the word, and goes on so
abbrev pub going : {A B : Type 0} → Option (Plan A) → (A → Plan B) → Option (Plan B)
going None f = None
going (Some p) f = Some (onward p f)

-- One part and then another, which sees the same word where the first ends before it.
abbrev pub both : {A B : Type 0} → Reply A → (A → Reply B) → (A → Plan B) → Reply B
both stuck r f = stuck
both (ends a) r f = r a
both (takes p) r f = takes (onward p f)

-- ---- types

abbrev pub union_of : TypeExpr → List TypeExpr → TypeExpr
union_of x [] = x
union_of x (y ∷ ys) = t.Union (type.place x) (x ∷ y ∷ ys)

abbrev pub start_plain : Pos → WordKind → Option (Plan TypeExpr)
start_plain p k =
    if is_key w.Nil k then Some (read (Item.maybe_mark (t.Nil p)) done)
    else (if is_key w.True k then Some (read (Item.maybe_mark (t.Bool p true)) done)
    else (if is_key w.False k then Some (read (Item.maybe_mark (t.Bool p false)) done)
    else (if is_sign s.Minus k then Some (read (Item.negated p) λ x. read (Item.maybe_mark x) done)
    else (if is_sign s.OpenBrace k then Some (read (Item.in_braces p) λ x. read (Item.maybe_mark x) done)
    else if_number k (λ n. Some (read (Item.maybe_mark (t.Int p n)) done)
    ) (if_text k (λ x. Some (read (Item.maybe_mark (t.Str p x)) done)
    ) (if_name k (λ x. Some (read (Item.more_of_name x) λ d. read (Item.maybe_mark (t.Named p d.0 d.1)) done)) None))))))

abbrev pub start_member : Pos → WordKind → Option (Plan (TypeExpr × After))
start_member p k =
    if is_sign s.OpenParen k then Some (read Item.a_tuple λ a. want (sign s.CloseParen) λ _. read (Item.behind_tuple p a.0 a.1) done)
    else going (start_plain p k) (λ x. done (x, ended InItself))

abbrev pub start_type : Pos → WordKind → Option (Plan TypeExpr)
start_type p k = going (start_member p k) (λ m. read (Item.more_of_union m.1) λ xs. done (union_of m.0 xs))

abbrev pub member_step : After → Pos → WordKind → Reply (List TypeExpr)
member_step joined p k = begun (going (start_plain p k) (λ x. read (Item.more_of_union (ended InItself)) λ xs. done (x ∷ xs)))
member_step (ended InItself) p k =
    if is_sign s.Pipe k then takes (read Item.a_member λ m. read (Item.more_of_union m.1) λ xs. done (m.0 ∷ xs)) else ends []
member_step (ended InTuple) p k = if is_sign s.Pipe k then stuck else ends []
member_step (ended InType) p k = if is_sign s.Pipe k then stuck else ends []

abbrev pub name_step : List ℕ → WordKind → Reply (List (List ℕ) × List ℕ)
name_step x k =
    if is_sign s.Dot k then takes (want_name λ y. read (Item.more_of_name y.text) λ d. done (x ∷ d.0, d.1)) else ends ([], x)

abbrev pub mark_step : TypeExpr → WordKind → Reply TypeExpr
mark_step x k = if is_sign s.Question k then takes (done (t.Optional (type.place x) x)) else ends x

abbrev pub paren_step : Pos → List TypeExpr → Option TypeExpr → WordKind → Reply (TypeExpr × After)
paren_step p (x ∷ []) None k = both (mark_step (t.Paren p x) k) (λ y. ends (y, ended InItself)) (λ y. done (y, ended InItself))
paren_step p xs rest k = stuck

-- a tuple from behind its `(`
abbrev pub tuple_then : {A : Type 0} → (List TypeExpr × Option TypeExpr → Plan A) → Plan A
tuple_then f = read Item.a_tuple λ a. want (sign s.CloseParen) λ _. f a

abbrev pub single_result : TypeExpr → TypeResults
single_result x = results (type.place x) (tuple (x ∷ []) None ∷ [])

abbrev pub field_step : Name → Pos → WordKind → Reply TypeField
field_step x p k =
    if is_sign s.Colon k then takes (read Item.a_type λ a. done (field x.pos false x a))
    else if_name k (λ y. if is_text x.text (codes "const") then takes (want (sign s.Colon) λ _. read Item.a_type λ a. done (field x.pos true (name_at p y) a)) else stuck) stuck

abbrev pub types_step : ModuleKind → (j : Item) → Pos → WordKind → Reply (Gives j)
types_step kind Item.a_type p k = begun (start_type p k)
types_step kind Item.a_member p k = begun (start_member p k)
types_step kind Item.a_plain_member p k = begun (start_plain p k)
types_step kind (Item.negated o) p k = if_number k (λ n. takes (done (t.Int o (int_wrap w64 (neg_ℤ n))))) stuck
types_step kind (Item.more_of_union a) p k = member_step a p k
types_step kind (Item.more_of_name x) p k = name_step x k
types_step kind (Item.maybe_mark x) p k = mark_step x k
types_step kind Item.a_tuple p k =
    if is_sign s.CloseParen k then ends ([], None)
    else begun (going (start_type p k) (λ x. read (Item.more_of_tuple x) done))
types_step kind (Item.more_of_tuple x) p k =
    if is_sign s.Star k then takes (done ([], Some x))
    else (if is_sign s.Comma k then takes (read Item.a_type λ y. read (Item.more_of_tuple y) λ r. done (x ∷ r.0, r.1)) else ends (x ∷ [], None))
types_step kind (Item.behind_tuple o xs rest) p k =
    if is_sign s.Arrow k then takes (read Item.some_results λ r. done (t.Function o (tuple xs rest) r.0, r.1))
    else paren_step o xs rest k
types_step kind Item.some_results p k =
    if is_sign s.OpenParen k then takes (tuple_then λ a. read Item.more_results λ r. done (results p (tuple a.0 a.1 ∷ r.0), r.1))
    else begun (going (start_type p k) (λ x. done (single_result x, ended InType)))
types_step kind Item.more_results p k = if is_sign s.Pipe k then takes (read Item.behind_bar done) else ends ([], ended InTuple)
types_step kind Item.behind_bar p k =
    if is_sign s.OpenParen k then takes (tuple_then λ a. read Item.more_results λ r. done (tuple a.0 a.1 ∷ r.0, r.1)) else ends ([], joined)
types_step kind Item.body_results p k =
    if is_sign s.OpenParen k then takes (tuple_then λ a. read Item.more_body_results λ r. done (results p (tuple a.0 a.1 ∷ r)))
    else begun (going (start_type p k) (λ x. done (single_result x)))
types_step kind Item.more_body_results p k =
    if is_sign s.Pipe k then takes (want (sign s.OpenParen) λ _. tuple_then λ a. read Item.more_body_results λ r. done (tuple a.0 a.1 ∷ r)) else ends []
types_step kind (Item.in_braces o) p k =
    if is_sign s.CloseBrace k then takes (done (t.Record o []))
    else (if is_sign s.OpenBracket k then takes (read Item.a_type λ x. want (sign s.CloseBracket) λ _. want (sign s.Colon) λ _. read Item.a_type λ y. want (sign s.CloseBrace) λ _. done (t.Map o x y))
    else if_name k (λ x. takes (read (Item.named_in_braces o (name_at p x)) done)) (begun (going (start_type p k) (λ x. want (sign s.CloseBrace) λ _. done (t.Array o x)))))
types_step kind (Item.named_in_braces o x) p k =
    if is_sign s.Colon k then takes (read Item.a_type λ a. read Item.more_of_fields λ fs. done (t.Record o (field x.pos false x a ∷ fs)))
    else if_name k
    (λ y. if is_text x.text (codes "const") then takes (want (sign s.Colon) λ _. read Item.a_type λ a. read Item.more_of_fields λ fs. done (t.Record o (field x.pos true (name_at p y) a ∷ fs))) else stuck)
    (both (name_step x.text k)
    (λ d. both (mark_step (t.Named x.pos d.0 d.1) k)
    (λ a. both (member_step (ended InItself) p k) (λ xs. if is_sign s.CloseBrace k then takes (done (t.Array o (union_of a xs))) else stuck) (λ xs. want (sign s.CloseBrace) λ _. done (t.Array o (union_of a xs))))
    (λ a. read (Item.more_of_union (ended InItself)) λ xs. want (sign s.CloseBrace) λ _. done (t.Array o (union_of a xs))))
    (λ d. read (Item.maybe_mark (t.Named x.pos d.0 d.1)) λ a. read (Item.more_of_union (ended InItself)) λ xs. want (sign s.CloseBrace) λ _. done (t.Array o (union_of a xs))))
types_step kind Item.more_of_fields p k =
    if is_sign s.Comma k then takes (read Item.next_field done) else (if is_sign s.CloseBrace k then takes (done []) else stuck)
types_step kind Item.next_field p k =
    if is_sign s.CloseBrace k then takes (done [])
    else if_name k (λ x. takes (read (Item.rest_of_field (name_at p x)) λ f. read Item.more_of_fields λ fs. done (f ∷ fs))) stuck
types_step kind (Item.rest_of_field x) p k = field_step x p k
types_step kind Item.fields_of_interface p k =
    if is_key w.End k then takes (done [])
    else if_name k (λ x. takes (read (Item.rest_of_field (name_at p x)) λ f. read Item.maybe_separator λ _. read Item.fields_of_interface λ fs. done (f ∷ fs))) stuck
types_step kind Item.maybe_separator p k =
    if is_sign s.Comma k then takes (done tt) else (if is_sign s.Semicolon k then takes (done tt) else ends tt)
types_step kind Item.annotation p k =
    if is_typed kind && is_sign s.Colon k then takes (read Item.a_type λ x. done (Some x)) else ends None
types_step kind Item.outcome p k =
    if is_typed kind && is_sign s.Colon k then takes (read Item.body_results λ r. done (Some r)) else ends None
types_step kind j p k = stuck

-- ---- expressions

abbrev pub unary_plan : ℕ → Pos → UnaryOperator → Plan (Expr × ℕ × Bool)
unary_plan n p o = read (Item.an_expr unary_level n) λ a. done (e.Unary p o a.0, a.1, a.2)

abbrev pub if_unary : {A : Type 0} → Option UnaryOperator → (UnaryOperator → A) → A → A
if_unary (Some o) f a = f o
if_unary None f a = a

abbrev pub if_binary : {A : Type 0} → Option BinaryOperator → (BinaryOperator → A) → A → A
if_binary (Some o) f a = f o
if_binary None f a = a

abbrev pub operand : ℕ → Pos → WordKind → Option (Plan (Expr × ℕ × Bool))
operand n p k =
    if is_key w.Nil k then Some (done (e.Nil p, n, false))
    else (if is_key w.False k then Some (done (e.Bool p false, n, false))
    else (if is_key w.True k then Some (done (e.Bool p true, n, false))
    else (if is_sign s.Dots k then Some (done (e.Vararg p, n, false))
    else (if is_key w.Function k then Some (read (Item.a_body n) λ b. done (e.Function p b.0, b.1, false))
    else (if is_sign s.OpenParen k then Some (read (Item.an_expr 1 n) λ a. want (sign s.CloseParen) λ _. read (Item.suffixes Enclosed (e.Paren p a.0) a.1) λ v. done (v.1, v.2, true))
    else (if is_sign s.OpenBrace k then Some (read (Item.entries n) λ es. done (e.Table p es.0, es.1, false))
    else if_number k (λ i. Some (done (e.Int p i, n, false))
    ) (if_text k (λ x. Some (done (e.Str p x, n, false))
    ) (if_name k (λ x. Some (read (Item.suffixes Target (e.Name p n x) (n + 1)) λ v. done (v.1, v.2, true))
    ) (if_unary (unary_at k) (λ o. Some (unary_plan n p o)) None)))))))))

abbrev pub start_expr : ℕ → ℕ → Pos → WordKind → Option (Plan (Expr × ℕ × Bool))
start_expr l n p k = going (operand n p k) (λ a. read (Item.operations l unary_level a.0 a.1 a.2) done)

abbrev pub start_exprs : ℕ → Pos → WordKind → Option (Plan (List Expr × ℕ × Bool))
start_exprs n p k = going (start_expr 1 n p k) (λ a. read (Item.more_exprs a.1 a.2) λ r. done (a.0 ∷ r.0, r.1, r.2))

-- operators between these two levels go on
abbrev pub operations_step : ℕ → ℕ → Expr → ℕ → Bool → WordKind → Reply (Expr × ℕ × Bool)
operations_step l h a n c k =
    if_binary (binary_at k)
    (λ o. if nat_le l (level o)
    then (if nat_le (left_level o) h then takes (read (Item.an_expr (right_level o) n) λ b. read (Item.operations l (level o) (e.Binary (place a) o a b.0) b.1 b.2) done) else stuck)
    else ends (a, n, c))
    (ends (a, n, c))

abbrev pub called : Expr → List Expr × ℕ → Plan (Form × Expr × ℕ)
called a es = done (Called, e.Call (place a) a es.0, es.1)

-- one more part of a prefix
abbrev pub suffix : Expr → ℕ → Pos → WordKind → Option (Plan (Form × Expr × ℕ))
suffix a n p k =
    if is_sign s.Dot k then Some (want_name λ x. done (Target, e.Field (place a) a x, n))
    else (if is_sign s.OpenBracket k then Some (read (Item.an_expr 1 n) λ b. want (sign s.CloseBracket) λ _. done (Target, e.Index (place a) a b.0, b.1))
    else (if is_sign s.Colon k then Some (want_name λ x. read (Item.some_arguments n) λ es. done (Called, e.Method (place a) a x es.0, es.1))
    else (if is_sign s.OpenParen k then Some (read (Item.rest_of_arguments n) λ es. called a es)
    else (if is_sign s.OpenBrace k then Some (read (Item.entries n) λ es. called a (e.Table p es.0 ∷ [], es.1))
    else if_text k (λ x. Some (called a (e.Str p x ∷ [], n))) None))))

abbrev pub suffix_step : Form → Expr → ℕ → Pos → WordKind → Reply (Form × Expr × ℕ)
suffix_step f a n p k = or_ends (going (suffix a n p k) (λ v. read (Item.suffixes v.0 v.1 v.2) done)) (f, a, n)

abbrev pub named_entry_step : Name → ℕ → Pos → WordKind → Reply (Entry × ℕ)
named_entry_step x n p k =
    if is_sign s.Assign k then takes (read (Item.an_expr 1 n) λ a. done (entry.Named x a.0, a.1))
    else both (suffix_step Target (e.Name x.pos n x.text) (n + 1) p k)
    (λ a. both (operations_step 1 unary_level a.1 a.2 true k) (λ c. ends (entry.Item c.0, c.1)) (λ c. done (entry.Item c.0, c.1)))
    (λ a. read (Item.operations 1 unary_level a.1 a.2 true) λ c. done (entry.Item c.0, c.1))

abbrev pub body_then : {A : Type 0} → ℕ → (Body × ℕ → Plan A) → Plan A
body_then n f = read (Item.params true) λ ps. read Item.outcome λ o. read (Item.a_block false n false) λ d. want (key w.End) λ _. f (body ps.0 ps.1 o (block d.0 d.1), d.2)

abbrev pub block_then : {A : Type 0} → ℕ → Keyword → (Block × ℕ → Plan A) → Plan A
block_then n x f = read (Item.a_block false n false) λ d. want (key x) λ _. f (block d.0 d.1, d.2)

abbrev pub exprs_step : ModuleKind → (j : Item) → Pos → WordKind → Reply (Gives j)
exprs_step kind (Item.an_expr l n) p k = begun (start_expr l n p k)
exprs_step kind (Item.operations l h a n c) p k = operations_step l h a n c k
exprs_step kind (Item.suffixes f a n) p k = suffix_step f a n p k
exprs_step kind (Item.some_arguments n) p k =
    if is_sign s.OpenParen k then takes (read (Item.rest_of_arguments n) done)
    else (if is_sign s.OpenBrace k then takes (read (Item.entries n) λ es. done (e.Table p es.0 ∷ [], es.1))
    else if_text k (λ x. takes (done (e.Str p x ∷ [], n))) stuck)
exprs_step kind (Item.rest_of_arguments n) p k =
    if is_sign s.CloseParen k then takes (done ([], n))
    else begun (going (start_exprs n p k) (λ es. want (sign s.CloseParen) λ _. done (es.0, es.1)))
exprs_step kind (Item.exprs n) p k = begun (start_exprs n p k)
exprs_step kind (Item.more_exprs n c) p k =
    if is_sign s.Comma k then takes (read (Item.an_expr 1 n) λ a. read (Item.more_exprs a.1 a.2) λ r. done (a.0 ∷ r.0, r.1, r.2)) else ends ([], n, c)
exprs_step kind (Item.entries n) p k =
    if is_sign s.CloseBrace k then takes (done ([], n))
    else (if is_sign s.OpenBracket k then takes (read (Item.an_expr 1 n) λ a. want (sign s.CloseBracket) λ _. want (sign s.Assign) λ _. read (Item.an_expr 1 a.1) λ d. read (Item.behind_entry d.1) λ r. done (entry.Keyed a.0 d.0 ∷ r.0, r.1))
    else if_name k (λ x. takes (read (Item.named_or_item (name_at p x) n) λ d. read (Item.behind_entry d.1) λ r. done (d.0 ∷ r.0, r.1)))
    (begun (going (start_expr 1 n p k) (λ a. read (Item.behind_entry a.1) λ r. done (entry.Item a.0 ∷ r.0, r.1)))))
exprs_step kind (Item.behind_entry n) p k =
    if is_sign s.CloseBrace k then takes (done ([], n))
    else (if is_sign s.Comma k then takes (read (Item.entries n) done)
    else (if is_sign s.Semicolon k then takes (read (Item.entries n) done) else stuck))
exprs_step kind (Item.named_or_item x n) p k = named_entry_step x n p k
exprs_step kind (Item.a_body n) p k = if is_sign s.OpenParen k then takes (body_then n done) else stuck
exprs_step kind (Item.params may_end) p k =
    if may_end && is_sign s.CloseParen k then takes (done ([], None))
    else (if is_sign s.Dots k then takes (read Item.annotation λ a. want (sign s.CloseParen) λ _. done ([], Some (rest_at p a)))
    else if_name k (λ x. takes (read Item.annotation λ a. read Item.more_params λ r. done (typed (name_at p x) a ∷ r.0, r.1))) stuck)
exprs_step kind Item.more_params p k =
    if is_sign s.CloseParen k then takes (done ([], None)) else (if is_sign s.Comma k then takes (read (Item.params false) done) else stuck)
exprs_step kind j p k = types_step kind j p k

-- ---- statements

abbrev pub generic_for_then : Pos → List Name → ℕ → Plan (Stat × ℕ)
generic_for_then p xs n = read (Item.exprs n) λ es. want (key w.Do) λ _. block_then es.1 w.End λ d. done (stat.GenericFor p xs es.0 d.0, d.1)

abbrev pub start_stat : Bool → ℕ → Pos → WordKind → Option (Plan (Stat × ℕ × Bool))
start_stat outer n p k =
    if is_sign s.Semicolon k then Some (done (stat.Empty p, n, false))
    else (if is_key w.Break k then Some (done (stat.Break p, n, false))
    else (if is_key w.Do k then Some (block_then n w.End λ d. done (stat.Do p d.0, d.1, false))
    else (if is_key w.While k then Some (read (Item.an_expr 1 n) λ a. want (key w.Do) λ _. block_then a.1 w.End λ d. done (stat.While p a.0 d.0, d.1, false))
    else (if is_key w.Repeat k then Some (block_then n w.Until λ d. read (Item.an_expr 1 d.1) λ a. done (stat.Repeat p d.0 a.0, a.1, a.2))
    else (if is_key w.If k then Some (read (Item.an_expr 1 n) λ a. want (key w.Then) λ _. read (Item.a_block false a.1 false) λ d. read (Item.more_clauses d.2) λ r. done (stat.If p (clause a.0 (block d.0 d.1) ∷ r.0) r.1, r.2, false))
    else (if is_key w.For k then Some (want_name λ x. read (Item.rest_of_for p x n) λ r. done (r.0, r.1, false))
    else (if is_key w.Function k then Some (want_name λ x. read (Item.rest_of_function p (e.Name x.pos n x.text) (n + 1)) λ r. done (r.0, r.1, false))
    else (if is_key w.Local k then Some (read (Item.rest_of_local p n) done)
    else (if is_sign s.OpenParen k then Some (read (Item.an_expr 1 n) λ a. want (sign s.CloseParen) λ _. read (Item.rest_of_stat Enclosed (e.Paren p a.0) a.1) done)
    else if_name k (λ x. Some (read (Item.behind_name outer (name_at p x) n) done)) None)))))))))

abbrev pub block_step : Bool → ℕ → Bool → Pos → WordKind → Reply (Gives (Item.a_block true 0 true))
block_step outer n c p k =
    if is_key w.Return k then takes (read (Item.return_values n) λ es. read Item.maybe_semicolon λ _. done ([], Some (returns p es.0), es.1))
    else (if c && opens k then stuck
    else or_ends (going (start_stat outer n p k) (λ x. read (Item.a_block outer x.1 x.2) λ r. done (x.0 ∷ r.0, r.1, r.2))) ([], None, n))

-- what takes the word, or else another reply
abbrev pub or_else : {A : Type 0} → Option (Plan A) → Reply A → Reply A
or_else None r = r
or_else (Some p) r = takes p

abbrev pub values_step : Form → Expr → ℕ → WordKind → Reply (Expr × List Expr × List Expr × ℕ × Bool)
values_step Target a n k =
    if is_sign s.Assign k then takes (read (Item.exprs n) λ es. done (a, [], es.0, es.1, es.2))
    else (if is_sign s.Comma k then takes (read (Item.next_target n) λ r. done (a, r.0 ∷ r.1, r.2, r.3, r.4)) else stuck)
values_step f a n k = stuck

abbrev pub targets_step : Form → Expr → ℕ → Pos → WordKind → Reply (Expr × List Expr × List Expr × ℕ × Bool)
targets_step f a n p k = or_else (going (suffix a n p k) (λ v. read (Item.targets v.0 v.1 v.2) done)) (values_step f a n k)

abbrev pub assigned : Expr × List Expr × List Expr × ℕ × Bool → Stat × ℕ × Bool
assigned r = (stat.Assign (place r.0) (r.0 ∷ r.1) r.2, r.3, r.4)

abbrev pub end_of_stat : Form → Expr → ℕ → WordKind → Reply (Stat × ℕ × Bool)
end_of_stat Called a n k = ends (stat.Call (place a) a, n, true)
end_of_stat f a n k = both (values_step f a n k) (λ r. stuck) (λ r. done (assigned r))

abbrev pub rest_of_stat_step : Form → Expr → ℕ → Pos → WordKind → Reply (Stat × ℕ × Bool)
rest_of_stat_step f a n p k = or_else (going (suffix a n p k) (λ v. read (Item.rest_of_stat v.0 v.1 v.2) done)) (end_of_stat f a n k)

abbrev pub type_stat_step : Name → ℕ → Pos → List ℕ → Reply (Stat × ℕ × Bool)
type_stat_step x n p y =
    if is_text x.text (codes "interface") then takes (read Item.fields_of_interface λ fs. done (stat.Interface x.pos (name_at p y) fs, n, true))
    else (if is_text x.text (codes "typealias") then takes (want (sign s.Assign) λ _. read Item.a_type λ a. done (stat.Alias x.pos (name_at p y) a, n, true)) else stuck)

abbrev pub step : ModuleKind → (j : Item) → Pos → WordKind → Reply (Gives j)
step kind (Item.a_block outer n c) p k = block_step outer n c p k
step kind (Item.return_values n) p k =
    or_ends (going (start_exprs n p k) (λ es. done (es.0, es.1))) ([], n)
step kind Item.maybe_semicolon p k = if is_sign s.Semicolon k then takes (done tt) else ends tt
step kind (Item.more_clauses n) p k =
    if is_key w.Elseif k then takes (read (Item.an_expr 1 n) λ a. want (key w.Then) λ _. read (Item.a_block false a.1 false) λ d. read (Item.more_clauses d.2) λ r. done (clause a.0 (block d.0 d.1) ∷ r.0, r.1, r.2))
    else (if is_key w.Else k then takes (block_then n w.End λ d. done ([], Some d.0, d.1))
    else (if is_key w.End k then takes (done ([], None, n)) else stuck))
step kind (Item.rest_of_for o x n) p k =
    if is_sign s.Assign k then takes (read (Item.an_expr 1 n) λ a. want (sign s.Comma) λ _. read (Item.an_expr 1 a.1) λ d. read (Item.maybe_step d.1) λ i. want (key w.Do) λ _. block_then i.1 w.End λ c. done (stat.NumericFor o x a.0 d.0 i.0 c.0, c.1))
    else (if is_sign s.Comma k then takes (want_name λ y. read Item.more_names λ ys. want (key w.In) λ _. generic_for_then o (x ∷ y ∷ ys) n)
    else (if is_key w.In k then takes (generic_for_then o (x ∷ []) n) else stuck))
step kind (Item.maybe_step n) p k = if is_sign s.Comma k then takes (read (Item.an_expr 1 n) λ a. done (Some a.0, a.1)) else ends (None, n)
step kind Item.more_names p k = if is_sign s.Comma k then takes (want_name λ y. read Item.more_names λ ys. done (y ∷ ys)) else ends []
step kind (Item.rest_of_function o a n) p k =
    if is_sign s.Dot k then takes (want_name λ x. read (Item.rest_of_function o (e.Field (place a) a x) n) done)
    else (if is_sign s.Colon k then takes (want_name λ x. read (Item.a_body n) λ d. done (stat.Method o a x (e.Function o d.0), d.1))
    else (if is_sign s.OpenParen k then takes (body_then n λ d. done (stat.Function o a (e.Function o d.0), d.1)) else stuck))
step kind (Item.rest_of_local o n) p k =
    if is_key w.Function k then takes (want_name λ x. read (Item.a_body n) λ d. done (stat.LocalFunction o x (e.Function o d.0), d.1, false))
    else if_name k (λ x. takes (read Item.annotation λ a. read Item.more_typed λ r. read (Item.maybe_init n) λ i. done (stat.Local o (typed (name_at p x) a ∷ r) i.0, i.1, i.2))) stuck
step kind Item.more_typed p k = if is_sign s.Comma k then takes (want_name λ x. read Item.annotation λ a. read Item.more_typed λ r. done (typed x a ∷ r)) else ends []
step kind (Item.maybe_init n) p k = if is_sign s.Assign k then takes (read (Item.exprs n) done) else ends ([], n, false)
step kind (Item.behind_name outer x n) p k =
    if outer && is_typed kind then if_name k (λ y. type_stat_step x n p y) (rest_of_stat_step Target (e.Name x.pos n x.text) (n + 1) p k)
    else rest_of_stat_step Target (e.Name x.pos n x.text) (n + 1) p k
step kind (Item.rest_of_stat f a n) p k = rest_of_stat_step f a n p k
step kind (Item.targets f a n) p k = targets_step f a n p k
step kind (Item.next_target n) p k =
    if is_sign s.OpenParen k then takes (read (Item.an_expr 1 n) λ a. want (sign s.CloseParen) λ _. read (Item.targets Enclosed (e.Paren p a.0) a.1) done)
    else if_name k (λ x. takes (read (Item.targets Target (e.Name p n x) (n + 1)) done)) stuck
step kind j p k = exprs_step kind j p k
