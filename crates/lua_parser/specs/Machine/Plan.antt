-- A reader of words: what it may still have to read, and what each part gives. It stands between grammar and code.
use Rattle.std.specs.Prelude.{ℕ, Bool, List, Option}
use Rattle.tl_base.specs.declared.place.Pos.{Pos}
use Rattle.lua_tree.specs.declared.annotation.Name.{Name}
use Rattle.lua_tree.specs.declared.annotation.Typed.{Typed}
use Rattle.lua_tree.specs.declared.annotation.TypeExpr.{TypeExpr}
use Rattle.lua_tree.specs.declared.annotation.TypeField.{TypeField}
use Rattle.lua_tree.specs.declared.annotation.TypeTuple.{TypeTuple}
use Rattle.lua_tree.specs.declared.annotation.TypeResults.{TypeResults}
use Rattle.lua_tree.specs.declared.syntax.Rest.{Rest}
use Rattle.lua_tree.specs.declared.syntax.Body.{Body}
use Rattle.lua_tree.specs.declared.syntax.Clause.{Clause}
use Rattle.lua_tree.specs.declared.syntax.Block.{Block}
use Rattle.lua_tree.specs.declared.syntax.Return.{Return}
use Rattle.lua_tree.specs.declared.syntax.Entry.{Entry}
use Rattle.lua_tree.specs.declared.syntax.Stat.{Stat}
use Rattle.lua_tree.specs.declared.syntax.Expr.{Expr}
use Rattle.lua_parser.specs.Words.{Mark}
use Rattle.lua_parser.specs.Grammar.Types.{Ending}
use Rattle.lua_parser.specs.Grammar.Syntax.{Form}

-- how a member of a union ended; where results are followed by `|` and no `(`, the `|` is already read
pub data After : Type 0 where
  ended : Ending → After
  joined : After

-- the parts of a module that are read as a whole; numbers are levels and the next number of a use
pub data Item : Type 0 where
  -- types
  a_type : Item
  a_member : Item
  a_plain_member : Item
  negated : Pos → Item
  more_of_union : After → Item
  more_of_name : List ℕ → Item
  maybe_mark : TypeExpr → Item
  a_tuple : Item
  more_of_tuple : TypeExpr → Item
  behind_tuple : Pos → List TypeExpr → Option TypeExpr → Item
  some_results : Item
  more_results : Item
  behind_bar : Item
  body_results : Item
  more_body_results : Item
  in_braces : Pos → Item
  named_in_braces : Pos → Name → Item
  more_of_fields : Item
  next_field : Item
  rest_of_field : Name → Item
  fields_of_interface : Item
  maybe_separator : Item
  -- expressions
  an_expr : ℕ → ℕ → Item
  operations : ℕ → ℕ → Expr → ℕ → Bool → Item
  suffixes : Form → Expr → ℕ → Item
  some_arguments : ℕ → Item
  rest_of_arguments : ℕ → Item
  exprs : ℕ → Item
  more_exprs : ℕ → Bool → Item
  entries : ℕ → Item
  behind_entry : ℕ → Item
  named_or_item : Name → ℕ → Item
  a_body : ℕ → Item
  params : Bool → Item
  more_params : Item
  annotation : Item
  outcome : Item
  -- statements
  a_block : Bool → ℕ → Bool → Item
  return_values : ℕ → Item
  maybe_semicolon : Item
  more_clauses : ℕ → Item
  rest_of_for : Pos → Name → ℕ → Item
  maybe_step : ℕ → Item
  more_names : Item
  rest_of_function : Pos → Expr → ℕ → Item
  rest_of_local : Pos → ℕ → Item
  more_typed : Item
  maybe_init : ℕ → Item
  behind_name : Bool → Name → ℕ → Item
  rest_of_stat : Form → Expr → ℕ → Item
  targets : Form → Expr → ℕ → Item
  next_target : ℕ → Item

-- what a part gives: its tree, for the most part with the next number of a use, and whether a call may follow
abbrev pub Gives : Item → Type 0
Gives Item.a_type = TypeExpr
Gives Item.a_member = TypeExpr × After
Gives Item.a_plain_member = TypeExpr
Gives (Item.negated p) = TypeExpr
Gives (Item.more_of_union a) = List TypeExpr
Gives (Item.more_of_name t) = List (List ℕ) × List ℕ
Gives (Item.maybe_mark t) = TypeExpr
Gives Item.a_tuple = List TypeExpr × Option TypeExpr
Gives (Item.more_of_tuple t) = List TypeExpr × Option TypeExpr
Gives (Item.behind_tuple p xs rest) = TypeExpr × After
Gives Item.some_results = TypeResults × After
Gives Item.more_results = List TypeTuple × After
Gives Item.behind_bar = List TypeTuple × After
Gives Item.body_results = TypeResults
Gives Item.more_body_results = List TypeTuple
Gives (Item.in_braces p) = TypeExpr
Gives (Item.named_in_braces p x) = TypeExpr
Gives Item.more_of_fields = List TypeField
Gives Item.next_field = List TypeField
Gives (Item.rest_of_field x) = TypeField
Gives Item.fields_of_interface = List TypeField
Gives Item.maybe_separator = Unit {0}
Gives (Item.an_expr l n) = Expr × ℕ × Bool
Gives (Item.operations l h a n c) = Expr × ℕ × Bool
Gives (Item.suffixes f a n) = Form × Expr × ℕ
Gives (Item.some_arguments n) = List Expr × ℕ
Gives (Item.rest_of_arguments n) = List Expr × ℕ
Gives (Item.exprs n) = List Expr × ℕ × Bool
Gives (Item.more_exprs n c) = List Expr × ℕ × Bool
Gives (Item.entries n) = List Entry × ℕ
Gives (Item.behind_entry n) = List Entry × ℕ
Gives (Item.named_or_item x n) = Entry × ℕ
Gives (Item.a_body n) = Body × ℕ
Gives (Item.params c) = List Typed × Option Rest
Gives Item.more_params = List Typed × Option Rest
Gives Item.annotation = Option TypeExpr
Gives Item.outcome = Option TypeResults
Gives (Item.a_block o n c) = List Stat × Option Return × ℕ
Gives (Item.return_values n) = List Expr × ℕ
Gives Item.maybe_semicolon = Unit {0}
Gives (Item.more_clauses n) = List Clause × Option Block × ℕ
Gives (Item.rest_of_for p x n) = Stat × ℕ
Gives (Item.maybe_step n) = Option Expr × ℕ
Gives Item.more_names = List Name
Gives (Item.rest_of_function p a n) = Stat × ℕ
Gives (Item.rest_of_local p n) = Stat × ℕ × Bool
Gives Item.more_typed = List Typed
Gives (Item.maybe_init n) = List Expr × ℕ × Bool
Gives (Item.behind_name o x n) = Stat × ℕ × Bool
Gives (Item.rest_of_stat f a n) = Stat × ℕ × Bool
Gives (Item.targets f a n) = Expr × List Expr × List Expr × ℕ × Bool
Gives (Item.next_target n) = Expr × List Expr × List Expr × ℕ × Bool

-- what is still to be read: nothing more, one word of fixed spelling, a name, or a part; and what then
pub data Plan (A : Type 0) : Type 0 where
  done : A → Plan A
  want : Mark → (Pos → Plan A) → Plan A
  want_name : (Name → Plan A) → Plan A
  read : (j : Item) → (Gives j → Plan A) → Plan A

-- what a part does at the next word: it can't go on, it ends before the word, or it takes the word
pub data Reply (A : Type 0) : Type 0 where
  stuck : Reply A
  ends : A → Reply A
  takes : Plan A → Reply A

abbrev pub onward : {A B : Type 0} → Plan A → (A → Plan B) → Plan B
onward (Plan.done a) f = f a
onward (Plan.want m k) f = Plan.want m (λ p. onward (k p) f)
onward (Plan.want_name k) f = Plan.want_name (λ x. onward (k x) f)
onward (Plan.read j k) f = Plan.read j (λ x. onward (k x) f)
