-- The trees over which typing, erasure and meaning are defined (Lua 5.3 manual, section 9, for the forms): one family, with a kind of list for each place where trees stand in a row.
-- An expression that can give any number of values, a call or `...`, is a form of its own. Where one value is wanted, its first is taken (3.4).
use Rattle.std.specs.Prelude.{ℕ, ℤ, Bool, List, Option}
use Rattle.tl_base.specs.declared.place.Pos.{Pos}
use Rattle.tl_base.specs.declared.crossing.CrossKind.{CrossKind}
use Rattle.lua_tree.specs.declared.annotation.Name.{Name}
use Rattle.lua_tree.specs.declared.annotation.Typed.{Typed}
use Rattle.lua_tree.specs.declared.annotation.TypeExpr.{TypeExpr}
use Rattle.lua_tree.specs.declared.annotation.TypeField.{TypeField}
use Rattle.lua_tree.specs.declared.annotation.TypeResults.{TypeResults}
use Rattle.lua_tree.specs.declared.syntax.UnaryOperator.{UnaryOperator}
use Rattle.lua_tree.specs.declared.syntax.BinaryOperator.{BinaryOperator}
use Rattle.lua_tree.specs.declared.syntax.Rest.{Rest}

mutual
  pub data Exp : Type 0 where
    nothing : Pos → Exp
    truth : Pos → Bool → Exp
    integer : Pos → ℤ → Exp
    text : Pos → List ℕ → Exp
    function : Pos → Function → Exp
    -- a use of a name, with its number
    name : Pos → ℕ → List ℕ → Exp
    paren : Pos → Exp → Exp
    field : Pos → Exp → Name → Exp
    index : Pos → Exp → Exp → Exp
    table : Pos → Entries → Exp
    unary : Pos → UnaryOperator → Exp → Exp
    binary : Pos → BinaryOperator → Exp → Exp → Exp
    -- a crossing, passed when the value is there
    mark : CrossKind → Exp → Exp
    -- the first value, nil where there is none
    one_of : Multi → Exp

  -- what gives any number of values
  pub data Multi : Type 0 where
    vararg : Pos → Multi
    call : Pos → Exp → Exps → Multi
    method : Pos → Exp → Name → Exps → Multi
    mark_all : CrossKind → Multi → Multi

  -- a list of values: one from each expression, and all that the last one gives
  pub data Exps : Type 0 where
    none : Exps
    ends : Multi → Exps
    more : Exp → Exps → Exps

  pub data Entries : Type 0 where
    no_entry : Entries
    all_items : Multi → Entries
    item : Exp → Entries → Entries
    named : Name → Exp → Entries → Entries
    keyed : Exp → Exp → Entries → Entries

  -- the parameters, the rest of the arguments, the results' types and the body
  pub data Function : Type 0 where
    function_of : List Typed → Option Rest → Option TypeResults → Block → Function

  pub data Stat : Type 0 where
    empty : Pos → Stat
    assign : Pos → Targets → Exps → Stat
    run : Pos → Exp → Stat
    leave : Pos → Stat
    scope : Pos → Block → Stat
    while : Pos → Exp → Block → Stat
    repeat : Pos → Block → Exp → Stat
    choose : Pos → Clauses → Else → Stat
    count : Pos → Name → Exp → Exp → Step → Block → Stat
    each : Pos → List Name → Exps → Block → Stat
    define : Pos → Exp → Exp → Stat
    define_method : Pos → Exp → Name → Exp → Stat
    declare_function : Pos → Name → Exp → Stat
    declare : Pos → List Typed → Exps → Stat
    interface : Pos → Name → List TypeField → Stat
    alias : Pos → Name → TypeExpr → Stat

  pub data Targets : Type 0 where
    no_target : Targets
    target : Exp → Targets → Targets

  pub data Clauses : Type 0 where
    no_clause : Clauses
    clause : Exp → Block → Clauses → Clauses

  pub data Else : Type 0 where
    no_else : Else
    else_do : Block → Else

  pub data Step : Type 0 where
    no_step : Step
    step : Exp → Step

  -- statements, which end with the block or with a `return`
  pub data Block : Type 0 where
    finish : Block
    returns : Pos → Exps → Block
    next : Stat → Block → Block

-- a mark on an expression stands where its values are
abbrev pub marked : CrossKind → Exp → Exp
marked k (one_of m) = one_of (mark_all k m)
marked k e = mark k e

-- a list of values with one expression more before it: alone, an expression gives all its values
abbrev pub push : Exp → Exps → Exps
push (one_of m) none = ends m
push e es = more e es

abbrev pub push_item : Exp → Entries → Entries
push_item (one_of m) no_entry = all_items m
push_item e es = item e es
