-- How expressions, statements and blocks are spelled (Lua 5.3 manual, sections 3.3, 3.4 and 9). Uses of names are numbered in order of place:
-- of two numbers in a row the first is the next one before the words, the second the next one behind them.
use Rattle.std.specs.Prelude.{◌≡◌, ℕ, ◌+◌, ◌≤◌, ℤ, Bool, true, false, List, [], ◌∷◌, ◌++◌, Option, Some, None, codes}
use Rattle.tl_base.specs.declared.place.Pos.{Pos}
use Rattle.tl_base.specs.declared.place.ModuleKind.{ModuleKind}
use Rattle.tl_base.specs.declared.place.ModuleKind.TheVariants as module_kind
use Rattle.lua_tree.specs.declared.annotation.Name.{Name}
use Rattle.lua_tree.specs.declared.annotation.Typed.{Typed}
use Rattle.lua_tree.specs.declared.annotation.TypeExpr.{TypeExpr}
use Rattle.lua_tree.specs.declared.annotation.TypeField.{TypeField}
use Rattle.lua_tree.specs.declared.annotation.TypeResults.{TypeResults}
use Rattle.lua_tree.specs.declared.syntax.UnaryOperator.{UnaryOperator}
use Rattle.lua_tree.specs.declared.syntax.BinaryOperator.{BinaryOperator}
use Rattle.lua_tree.specs.declared.syntax.Rest.{Rest}
use Rattle.lua_tree.specs.declared.syntax.Body.{Body}
use Rattle.lua_tree.specs.declared.syntax.Clause.{Clause}
use Rattle.lua_tree.specs.declared.syntax.Block.{Block}
use Rattle.lua_tree.specs.declared.syntax.Return.{Return}
use Rattle.lua_tree.specs.declared.syntax.Entry.{Entry}
use Rattle.lua_tree.specs.declared.syntax.Stat.{Stat}
use Rattle.lua_tree.specs.declared.syntax.Entry.TheVariants as entry
use Rattle.lua_tree.specs.declared.syntax.Entry.TheViews.{roll-Block, roll-Body, roll-Clause, roll-Return}
use Rattle.lua_tree.specs.declared.syntax.Expr.{Expr, Nil, Bool as BoolExpr, Int, Str, Vararg, Function', Name as NameExpr, Paren', Field', Index', Call', Method', Table', Unary', Binary'}
use Rattle.lua_tree.specs.declared.syntax.Expr.TheVariants as e
use Rattle.lua_tree.specs.declared.syntax.Stat.TheVariants as stat
use Rattle.lua_lexer.specs.declared.token.Keyword.TheVariants as w
use Rattle.lua_lexer.specs.declared.token.Symbol.TheVariants as s
use Rattle.lua_parser.specs.Words.{Word, Words, keyword, symbol, marked, end_of_file, named, numeral, quoted, name_at}
use Rattle.lua_parser.specs.Grammar.Levels.{unary_mark, binary_mark, level, unary_level, left_level, right_level}
use Rattle.lua_parser.specs.Grammar.Types.{Ending, begins_open, SpellsType, SpellsResults, SpellsInterface}

-- the place of an expression's first token; marks are in no text
abbrev pub place : Expr → Pos
place (Nil p) = p
place (BoolExpr p b) = p
place (Int p n) = p
place (Str p n) = p
place (Vararg p) = p
place (Function' p c b) = p
place (NameExpr p n x) = p
place (Paren' p c a) = p
place (Field' p c a x) = p
place (Index' p c a d b) = p
place (Call' p c a d b) = p
place (Method' p c a x d b) = p
place (Table' p c a) = p
place (Unary' p o c a) = p
place (Binary' p o c a d b) = p
place _ = record { «module» = 0; line = 0; column = 0 }

abbrev pub clause : Expr → Block → Clause
clause condition inside = roll-Clause (record { condition = condition; block = inside })

abbrev pub block : List Stat → Option Return → Block
block stats result = roll-Block (record { stats = stats; result = result })

abbrev pub returns : Pos → List Expr → Return
returns p values = roll-Return (record { pos = p; values = values })

abbrev pub body : List Typed → Option Rest → Option TypeResults → Block → Body
body params rest results inside = roll-Body (record { params = params; rest = rest; results = results; block = inside })

abbrev pub typed : Name → Option TypeExpr → Typed
typed x ty = record { name = x; ty = ty }

abbrev pub rest_at : Pos → Option TypeExpr → Rest
rest_at p ty = record { pos = p; ty = ty }

-- what a prefix is: a name, a field or an index, which can be assigned to; a call; or an expression in parentheses
pub data Form : Type 0 where
  Target : Form
  Called : Form
  Enclosed : Form

-- a colon and a type, in typed modules alone, or nothing
pub data SpellsAnnotation (kind : ModuleKind) : Option TypeExpr → Words → Type 0 where
  no_annotation : SpellsAnnotation kind None []
  annotation : {x : TypeExpr} {ts : Words} (q : Pos) → kind ≡ module_kind.Typed → SpellsType x ts → SpellsAnnotation kind (Some x) (symbol s.Colon q ∷ ts)

pub data SpellsTyped (kind : ModuleKind) : Typed → Words → Type 0 where
  declared : {a : Option TypeExpr} {ts : Words} (x : Name) → SpellsAnnotation kind a ts → SpellsTyped kind (typed x a) (named x ∷ ts)

pub data SpellsTypeds (kind : ModuleKind) : List Typed → Words → Type 0 where
  last_typed : {x : Typed} {ts : Words} → SpellsTyped kind x ts → SpellsTypeds kind (x ∷ []) ts
  more_typed : {x : Typed} {xs : List Typed} {ts us : Words} (q : Pos) → SpellsTyped kind x ts → SpellsTypeds kind xs us → SpellsTypeds kind (x ∷ xs) (ts ++ symbol s.Comma q ∷ us)

-- parameters, the last of them maybe `...`
pub data SpellsParams (kind : ModuleKind) : List Typed → Option Rest → Words → Type 0 where
  last_param : {x : Typed} {ts : Words} → SpellsTyped kind x ts → SpellsParams kind (x ∷ []) None ts
  rest_param : {a : Option TypeExpr} {ts : Words} (p : Pos) → SpellsAnnotation kind a ts → SpellsParams kind [] (Some (rest_at p a)) (symbol s.Dots p ∷ ts)
  more_params : {x : Typed} {xs : List Typed} {r : Option Rest} {ts us : Words} (q : Pos) → SpellsTyped kind x ts → SpellsParams kind xs r us → SpellsParams kind (x ∷ xs) r (ts ++ symbol s.Comma q ∷ us)

pub data SpellsParameters (kind : ModuleKind) : List Typed → Option Rest → Words → Type 0 where
  no_params : SpellsParameters kind [] None []
  some_params : {xs : List Typed} {r : Option Rest} {ts : Words} → SpellsParams kind xs r ts → SpellsParameters kind xs r ts

-- the results of a body: a colon and results, in typed modules alone, or nothing
pub data SpellsOutcome (kind : ModuleKind) : Option TypeResults → Words → Type 0 where
  no_outcome : SpellsOutcome kind None []
  outcome : {reach : Ending} {r : TypeResults} {ts : Words} (q : Pos) → kind ≡ module_kind.Typed → SpellsResults reach r ts → SpellsOutcome kind (Some r) (symbol s.Colon q ∷ ts)

pub data SpellsNames : List Name → Words → Type 0 where
  last_name : (x : Name) → SpellsNames (x ∷ []) (named x ∷ [])
  more_names : {xs : List Name} {ts : Words} (x : Name) (q : Pos) → SpellsNames xs ts → SpellsNames (x ∷ xs) (named x ∷ symbol s.Comma q ∷ ts)

-- what is declared by a function statement, up to the method's name
pub data SpellsPath : ℕ → ℕ → Expr → Words → Type 0 where
  path_name : (n : ℕ) (x : Name) → SpellsPath n (n + 1) (e.Name x.pos n x.text) (named x ∷ [])
  path_field : {n m : ℕ} {a : Expr} {ts : Words} (q : Pos) (x : Name) → SpellsPath n m a ts → SpellsPath n m (e.Field (place a) a x) (ts ++ symbol s.Dot q ∷ named x ∷ [])

pub data SpellsSemicolon : Words → Type 0 where
  no_semicolon : SpellsSemicolon []
  semicolon_after : (p : Pos) → SpellsSemicolon (symbol s.Semicolon p ∷ [])

-- a separator of entries
pub data SpellsEntrySeparator : Word → Type 0 where
  comma_between : (p : Pos) → SpellsEntrySeparator (symbol s.Comma p)
  semicolon_between : (p : Pos) → SpellsEntrySeparator (symbol s.Semicolon p)

mutual
  -- An expression of at least this level. The Bool says whether it ends in a prefix, so that a call may follow.
  pub data Spells (kind : ModuleKind) : ℕ → ℕ → ℕ → Bool → Expr → Words → Type 0 where
    nil : {l n : ℕ} (p : Pos) → Spells kind l n n false (e.Nil p) (keyword w.Nil p ∷ [])
    false_word : {l n : ℕ} (p : Pos) → Spells kind l n n false (e.Bool p false) (keyword w.False p ∷ [])
    true_word : {l n : ℕ} (p : Pos) → Spells kind l n n false (e.Bool p true) (keyword w.True p ∷ [])
    integer : {l n : ℕ} (p : Pos) (i : ℤ) → Spells kind l n n false (e.Int p i) (numeral i p ∷ [])
    string : {l n : ℕ} (p : Pos) (t : List ℕ) → Spells kind l n n false (e.Str p t) (quoted t p ∷ [])
    vararg : {l n : ℕ} (p : Pos) → Spells kind l n n false (e.Vararg p) (symbol s.Dots p ∷ [])
    function : {l n m : ℕ} {b : Body} {ts : Words} (p : Pos) → SpellsBody kind n m b ts → Spells kind l n m false (e.Function p b) (keyword w.Function p ∷ ts)
    prefix : {l n m : ℕ} {f : Form} {a : Expr} {ts : Words} → SpellsPrefix kind f n m a ts → Spells kind l n m true a ts
    table : {l n m : ℕ} {es : List Entry} {ts : Words} (p : Pos) → SpellsEntries kind n m es ts → Spells kind l n m false (e.Table p es) (symbol s.OpenBrace p ∷ ts)
    unary : {l n m : ℕ} {c : Bool} {a : Expr} {ts : Words} (p : Pos) (o : UnaryOperator) → Spells kind unary_level n m c a ts → Spells kind l n m c (e.Unary p o a) (marked (unary_mark o) p ∷ ts)
    binary : {l n m k : ℕ} {c d : Bool} {a b : Expr} {ts us : Words} (q : Pos) (o : BinaryOperator) → l ≤ level o → Spells kind (left_level o) n m c a ts → Spells kind (right_level o) m k d b us
        → Spells kind l n k d (e.Binary (place a) o a b) (ts ++ marked (binary_mark o) q ∷ us)

  pub data SpellsPrefix (kind : ModuleKind) : Form → ℕ → ℕ → Expr → Words → Type 0 where
    name : (n : ℕ) (x : Name) → SpellsPrefix kind Target n (n + 1) (e.Name x.pos n x.text) (named x ∷ [])
    paren : {n m : ℕ} {c : Bool} {a : Expr} {ts : Words} (p q : Pos) → Spells kind 1 n m c a ts → SpellsPrefix kind Enclosed n m (e.Paren p a) (symbol s.OpenParen p ∷ ts ++ symbol s.CloseParen q ∷ [])
    field : {n m : ℕ} {f : Form} {a : Expr} {ts : Words} (q : Pos) (x : Name) → SpellsPrefix kind f n m a ts → SpellsPrefix kind Target n m (e.Field (place a) a x) (ts ++ symbol s.Dot q ∷ named x ∷ [])
    index : {n m k : ℕ} {f : Form} {c : Bool} {a b : Expr} {ts us : Words} (p q : Pos) → SpellsPrefix kind f n m a ts → Spells kind 1 m k c b us
        → SpellsPrefix kind Target n k (e.Index (place a) a b) (ts ++ (symbol s.OpenBracket p ∷ us ++ (symbol s.CloseBracket q ∷ [])))
    call : {n m k : ℕ} {f : Form} {a : Expr} {es : List Expr} {ts us : Words} → SpellsPrefix kind f n m a ts → SpellsArguments kind m k es us
        → SpellsPrefix kind Called n k (e.Call (place a) a es) (ts ++ us)
    method : {n m k : ℕ} {f : Form} {a : Expr} {es : List Expr} {ts us : Words} (q : Pos) (x : Name) → SpellsPrefix kind f n m a ts → SpellsArguments kind m k es us
        → SpellsPrefix kind Called n k (e.Method (place a) a x es) (ts ++ symbol s.Colon q ∷ named x ∷ us)

  pub data SpellsArguments (kind : ModuleKind) : ℕ → ℕ → List Expr → Words → Type 0 where
    no_arguments : {n : ℕ} (p q : Pos) → SpellsArguments kind n n [] (symbol s.OpenParen p ∷ symbol s.CloseParen q ∷ [])
    arguments : {n m : ℕ} {c : Bool} {es : List Expr} {ts : Words} (p q : Pos) → SpellsList kind n m c es ts → SpellsArguments kind n m es (symbol s.OpenParen p ∷ ts ++ symbol s.CloseParen q ∷ [])
    table_argument : {n m : ℕ} {es : List Entry} {ts : Words} (p : Pos) → SpellsEntries kind n m es ts → SpellsArguments kind n m (e.Table p es ∷ []) (symbol s.OpenBrace p ∷ ts)
    string_argument : {n : ℕ} (p : Pos) (t : List ℕ) → SpellsArguments kind n n (e.Str p t ∷ []) (quoted t p ∷ [])

  pub data SpellsList (kind : ModuleKind) : ℕ → ℕ → Bool → List Expr → Words → Type 0 where
    last : {n m : ℕ} {c : Bool} {a : Expr} {ts : Words} → Spells kind 1 n m c a ts → SpellsList kind n m c (a ∷ []) ts
    more : {n m k : ℕ} {c d : Bool} {a : Expr} {es : List Expr} {ts us : Words} (q : Pos) → Spells kind 1 n m c a ts → SpellsList kind m k d es us → SpellsList kind n k d (a ∷ es) (ts ++ symbol s.Comma q ∷ us)

  -- the entries of a table, with the brace behind them
  pub data SpellsEntries (kind : ModuleKind) : ℕ → ℕ → List Entry → Words → Type 0 where
    no_entry : {n : ℕ} (q : Pos) → SpellsEntries kind n n [] (symbol s.CloseBrace q ∷ [])
    last_entry : {n m : ℕ} {x : Entry} {ts : Words} (q : Pos) → SpellsEntry kind n m x ts → SpellsEntries kind n m (x ∷ []) (ts ++ symbol s.CloseBrace q ∷ [])
    more_entries : {n m k : ℕ} {x : Entry} {xs : List Entry} {ts us : Words} {between : Word} → SpellsEntry kind n m x ts → SpellsEntrySeparator between → SpellsEntries kind m k xs us
        → SpellsEntries kind n k (x ∷ xs) (ts ++ between ∷ us)

  pub data SpellsEntry (kind : ModuleKind) : ℕ → ℕ → Entry → Words → Type 0 where
    keyed : {n m k : ℕ} {c d : Bool} {a b : Expr} {ts us : Words} (p q o : Pos) → Spells kind 1 n m c a ts → Spells kind 1 m k d b us
        → SpellsEntry kind n k (entry.Keyed a b) (symbol s.OpenBracket p ∷ ts ++ (symbol s.CloseBracket q ∷ symbol s.Assign o ∷ us))
    named_entry : {n m : ℕ} {c : Bool} {a : Expr} {ts : Words} (x : Name) (q : Pos) → Spells kind 1 n m c a ts → SpellsEntry kind n m (entry.Named x a) (named x ∷ symbol s.Assign q ∷ ts)
    item : {n m : ℕ} {c : Bool} {a : Expr} {ts : Words} → Spells kind 1 n m c a ts → SpellsEntry kind n m (entry.Item a) ts

  pub data SpellsBody (kind : ModuleKind) : ℕ → ℕ → Body → Words → Type 0 where
    function_body : {n m : ℕ} {xs : List Typed} {r : Option Rest} {o : Option TypeResults} {ss : List Stat} {end : Option Return} {ts us vs : Words} (p q z : Pos)
        → SpellsParameters kind xs r ts → SpellsOutcome kind o us → SpellsBlock kind false n m ss end vs
        → SpellsBody kind n m (body xs r o (block ss end)) (symbol s.OpenParen p ∷ ts ++ (symbol s.CloseParen q ∷ us ++ (vs ++ (keyword w.End z ∷ []))))

  -- The statements of a block and the `return` at its end. The Bool says whether it is the outermost block.
  -- A statement whose last expression can take a call is not followed by `(`.
  pub data SpellsBlock (kind : ModuleKind) : Bool → ℕ → ℕ → List Stat → Option Return → Words → Type 0 where
    no_stats : {outer : Bool} {n : ℕ} → SpellsBlock kind outer n n [] None []
    return_stat : {outer : Bool} {n m : ℕ} {es : List Expr} {ts us : Words} (p : Pos) → SpellsValues kind n m es ts → SpellsSemicolon us
        → SpellsBlock kind outer n m [] (Some (returns p es)) (keyword w.Return p ∷ ts ++ us)
    next_stat : {outer : Bool} {n m k : ℕ} {c : Bool} {x : Stat} {ss : List Stat} {end : Option Return} {ts us : Words} → SpellsStat kind outer n m c x ts → SpellsBlock kind outer m k ss end us
        → (c ≡ true → begins_open us ≡ false) → SpellsBlock kind outer n k (x ∷ ss) end (ts ++ us)

  pub data SpellsValues (kind : ModuleKind) : ℕ → ℕ → List Expr → Words → Type 0 where
    no_values : {n : ℕ} → SpellsValues kind n n [] []
    values : {n m : ℕ} {c : Bool} {es : List Expr} {ts : Words} → SpellsList kind n m c es ts → SpellsValues kind n m es ts

  -- The second Bool says whether a call may follow the last expression; a type statement counts as one that it may follow.
  pub data SpellsStat (kind : ModuleKind) : Bool → ℕ → ℕ → Bool → Stat → Words → Type 0 where
    empty : {outer : Bool} {n : ℕ} (p : Pos) → SpellsStat kind outer n n false (stat.Empty p) (symbol s.Semicolon p ∷ [])
    assign : {outer : Bool} {n m k : ℕ} {c : Bool} {x : Expr} {xs es : List Expr} {ts us : Words} (q : Pos) → SpellsTargets kind n m x xs ts → SpellsList kind m k c es us
        → SpellsStat kind outer n k c (stat.Assign (place x) (x ∷ xs) es) (ts ++ symbol s.Assign q ∷ us)
    call_stat : {outer : Bool} {n m : ℕ} {a : Expr} {ts : Words} → SpellsPrefix kind Called n m a ts → SpellsStat kind outer n m true (stat.Call (place a) a) ts
    break_stat : {outer : Bool} {n : ℕ} (p : Pos) → SpellsStat kind outer n n false (stat.Break p) (keyword w.Break p ∷ [])
    do_stat : {outer : Bool} {n m : ℕ} {ss : List Stat} {end : Option Return} {ts : Words} (p z : Pos) → SpellsBlock kind false n m ss end ts
        → SpellsStat kind outer n m false (stat.Do p (block ss end)) (keyword w.Do p ∷ ts ++ keyword w.End z ∷ [])
    while_stat : {outer : Bool} {n m k : ℕ} {c : Bool} {a : Expr} {ss : List Stat} {end : Option Return} {ts us : Words} (p q z : Pos) → Spells kind 1 n m c a ts → SpellsBlock kind false m k ss end us
        → SpellsStat kind outer n k false (stat.While p a (block ss end)) (keyword w.While p ∷ ts ++ (keyword w.Do q ∷ us ++ (keyword w.End z ∷ [])))
    repeat_stat : {outer : Bool} {n m k : ℕ} {c : Bool} {a : Expr} {ss : List Stat} {end : Option Return} {ts us : Words} (p q : Pos) → SpellsBlock kind false n m ss end ts → Spells kind 1 m k c a us
        → SpellsStat kind outer n k c (stat.Repeat p (block ss end) a) (keyword w.Repeat p ∷ ts ++ keyword w.Until q ∷ us)
    if_stat : {outer : Bool} {n m : ℕ} {cs : List Clause} {d : Option Block} {ts : Words} (p : Pos) → SpellsClauses kind n m cs d ts → SpellsStat kind outer n m false (stat.If p cs d) (keyword w.If p ∷ ts)
    numeric_for : {outer : Bool} {n m k i j : ℕ} {c d : Bool} {a b : Expr} {step : Option Expr} {ss : List Stat} {end : Option Return} {ts us vs ws : Words} (p : Pos) (x : Name) (q o y z : Pos)
        → Spells kind 1 n m c a ts → Spells kind 1 m k d b us → SpellsStep kind k i step vs → SpellsBlock kind false i j ss end ws
        → SpellsStat kind outer n j false (stat.NumericFor p x a b step (block ss end))
        (keyword w.For p ∷ named x ∷ symbol s.Assign q ∷ ts ++ (symbol s.Comma o ∷ us ++ (vs ++ (keyword w.Do y ∷ ws ++ (keyword w.End z ∷ [])))))
    generic_for : {outer : Bool} {n m k : ℕ} {c : Bool} {xs : List Name} {es : List Expr} {ss : List Stat} {end : Option Return} {ts us vs : Words} (p q y z : Pos)
        → SpellsNames xs ts → SpellsList kind n m c es us → SpellsBlock kind false m k ss end vs
        → SpellsStat kind outer n k false (stat.GenericFor p xs es (block ss end)) (keyword w.For p ∷ ts ++ (keyword w.In q ∷ us ++ (keyword w.Do y ∷ vs ++ (keyword w.End z ∷ []))))
    function_stat : {outer : Bool} {n m k : ℕ} {a : Expr} {b : Body} {ts us : Words} (p : Pos) → SpellsPath n m a ts → SpellsBody kind m k b us
        → SpellsStat kind outer n k false (stat.Function p a (e.Function p b)) (keyword w.Function p ∷ ts ++ us)
    method_stat : {outer : Bool} {n m k : ℕ} {a : Expr} {b : Body} {ts us : Words} (p q : Pos) (x : Name) → SpellsPath n m a ts → SpellsBody kind m k b us
        → SpellsStat kind outer n k false (stat.Method p a x (e.Function p b)) (keyword w.Function p ∷ ts ++ symbol s.Colon q ∷ named x ∷ us)
    local_function : {outer : Bool} {n m : ℕ} {b : Body} {ts : Words} (p q : Pos) (x : Name) → SpellsBody kind n m b ts
        → SpellsStat kind outer n m false (stat.LocalFunction p x (e.Function p b)) (keyword w.Local p ∷ keyword w.Function q ∷ named x ∷ ts)
    local_stat : {outer : Bool} {n m : ℕ} {c : Bool} {xs : List Typed} {es : List Expr} {ts us : Words} (p : Pos) → SpellsTypeds kind xs ts → SpellsInit kind n m c es us
        → SpellsStat kind outer n m c (stat.Local p xs es) (keyword w.Local p ∷ ts ++ us)
    interface_stat : {n : ℕ} {fs : List TypeField} {ts : Words} (p : Pos) (x : Name) (z : Pos) → kind ≡ module_kind.Typed → SpellsInterface fs ts
        → SpellsStat kind true n n true (stat.Interface p x fs) (named (name_at p (codes "interface")) ∷ named x ∷ ts ++ keyword w.End z ∷ [])
    alias_stat : {n : ℕ} {a : TypeExpr} {ts : Words} (p : Pos) (x : Name) (q : Pos) → kind ≡ module_kind.Typed → SpellsType a ts
        → SpellsStat kind true n n true (stat.Alias p x a) (named (name_at p (codes "typealias")) ∷ named x ∷ symbol s.Assign q ∷ ts)

  -- the first target and the others
  pub data SpellsTargets (kind : ModuleKind) : ℕ → ℕ → Expr → List Expr → Words → Type 0 where
    last_target : {n m : ℕ} {a : Expr} {ts : Words} → SpellsPrefix kind Target n m a ts → SpellsTargets kind n m a [] ts
    more_targets : {n m k : ℕ} {a b : Expr} {bs : List Expr} {ts us : Words} (q : Pos) → SpellsPrefix kind Target n m a ts → SpellsTargets kind m k b bs us → SpellsTargets kind n k a (b ∷ bs) (ts ++ symbol s.Comma q ∷ us)

  -- from behind `if` or `elseif` up to the statement's `end`
  pub data SpellsClauses (kind : ModuleKind) : ℕ → ℕ → List Clause → Option Block → Words → Type 0 where
    next_clause : {n m k i : ℕ} {c : Bool} {a : Expr} {ss : List Stat} {end : Option Return} {cs : List Clause} {d : Option Block} {ts us vs : Words} (q : Pos)
        → Spells kind 1 n m c a ts → SpellsBlock kind false m k ss end us → SpellsElse kind k i cs d vs
        → SpellsClauses kind n i (clause a (block ss end) ∷ cs) d (ts ++ (keyword w.Then q ∷ us ++ vs))

  pub data SpellsElse (kind : ModuleKind) : ℕ → ℕ → List Clause → Option Block → Words → Type 0 where
    no_else : {n : ℕ} (z : Pos) → SpellsElse kind n n [] None (keyword w.End z ∷ [])
    else_block : {n m : ℕ} {ss : List Stat} {end : Option Return} {ts : Words} (q z : Pos) → SpellsBlock kind false n m ss end ts → SpellsElse kind n m [] (Some (block ss end)) (keyword w.Else q ∷ ts ++ keyword w.End z ∷ [])
    else_if : {n m : ℕ} {cs : List Clause} {d : Option Block} {ts : Words} (q : Pos) → SpellsClauses kind n m cs d ts → SpellsElse kind n m cs d (keyword w.Elseif q ∷ ts)

  pub data SpellsStep (kind : ModuleKind) : ℕ → ℕ → Option Expr → Words → Type 0 where
    no_step : {n : ℕ} → SpellsStep kind n n None []
    some_step : {n m : ℕ} {c : Bool} {a : Expr} {ts : Words} (q : Pos) → Spells kind 1 n m c a ts → SpellsStep kind n m (Some a) (symbol s.Comma q ∷ ts)

  pub data SpellsInit (kind : ModuleKind) : ℕ → ℕ → Bool → List Expr → Words → Type 0 where
    no_init : {n : ℕ} → SpellsInit kind n n false [] []
    some_init : {n m : ℕ} {c : Bool} {es : List Expr} {ts : Words} (q : Pos) → SpellsList kind n m c es ts → SpellsInit kind n m c es (symbol s.Assign q ∷ ts)

-- a module: its outermost block, and the end of the file
pub data SpellsChunk (kind : ModuleKind) : Block → Words → Type 0 where
  chunk : {m : ℕ} {ss : List Stat} {end : Option Return} {ts : Words} (z : Pos) → SpellsBlock kind true 0 m ss end ts → SpellsChunk kind (block ss end) (ts ++ end_of_file z ∷ [])
