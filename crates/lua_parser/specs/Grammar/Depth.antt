-- How deep each word of a module stands in constructs, and how high the expressions and types are that end with it.
-- The constructs are statements with blocks, function bodies, parentheses, brackets, braces, unary operators and right operands.
use Rattle.std.specs.Prelude.{ℕ, ◌+◌, ◌-◌, max, Bool, List, [], ◌∷◌, Option, reverse, codes}
use Rattle.tl_base.specs.declared.place.Pos.{Pos}
use Rattle.tl_base.specs.declared.place.ModuleKind.{ModuleKind}
use Rattle.lua_tree.specs.declared.annotation.Typed.{Typed}
use Rattle.lua_tree.specs.declared.annotation.TypeExpr.{TypeExpr}
use Rattle.lua_tree.specs.declared.annotation.TypeField.{TypeField}
use Rattle.lua_tree.specs.declared.annotation.TypeExpr.TheVariants as t
use Rattle.lua_tree.specs.declared.annotation.TypeTuple.{TypeTuple}
use Rattle.lua_tree.specs.declared.annotation.TypeResults.{TypeResults}
use Rattle.lua_tree.specs.declared.syntax.Rest.{Rest}
use Rattle.lua_tree.specs.declared.syntax.Body.{Body}
use Rattle.lua_tree.specs.declared.syntax.Clause.{Clause}
use Rattle.lua_tree.specs.declared.syntax.Block.{Block}
use Rattle.lua_tree.specs.declared.syntax.Return.{Return}
use Rattle.lua_tree.specs.declared.syntax.Entry.{Entry}
use Rattle.lua_tree.specs.declared.syntax.Stat.{Stat}
use Rattle.lua_tree.specs.declared.syntax.Expr.{Expr}
use Rattle.lua_tree.specs.declared.syntax.Expr.TheVariants as e
use Rattle.lua_tree.specs.View.{exp_of}
use Rattle.lua_tree.specs.Height.{height}
use Rattle.lua_lexer.specs.declared.token.Keyword.TheVariants as w
use Rattle.lua_lexer.specs.declared.token.Symbol.TheVariants as s
use Rattle.lua_parser.specs.Words.{Word, Words, WordKind, mark, sign, keyword, symbol, marked, end_of_file, named, numeral, quoted, name_at}
use Rattle.lua_parser.specs.Grammar.Levels.{unary_mark, binary_mark}
use Rattle.lua_parser.specs.Grammar.Types as type
use Rattle.lua_parser.specs.Grammar.Types.{Ending, tuple, SpellsDotted, SpellsSeparator, SpellsType, SpellsMembers, SpellsMember, SpellsSimple, SpellsFields, SpellsField, SpellsTuple, SpellsItems, SpellsTuples, SpellsResults, SpellsInterface}
use Rattle.lua_parser.specs.Grammar.Syntax.{Form, SpellsAnnotation, SpellsTyped, SpellsTypeds, SpellsParams, SpellsParameters, SpellsOutcome, SpellsPath, Spells, SpellsPrefix, SpellsArguments, SpellsList, SpellsEntries, SpellsEntry, SpellsBody, SpellsBlock, SpellsValues, SpellsStat, SpellsTargets, SpellsClauses, SpellsElse, SpellsStep, SpellsInit, SpellsChunk}
use Rattle.lua_parser.specs.Grammar.Heights.{type_height}

-- How many constructs a word is inside of, and the height of the highest expression or type that ends with it, 0 where none does.
-- The first word of a construct is not inside it, the last one is.
pub record Label : Type 0 where
  pub inside : ℕ
  pub ends : ℕ

-- What is known behind some words of a module: how many constructs are begun and not ended, how many begin with the next word, and the labels of the
-- words, the last word's first.
pub record Reached : Type 0 where
  pub begun : ℕ
  pub starting : ℕ
  pub labels : List Label

abbrev pub at_start : Reached
at_start = record { begun = 0; starting = 0; labels = [] }

-- Every pair of parentheses, brackets or braces is a construct.
abbrev pub opening : WordKind → ℕ
opening (mark (sign s.OpenParen)) = 1
opening (mark (sign s.OpenBracket)) = 1
opening (mark (sign s.OpenBrace)) = 1
opening kind = 0

abbrev pub closing : WordKind → ℕ
closing (mark (sign s.CloseParen)) = 1
closing (mark (sign s.CloseBracket)) = 1
closing (mark (sign s.CloseBrace)) = 1
closing kind = 0

-- one word more
abbrev pub word : Word → Reached → Reached
word x r = record { begun = r.begun + r.starting + opening x.kind - closing x.kind; starting = 0; labels = record { inside = r.begun; ends = 0 } ∷ r.labels }

abbrev pub words : Words → Reached → Reached
words [] r = r
words (x ∷ xs) r = words xs (word x r)

-- A construct begins with the next word; one ended with the last word.
abbrev pub begins : Reached → Reached
begins r = record { begun = r.begun; starting = r.starting + 1; labels = r.labels }

abbrev pub ends : Reached → Reached
ends r = record { begun = r.begun - 1; starting = r.starting; labels = r.labels }

-- An expression or type of this height ended with the last word.
abbrev pub at_last : ℕ → List Label → List Label
at_last h [] = []
at_last h (l ∷ ls) = record { inside = l.inside; ends = max l.ends h } ∷ ls

abbrev pub reaches : ℕ → Reached → Reached
reaches h r = record { begun = r.begun; starting = r.starting; labels = at_last h r.labels }

infixl 40 ◌▷◌
-- one part and then another
abbrev pub ◌▷◌ : (Reached → Reached) → (Reached → Reached) → Reached → Reached
(f ▷ g) r = g (f r)

-- a part that is a construct
abbrev pub construct : (Reached → Reached) → Reached → Reached
construct f = begins ▷ f ▷ ends

abbrev pub ended : Expr → Reached → Reached
ended a = reaches (height (exp_of a))

abbrev pub ended_type : TypeExpr → Reached → Reached
ended_type x = reaches (type_height x)

-- all the words of an expression or a type
abbrev pub whole : Expr → (Reached → Reached) → Reached → Reached
whole a f = f ▷ ended a

abbrev pub whole_type : TypeExpr → (Reached → Reached) → Reached → Reached
whole_type x f = f ▷ ended_type x

-- ---- types: their only constructs are parentheses, brackets and braces

abbrev mutual
  pub through_type : {x : TypeExpr} {ts : Words} → SpellsType x ts → Reached → Reached
  through_type (SpellsType.one_member d) = through_member d
  through_type (SpellsType.union_type {x = x} {y = y} {xs = xs} d) = whole_type (t.Union (type.place x) (x ∷ y ∷ xs)) (through_members d)

  pub through_members : {xs : List TypeExpr} {ts : Words} → SpellsMembers xs ts → Reached → Reached
  through_members (SpellsMembers.last_member d) = through_member d
  through_members (SpellsMembers.more_members q d f j) = through_member d ▷ word (symbol s.Pipe q) ▷ through_members f

  pub through_member : {e : Ending} {x : TypeExpr} {ts : Words} → SpellsMember e x ts → Reached → Reached
  through_member (SpellsMember.simple_type {x = x} d) = whole_type x (through_simple d)
  through_member (SpellsMember.optional_type {x = x} q d) = whole_type (t.Optional (type.place x) x) (whole_type x (through_simple d) ▷ word (symbol s.Question q))
  through_member (SpellsMember.function_type {xs = xs} {rest = rest} {r = r} p q o d f) =
      whole_type (t.Function p (tuple xs rest) r) (word (symbol s.OpenParen p) ▷ through_tuple d ▷ word (symbol s.CloseParen q) ▷ word (symbol s.Arrow o) ▷ through_results f)

  pub through_simple : {x : TypeExpr} {ts : Words} → SpellsSimple x ts → Reached → Reached
  through_simple (SpellsSimple.nil_type p) = word (keyword w.Nil p)
  through_simple (SpellsSimple.true_type p) = word (keyword w.True p)
  through_simple (SpellsSimple.false_type p) = word (keyword w.False p)
  through_simple (SpellsSimple.integer_type p n) = word (numeral n p)
  through_simple (SpellsSimple.negative_type p q n) = word (symbol s.Minus p) ▷ word (numeral n q)
  through_simple (SpellsSimple.text_type p x) = word (quoted x p)
  through_simple (SpellsSimple.dotted_type {ts = ts} d) = words ts
  through_simple (SpellsSimple.paren_type p q d) = word (symbol s.OpenParen p) ▷ through_type d ▷ word (symbol s.CloseParen q)
  through_simple (SpellsSimple.array_type p q d) = word (symbol s.OpenBrace p) ▷ through_type d ▷ word (symbol s.CloseBrace q)
  through_simple (SpellsSimple.map_type p q o k j d f) =
      word (symbol s.OpenBrace p) ▷ word (symbol s.OpenBracket q) ▷ through_type d ▷ word (symbol s.CloseBracket o) ▷ word (symbol s.Colon k) ▷ through_type f ▷ word (symbol s.CloseBrace j)
  through_simple (SpellsSimple.empty_record p q) = word (symbol s.OpenBrace p) ▷ word (symbol s.CloseBrace q)
  through_simple (SpellsSimple.record_type p d) = word (symbol s.OpenBrace p) ▷ through_fields d

  pub through_fields : {fs : List TypeField} {ts : Words} → SpellsFields fs ts → Reached → Reached
  through_fields (SpellsFields.last_field q d) = through_field d ▷ word (symbol s.CloseBrace q)
  through_fields (SpellsFields.last_field_comma q o d) = through_field d ▷ word (symbol s.Comma q) ▷ word (symbol s.CloseBrace o)
  through_fields (SpellsFields.more_fields q d f) = through_field d ▷ word (symbol s.Comma q) ▷ through_fields f

  pub through_field : {f : TypeField} {ts : Words} → SpellsField f ts → Reached → Reached
  through_field (SpellsField.plain_field n q d) = word (named n) ▷ word (symbol s.Colon q) ▷ through_type d
  through_field (SpellsField.const_field p n q d) = word (named (name_at p (codes "const"))) ▷ word (named n) ▷ word (symbol s.Colon q) ▷ through_type d

  pub through_tuple : {xs : List TypeExpr} {rest : Option TypeExpr} {ts : Words} → SpellsTuple xs rest ts → Reached → Reached
  through_tuple SpellsTuple.no_items = words []
  through_tuple (SpellsTuple.items d) = through_items d

  pub through_items : {xs : List TypeExpr} {rest : Option TypeExpr} {ts : Words} → SpellsItems xs rest ts → Reached → Reached
  through_items (SpellsItems.last_item d) = through_type d
  through_items (SpellsItems.tail_item q d) = through_type d ▷ word (symbol s.Star q)
  through_items (SpellsItems.more_items q d f) = through_type d ▷ word (symbol s.Comma q) ▷ through_items f

  pub through_tuples : {p : Pos} {xs : List TypeTuple} {ts : Words} → SpellsTuples p xs ts → Reached → Reached
  through_tuples (SpellsTuples.last_tuple p q d) = word (symbol s.OpenParen p) ▷ through_tuple d ▷ word (symbol s.CloseParen q)
  through_tuples (SpellsTuples.more_tuples p q o d f) = word (symbol s.OpenParen p) ▷ through_tuple d ▷ word (symbol s.CloseParen q) ▷ word (symbol s.Pipe o) ▷ through_tuples f

  pub through_results : {e : Ending} {r : TypeResults} {ts : Words} → SpellsResults e r ts → Reached → Reached
  through_results (SpellsResults.tuple_results d) = through_tuples d
  through_results (SpellsResults.type_results d j) = through_type d

abbrev pub through_interface : {fs : List TypeField} {ts : Words} → SpellsInterface fs ts → Reached → Reached
through_interface SpellsInterface.no_fields = words []
through_interface (SpellsInterface.next_field {us = us} d j f) = through_field d ▷ words us ▷ through_interface f

-- ---- declarations

abbrev pub through_annotation : {kind : ModuleKind} {a : Option TypeExpr} {ts : Words} → SpellsAnnotation kind a ts → Reached → Reached
through_annotation SpellsAnnotation.no_annotation = words []
through_annotation (SpellsAnnotation.annotation q h d) = word (symbol s.Colon q) ▷ through_type d

abbrev pub through_typed : {kind : ModuleKind} {x : Typed} {ts : Words} → SpellsTyped kind x ts → Reached → Reached
through_typed (SpellsTyped.declared x d) = word (named x) ▷ through_annotation d

abbrev pub through_typeds : {kind : ModuleKind} {xs : List Typed} {ts : Words} → SpellsTypeds kind xs ts → Reached → Reached
through_typeds (SpellsTypeds.last_typed d) = through_typed d
through_typeds (SpellsTypeds.more_typed q d f) = through_typed d ▷ word (symbol s.Comma q) ▷ through_typeds f

abbrev pub through_params : {kind : ModuleKind} {xs : List Typed} {r : Option Rest} {ts : Words} → SpellsParams kind xs r ts → Reached → Reached
through_params (SpellsParams.last_param d) = through_typed d
through_params (SpellsParams.rest_param p d) = word (symbol s.Dots p) ▷ through_annotation d
through_params (SpellsParams.more_params q d f) = through_typed d ▷ word (symbol s.Comma q) ▷ through_params f

abbrev pub through_parameters : {kind : ModuleKind} {xs : List Typed} {r : Option Rest} {ts : Words} → SpellsParameters kind xs r ts → Reached → Reached
through_parameters SpellsParameters.no_params = words []
through_parameters (SpellsParameters.some_params d) = through_params d

abbrev pub through_outcome : {kind : ModuleKind} {o : Option TypeResults} {ts : Words} → SpellsOutcome kind o ts → Reached → Reached
through_outcome SpellsOutcome.no_outcome = words []
through_outcome (SpellsOutcome.outcome q h d) = word (symbol s.Colon q) ▷ through_results d

-- The target of a function statement is an expression.
abbrev pub through_path : {n m : ℕ} {a : Expr} {ts : Words} → SpellsPath n m a ts → Reached → Reached
through_path (SpellsPath.path_name n x) = word (named x)
through_path (SpellsPath.path_field {a = a} q x d) = whole a (through_path d) ▷ word (symbol s.Dot q) ▷ word (named x)

-- ---- expressions, statements and blocks

abbrev mutual
  pub through_expr : {kind : ModuleKind} {l n m : ℕ} {c : Bool} {a : Expr} {ts : Words} → Spells kind l n m c a ts → Reached → Reached
  through_expr (Spells.nil p) = word (keyword w.Nil p)
  through_expr (Spells.false_word p) = word (keyword w.False p)
  through_expr (Spells.true_word p) = word (keyword w.True p)
  through_expr (Spells.integer p i) = word (numeral i p)
  through_expr (Spells.string p x) = word (quoted x p)
  through_expr (Spells.vararg p) = word (symbol s.Dots p)
  through_expr (Spells.function p d) = word (keyword w.Function p) ▷ through_body d
  through_expr (Spells.prefix d) = through_prefix d
  through_expr (Spells.table p d) = word (symbol s.OpenBrace p) ▷ through_entries d
  through_expr (Spells.unary {a = a} p o d) = construct (word (marked (unary_mark o) p) ▷ whole a (through_expr d))
  through_expr (Spells.binary {a = a} {b = b} q o l d f) = whole a (through_expr d) ▷ word (marked (binary_mark o) q) ▷ construct (whole b (through_expr f))

  pub through_prefix : {kind : ModuleKind} {f : Form} {n m : ℕ} {a : Expr} {ts : Words} → SpellsPrefix kind f n m a ts → Reached → Reached
  through_prefix (SpellsPrefix.name n x) = word (named x)
  through_prefix (SpellsPrefix.paren {a = a} p q d) = word (symbol s.OpenParen p) ▷ whole a (through_expr d) ▷ word (symbol s.CloseParen q)
  through_prefix (SpellsPrefix.field {a = a} q x d) = whole a (through_prefix d) ▷ word (symbol s.Dot q) ▷ word (named x)
  through_prefix (SpellsPrefix.index {a = a} {b = b} p q d f) = whole a (through_prefix d) ▷ word (symbol s.OpenBracket p) ▷ whole b (through_expr f) ▷ word (symbol s.CloseBracket q)
  through_prefix (SpellsPrefix.call {a = a} d f) = whole a (through_prefix d) ▷ through_arguments f
  through_prefix (SpellsPrefix.method {a = a} q x d f) = whole a (through_prefix d) ▷ word (symbol s.Colon q) ▷ word (named x) ▷ through_arguments f

  -- With an argument without parentheses the call ends too, which is higher.
  pub through_arguments : {kind : ModuleKind} {n m : ℕ} {es : List Expr} {ts : Words} → SpellsArguments kind n m es ts → Reached → Reached
  through_arguments (SpellsArguments.no_arguments p q) = word (symbol s.OpenParen p) ▷ word (symbol s.CloseParen q)
  through_arguments (SpellsArguments.arguments p q d) = word (symbol s.OpenParen p) ▷ through_list d ▷ word (symbol s.CloseParen q)
  through_arguments (SpellsArguments.table_argument p d) = word (symbol s.OpenBrace p) ▷ through_entries d
  through_arguments (SpellsArguments.string_argument p x) = word (quoted x p)

  pub through_list : {kind : ModuleKind} {n m : ℕ} {c : Bool} {es : List Expr} {ts : Words} → SpellsList kind n m c es ts → Reached → Reached
  through_list (SpellsList.last {a = a} d) = whole a (through_expr d)
  through_list (SpellsList.more {a = a} q d f) = whole a (through_expr d) ▷ word (symbol s.Comma q) ▷ through_list f

  pub through_entries : {kind : ModuleKind} {n m : ℕ} {es : List Entry} {ts : Words} → SpellsEntries kind n m es ts → Reached → Reached
  through_entries (SpellsEntries.no_entry q) = word (symbol s.CloseBrace q)
  through_entries (SpellsEntries.last_entry q d) = through_entry d ▷ word (symbol s.CloseBrace q)
  through_entries (SpellsEntries.more_entries {between = between} d j f) = through_entry d ▷ word between ▷ through_entries f

  pub through_entry : {kind : ModuleKind} {n m : ℕ} {x : Entry} {ts : Words} → SpellsEntry kind n m x ts → Reached → Reached
  through_entry (SpellsEntry.keyed {a = a} {b = b} p q o d f) = word (symbol s.OpenBracket p) ▷ whole a (through_expr d) ▷ word (symbol s.CloseBracket q) ▷ word (symbol s.Assign o) ▷ whole b (through_expr f)
  through_entry (SpellsEntry.named_entry {a = a} x q d) = word (named x) ▷ word (symbol s.Assign q) ▷ whole a (through_expr d)
  through_entry (SpellsEntry.item {a = a} d) = whole a (through_expr d)

  -- A function's body begins at the parenthesis of its parameters.
  pub through_body : {kind : ModuleKind} {n m : ℕ} {b : Body} {ts : Words} → SpellsBody kind n m b ts → Reached → Reached
  through_body (SpellsBody.function_body p q z d f g) =
      construct (word (symbol s.OpenParen p) ▷ through_parameters d ▷ word (symbol s.CloseParen q) ▷ through_outcome f ▷ through_block g ▷ word (keyword w.End z))

  pub through_block : {kind : ModuleKind} {outer : Bool} {n m : ℕ} {ss : List Stat} {end : Option Return} {ts : Words} → SpellsBlock kind outer n m ss end ts → Reached → Reached
  through_block SpellsBlock.no_stats = words []
  through_block (SpellsBlock.return_stat {us = us} p d j) = word (keyword w.Return p) ▷ through_values d ▷ words us
  through_block (SpellsBlock.next_stat d f j) = through_stat d ▷ through_block f

  pub through_values : {kind : ModuleKind} {n m : ℕ} {es : List Expr} {ts : Words} → SpellsValues kind n m es ts → Reached → Reached
  through_values SpellsValues.no_values = words []
  through_values (SpellsValues.values d) = through_list d

  pub through_stat : {kind : ModuleKind} {outer : Bool} {n m : ℕ} {c : Bool} {x : Stat} {ts : Words} → SpellsStat kind outer n m c x ts → Reached → Reached
  through_stat (SpellsStat.empty p) = word (symbol s.Semicolon p)
  through_stat (SpellsStat.assign q d f) = through_targets d ▷ word (symbol s.Assign q) ▷ through_list f
  through_stat (SpellsStat.call_stat {a = a} d) = whole a (through_prefix d)
  through_stat (SpellsStat.break_stat p) = word (keyword w.Break p)
  through_stat (SpellsStat.do_stat p z d) = construct (word (keyword w.Do p) ▷ through_block d ▷ word (keyword w.End z))
  through_stat (SpellsStat.while_stat {a = a} p q z d f) = construct (word (keyword w.While p) ▷ whole a (through_expr d) ▷ word (keyword w.Do q) ▷ through_block f ▷ word (keyword w.End z))
  through_stat (SpellsStat.repeat_stat {a = a} p q d f) = construct (word (keyword w.Repeat p) ▷ through_block d ▷ word (keyword w.Until q) ▷ whole a (through_expr f))
  through_stat (SpellsStat.if_stat p d) = construct (word (keyword w.If p) ▷ through_clauses d)
  through_stat (SpellsStat.numeric_for {a = a} {b = b} p x q o y z d f j g) =
      construct (word (keyword w.For p) ▷ word (named x) ▷ word (symbol s.Assign q) ▷ whole a (through_expr d) ▷ word (symbol s.Comma o) ▷ whole b (through_expr f) ▷ through_step j ▷ word (keyword w.Do y) ▷ through_block g ▷ word (keyword w.End z))
  through_stat (SpellsStat.generic_for {ts = ts} p q y z d f g) =
      construct (word (keyword w.For p) ▷ words ts ▷ word (keyword w.In q) ▷ through_list f ▷ word (keyword w.Do y) ▷ through_block g ▷ word (keyword w.End z))
  through_stat (SpellsStat.function_stat {a = a} {b = b} p d f) = word (keyword w.Function p) ▷ whole a (through_path d) ▷ whole (e.Function p b) (through_body f)
  through_stat (SpellsStat.method_stat {a = a} {b = b} p q x d f) = word (keyword w.Function p) ▷ whole a (through_path d) ▷ word (symbol s.Colon q) ▷ word (named x) ▷ whole (e.Function p b) (through_body f)
  through_stat (SpellsStat.local_function {b = b} p q x d) = word (keyword w.Local p) ▷ word (keyword w.Function q) ▷ word (named x) ▷ whole (e.Function p b) (through_body d)
  through_stat (SpellsStat.local_stat p d f) = word (keyword w.Local p) ▷ through_typeds d ▷ through_init f
  through_stat (SpellsStat.interface_stat p x z h d) = word (named (name_at p (codes "interface"))) ▷ word (named x) ▷ through_interface d ▷ word (keyword w.End z)
  through_stat (SpellsStat.alias_stat p x q h d) = word (named (name_at p (codes "typealias"))) ▷ word (named x) ▷ word (symbol s.Assign q) ▷ through_type d

  pub through_targets : {kind : ModuleKind} {n m : ℕ} {a : Expr} {bs : List Expr} {ts : Words} → SpellsTargets kind n m a bs ts → Reached → Reached
  through_targets (SpellsTargets.last_target {a = a} d) = whole a (through_prefix d)
  through_targets (SpellsTargets.more_targets {a = a} q d f) = whole a (through_prefix d) ▷ word (symbol s.Comma q) ▷ through_targets f

  pub through_clauses : {kind : ModuleKind} {n m : ℕ} {cs : List Clause} {b : Option Block} {ts : Words} → SpellsClauses kind n m cs b ts → Reached → Reached
  through_clauses (SpellsClauses.next_clause {a = a} q d f g) = whole a (through_expr d) ▷ word (keyword w.Then q) ▷ through_block f ▷ through_else g

  pub through_else : {kind : ModuleKind} {n m : ℕ} {cs : List Clause} {b : Option Block} {ts : Words} → SpellsElse kind n m cs b ts → Reached → Reached
  through_else (SpellsElse.no_else z) = word (keyword w.End z)
  through_else (SpellsElse.else_block q z d) = word (keyword w.Else q) ▷ through_block d ▷ word (keyword w.End z)
  through_else (SpellsElse.else_if q d) = word (keyword w.Elseif q) ▷ through_clauses d

  pub through_step : {kind : ModuleKind} {n m : ℕ} {a : Option Expr} {ts : Words} → SpellsStep kind n m a ts → Reached → Reached
  through_step SpellsStep.no_step = words []
  through_step (SpellsStep.some_step {a = a} q d) = word (symbol s.Comma q) ▷ whole a (through_expr d)

  pub through_init : {kind : ModuleKind} {n m : ℕ} {c : Bool} {es : List Expr} {ts : Words} → SpellsInit kind n m c es ts → Reached → Reached
  through_init SpellsInit.no_init = words []
  through_init (SpellsInit.some_init q d) = word (symbol s.Assign q) ▷ through_list d

abbrev pub through_chunk : {kind : ModuleKind} {b : Block} {ts : Words} → SpellsChunk kind b ts → Reached → Reached
through_chunk (SpellsChunk.chunk z d) = through_block d ▷ word (end_of_file z)

-- the labels of a module's words
abbrev pub labels : {kind : ModuleKind} {b : Block} {ts : Words} → SpellsChunk kind b ts → List Label
labels d = reverse (through_chunk d at_start).labels
