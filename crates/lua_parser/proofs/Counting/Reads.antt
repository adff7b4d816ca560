-- What is counted behind each spelling of an expression, a statement and a block.
use Rattle.std.proofs.Common.{◌≡◌, ℕ, ◌+◌, ◌≤◌, max, Bool, true, false, List, [], ◌∷◌, ◌++◌, Option, refl, sym, subst, ap, append_assoc, ◌∙◌, arith}
use Rattle.tl_base.specs.declared.place.Pos.{Pos}
use Rattle.tl_base.specs.declared.place.ModuleKind.{ModuleKind}
use Rattle.lua_tree.specs.declared.annotation.Name.{Name}
use Rattle.lua_tree.specs.declared.annotation.Typed.{Typed}
use Rattle.lua_tree.specs.declared.annotation.TypeExpr.{TypeExpr}
use Rattle.lua_tree.specs.declared.annotation.TypeResults.{TypeResults}
use Rattle.lua_tree.specs.declared.syntax.Expr.{Expr}
use Rattle.lua_tree.specs.declared.syntax.Expr.TheVariants as made
use Rattle.lua_tree.specs.declared.syntax.Entry.{Entry}
use Rattle.lua_tree.specs.declared.syntax.Stat.{Stat}
use Rattle.lua_tree.specs.declared.syntax.Body.{Body}
use Rattle.lua_tree.specs.declared.syntax.Block.{Block}
use Rattle.lua_tree.specs.declared.syntax.Clause.{Clause}
use Rattle.lua_tree.specs.declared.syntax.Rest.{Rest}
use Rattle.lua_tree.specs.declared.syntax.Return.{Return}
use Rattle.lua_tree.specs.View.{exp_of, exps_of, entry_of, entries_of}
use Rattle.lua_tree.specs.Height.{height, highest, highest_entry, entry_height}
use Rattle.lua_tree.proofs.Heights.{highest_more, highest_entry_more}
use Rattle.lua_tree.proofs.Views.{entry_of-Keyed, entry_of-Named, entry_of-Item}
use Rattle.lua_lexer.specs.declared.token.Keyword.TheVariants as w
use Rattle.lua_lexer.specs.declared.token.Symbol.TheVariants as s
use Rattle.lua_parser.specs.Words.{Word, Words, keyword, symbol, marked, named, numeral, quoted, end_of_file}
use Rattle.lua_parser.specs.Grammar.Levels.{unary_mark, binary_mark, unary_level, right_level}
use Rattle.lua_parser.specs.Grammar.Types.{opens, begins_open}
use Rattle.lua_parser.specs.Grammar.Syntax.{Form, Target, SpellsAnnotation, SpellsTyped, SpellsTypeds, SpellsParams, SpellsParameters, SpellsOutcome, SpellsNames, SpellsPath, SpellsSemicolon, SpellsEntrySeparator, Spells, SpellsPrefix, SpellsArguments, SpellsList, SpellsEntries, SpellsEntry, SpellsBody, SpellsBlock, SpellsValues, SpellsStat, SpellsTargets, SpellsClauses, SpellsElse, SpellsStep, SpellsInit, SpellsChunk}
use Rattle.lua_parser.specs.Grammar.Depth.{Reached, at_start, word, words, begins, ends, reaches, through_annotation, through_typeds, through_params, through_parameters, through_outcome, through_path, through_expr, through_prefix, through_list, through_entries, through_entry, through_body, through_block, through_values, through_stat, through_targets, through_clauses, through_else, through_chunk}
use Rattle.lua_parser.specs.Machine.Steps.{is_sign}
use Rattle.lua_parser.specs.declared.signs.Sign.{Sign}
use Rattle.lua_parser.specs.declared.signs.Sign.TheVariants.{Pass as pass, Leave as leave, LeaveBody as leave_body, Grow as grow, Up as up, Note as note, Expr as expr, Operations as operations, MoreExprs as more_exprs, ReturnValues as return_values, Entries as entries, ValueOfKey as value_of_key, BehindEntry as behind_entry, ABody as a_body, Params as params, Outcome as outcome, ABlock as a_block, Clauses as clauses, ForNames as for_names, Path as path, RestOfLocal as rest_of_local, MoreNames as more_names, MaybeSemicolon as maybe_semicolon, NextTarget as next_target}
use Rattle.lua_parser.specs.Counting.Count.{at, begins_expr, count, start}
use Rattle.lua_parser.proofs.Marks.{right_fits, left_fits}
use Rattle.lua_parser.proofs.Completeness.Types.{TypeEnd}
use Rattle.lua_parser.proofs.Completeness.Ends.{Follow, EndsBlock, ends_follows, follow_no_op, follow_no_comma, follow_no_colon, follow_no_type, follow_no_suffix, ends_no_open, ends_no_semicolon, after_use, level_fits, left_above, end_ends, until_ends, finish_ends}
use Rattle.lua_parser.proofs.Completeness.Begins.{expr_first, list_first, FirstStat, block_first, else_first}
use Rattle.lua_parser.proofs.Completeness.Steps.{ExprEnd, Behind, behind_end}
use Rattle.lua_parser.proofs.Completeness.Reads.{behind_left, behind_right, behind_unary, sure, follow_end, ends_end, closed_before}
use Rattle.lua_parser.proofs.Heights.{height-Nil, height-Bool, height-Int, height-Str, height-Vararg, height-Function, height-Name, height-Paren, height-Field, height-Index, height-Call, height-Method, height-Table, height-Unary, height-Binary}
use Rattle.lua_parser.proofs.Counting.Types.{over, high, type_counts, body_results_count, interface_count}
use Rattle.lua_parser.proofs.Counting.Steps.{operations_end, no_operations, operations_take, enters, unary_take, loop, loop_dot, loop_bracket, loop_colon, loop_open, loop_brace, loop_text, suffixes_end, call_end, more_end, arguments_as, values_as, no_values, ends_no_values, block_end, no_semicolon, names_end, no_outcome, item_as, value_as, Head, expr_head, target_head, stat_head}

-- ---- heights

abbrev high_of : Expr → ℕ
high_of a = height (exp_of a)

abbrev list_high : List Expr → ℕ
list_high es = highest (exps_of es)

abbrev entries_high : List Entry → ℕ
entries_high es = highest_entry (entries_of es)

one_more : (m h : ℕ) → max m h ≡ max m (max h 0)
one_more m h = grind arith

joins : (m h k : ℕ) → max (max m h) k ≡ max m (max h k)
joins m h k = grind arith

no_more : (m : ℕ) → m ≡ max m 0
no_more m = grind arith

from_nothing : (h : ℕ) → max 0 h ≡ h
from_nothing h = grind arith

last_high : (m : ℕ) (a : Expr) → max m (high_of a) ≡ max m (list_high (a ∷ []))
last_high m a = one_more m (high_of a) ∙ ap (λ z. max m z) (sym (highest_more a []))

more_high : (m : ℕ) (a : Expr) (es : List Expr) → max (max m (high_of a)) (list_high es) ≡ max m (list_high (a ∷ es))
more_high m a es = joins m (high_of a) (list_high es) ∙ ap (λ z. max m z) (sym (highest_more a es))

module _ (kind : ModuleKind) where
  -- ---- declarations

  annotation_in_params : {a : Option TypeExpr} {ts : Words} (d : SpellsAnnotation kind a ts) (ss : List Sign) (h : ℕ) (r : Reached) (y : Word) (us : Words) → TypeEnd y.kind
      → (n : ℕ) × (count (ts ++ y ∷ us) (at (params ∷ ss) h r) ≡ count (y ∷ us) (at (params ∷ ss) n (through_annotation d r)))
  annotation_in_params SpellsAnnotation.no_annotation ss h r y us f = (h, refl)
  annotation_in_params (SpellsAnnotation.annotation q k d) ss h r y us f = (_, type_counts d (params ∷ ss) h _ y us f)

  params_count : {xs : List Typed} {o : Option Rest} {ts : Words} (d : SpellsParams kind xs o ts) (ss : List Sign) (h : ℕ) (r : Reached) (q : Pos) (us : Words)
      → count (ts ++ symbol s.CloseParen q ∷ us) (at (params ∷ ss) h r) ≡ count us (at ss 0 (word (symbol s.CloseParen q) (through_params d r)))
  params_count (SpellsParams.last_param (SpellsTyped.declared {a = a} {ts = ts} x d)) ss h r q us = (annotation_in_params d ss h (word (named x) r) (symbol s.CloseParen q) us (record { no_bar = refl; no_mark = refl; no_dot = refl; no_arrow = refl })).1
  params_count (SpellsParams.rest_param {a = a} {ts = ts} p d) ss h r q us = (annotation_in_params d ss h (word (symbol s.Dots p) r) (symbol s.CloseParen q) us (record { no_bar = refl; no_mark = refl; no_dot = refl; no_arrow = refl })).1
  params_count (SpellsParams.more_params {us = vs} q (SpellsTyped.declared {a = a} {ts = ts} x d) e) ss h r o us =
      over _ _ _ (append_assoc ts (symbol s.Comma q ∷ vs) (symbol s.CloseParen o ∷ us))
      ∙ (annotation_in_params d ss h (word (named x) r) (symbol s.Comma q) (vs ++ symbol s.CloseParen o ∷ us) (record { no_bar = refl; no_mark = refl; no_dot = refl; no_arrow = refl })).1
      ∙ params_count e ss _ _ o us

  parameters_count : {xs : List Typed} {o : Option Rest} {ts : Words} (d : SpellsParameters kind xs o ts) (ss : List Sign) (h : ℕ) (r : Reached) (q : Pos) (us : Words)
      → count (ts ++ symbol s.CloseParen q ∷ us) (at (params ∷ ss) h r) ≡ count us (at ss 0 (word (symbol s.CloseParen q) (through_parameters d r)))
  parameters_count SpellsParameters.no_params ss h r q us = refl
  parameters_count (SpellsParameters.some_params d) ss h r q us = params_count d ss h r q us

  outcome_count : {o : Option TypeResults} {ts : Words} (d : SpellsOutcome kind o ts) (ss : List Sign) (h : ℕ) (r : Reached) (y : Word) (us : Words) → TypeEnd y.kind → is_sign s.Colon y.kind ≡ false
      → (n : ℕ) × (count (ts ++ y ∷ us) (at (outcome ∷ ss) h r) ≡ count (y ∷ us) (at ss n (through_outcome d r)))
  outcome_count SpellsOutcome.no_outcome ss h r y us f g = (h, no_outcome ss h r y us g)
  outcome_count (SpellsOutcome.outcome q k d) ss h r y us f g = body_results_count d ss h _ y us f

  outcome_before : {o : Option TypeResults} {ts : Words} (d : SpellsOutcome kind o ts) (ss : List Sign) (h : ℕ) (r : Reached) (us : Words) → FirstStat kind us
      → (n : ℕ) × (count (ts ++ us) (at (outcome ∷ ss) h r) ≡ count us (at ss n (through_outcome d r)))
  outcome_before {ts = ts} d ss h r us f =
      let g = outcome_count d ss h r f.0 f.1 (follow_no_type f.3) (follow_no_colon f.3) in
      (g.0, over _ _ _ (ap (λ x. ts ++ x) f.2) ∙ g.1 ∙ sym (over ss g.0 (through_outcome d r) f.2))

  annotation_in_names : {a : Option TypeExpr} {ts : Words} (d : SpellsAnnotation kind a ts) (ss : List Sign) (h : ℕ) (r : Reached) (y : Word) (us : Words) → TypeEnd y.kind
      → (n : ℕ) × (count (ts ++ y ∷ us) (at (more_names ∷ ss) h r) ≡ count (y ∷ us) (at (more_names ∷ ss) n (through_annotation d r)))
  annotation_in_names SpellsAnnotation.no_annotation ss h r y us f = (h, refl)
  annotation_in_names (SpellsAnnotation.annotation q k d) ss h r y us f = (_, type_counts d (more_names ∷ ss) h _ y us f)

  typeds_count : {xs : List Typed} {ts : Words} (d : SpellsTypeds kind xs ts) (ss : List Sign) (h : ℕ) (r : Reached) (y : Word) (us : Words) → TypeEnd y.kind
      → (n : ℕ) × (count (ts ++ y ∷ us) (at (pass ∷ more_names ∷ ss) h r) ≡ count (y ∷ us) (at (more_names ∷ ss) n (through_typeds d r)))
  typeds_count (SpellsTypeds.last_typed (SpellsTyped.declared x d)) ss h r y us f = annotation_in_names d ss h _ y us f
  typeds_count (SpellsTypeds.more_typed {us = vs} q (SpellsTyped.declared {a = a} {ts = ts} x d) e) ss h r y us f =
      let g = annotation_in_names d ss h (word (named x) r) (symbol s.Comma q) (vs ++ y ∷ us) (record { no_bar = refl; no_mark = refl; no_dot = refl; no_arrow = refl }) in
      let i = typeds_count e ss g.0 (word (symbol s.Comma q) (through_annotation d (word (named x) r))) y us f in
      (i.0, over _ _ _ (append_assoc ts (symbol s.Comma q ∷ vs) (y ∷ us)) ∙ g.1 ∙ i.1)

  names_count : {xs : List Name} {ts : Words} → SpellsNames xs ts → (ss : List Sign) (h : ℕ) (r : Reached) (q : Pos) (us : Words)
      → count (ts ++ keyword w.In q ∷ us) (at (for_names ∷ ss) h r) ≡ count us (at (expr 1 ∷ more_exprs 0 ∷ pass ∷ a_block ∷ pass ∷ ss) h (word (keyword w.In q) (words ts r)))
  names_count (SpellsNames.last_name x) ss h r q us = refl
  names_count (SpellsNames.more_names x o d) ss h r q us = names_count d ss h _ q us

  path_count : {n m : ℕ} {a : Expr} {ts : Words} (d : SpellsPath n m a ts) (ss : List Sign) (r : Reached) (y : Word) (us : Words) → count (ts ++ y ∷ us) (at (pass ∷ path ∷ ss) 1 r) ≡ count (y ∷ us) (at (path ∷ ss) (high_of a) (through_path d r))
  path_count (SpellsPath.path_name n x) ss r y us = high (y ∷ us) (path ∷ ss) (word (named x) r) (sym (height-Name x.pos n x.text))
  path_count (SpellsPath.path_field {a = a} {ts = ts} q x d) ss r y us =
      over _ _ _ (append_assoc ts (symbol s.Dot q ∷ named x ∷ []) (y ∷ us)) ∙ path_count d ss r (symbol s.Dot q) (named x ∷ y ∷ us) ∙ high (y ∷ us) (path ∷ ss) (word (named x) (word (symbol s.Dot q) (reaches (high_of a) (through_path d r)))) (sym (height-Field _ a x))

  body_opens : {n m : ℕ} {b : Body} {ts : Words} → SpellsBody kind n m b ts → (ss : List Sign) (h : ℕ) (r : Reached) (us : Words) → count (ts ++ us) (at (path ∷ ss) h r) ≡ count (ts ++ us) (at (a_body ∷ ss) h (reaches h r))
  body_opens (SpellsBody.function_body p q z d f g) ss h r us = refl

  table_high : (p : Pos) (a : Expr) (es : List Entry) → max (high_of a) (max 0 (entries_high es) + 1) + 1 ≡ max (high_of a) (list_high (made.Table p es ∷ [])) + 1
  table_high p a es = ap (λ z. max (high_of a) z + 1) (ap (λ z. z + 1) (from_nothing (entries_high es)) ∙ sym (height-Table p es)) ∙ ap (λ z. z + 1) (last_high (high_of a) (made.Table p es))

  text_high : (p : Pos) (x : List ℕ) (a : Expr) → max (high_of a) 1 + 1 ≡ max (high_of a) (list_high (made.Str p x ∷ [])) + 1
  text_high p x a = ap (λ z. max (high_of a) z + 1) (sym (height-Str p x)) ∙ ap (λ z. z + 1) (last_high (high_of a) (made.Str p x))

  -- the path of a function statement, before its body
  path_before : {n m k : ℕ} {a : Expr} {b : Body} {ts us : Words} (d : SpellsPath n m a ts) → SpellsBody kind m k b us → (ss : List Sign) (r : Reached) (y : Word) (vs : Words)
      → count (ts ++ (us ++ y ∷ vs)) (at (pass ∷ path ∷ ss) 1 r) ≡ count (us ++ y ∷ vs) (at (path ∷ ss) (high_of a) (through_path d r))
  path_before d (SpellsBody.function_body {ts = ts} {us = vs} {vs = ws} p q z e f g) ss r y us =
      path_count d ss r (symbol s.OpenParen p) ((ts ++ (symbol s.CloseParen q ∷ vs ++ (ws ++ (keyword w.End z ∷ [])))) ++ y ∷ us)

  -- a function that ended with a body
  noted : (p : Pos) (b : Body) (ss : List Sign) (r : Reached) (y : Word) (us : Words) → count (y ∷ us) (at (note ∷ a_block ∷ ss) 1 r) ≡ count (y ∷ us) (at (a_block ∷ ss) 0 (reaches (high_of (made.Function p b)) r))
  noted p b ss r y us = ap (λ z. count (y ∷ us) (at (a_block ∷ ss) 0 (reaches z r))) (sym (height-Function p b))

  local_opens : {xs : List Typed} {ts : Words} → SpellsTypeds kind xs ts → (ss : List Sign) (r : Reached) (us : Words)
      → count (ts ++ us) (at (rest_of_local ∷ ss) 0 r) ≡ count (ts ++ us) (at (pass ∷ more_names ∷ ss) 0 r)
  local_opens (SpellsTypeds.last_typed (SpellsTyped.declared x d)) ss r us = refl
  local_opens (SpellsTypeds.more_typed q (SpellsTyped.declared x d) e) ss r us = refl

  -- ---- the whole

  mutual
    expr_counts : {l n m : ℕ} {c : Bool} {a : Expr} {ts : Words} (d : Spells kind l n m c a ts) (i : ℕ) → i ≤ l → l ≤ unary_level → (ss : List Sign) (h : ℕ) (r : Reached) (y : Word) (us : Words) → Behind l c y.kind
        → count (ts ++ y ∷ us) (at (expr i ∷ ss) h r) ≡ count (y ∷ us) (at (operations i ∷ ss) (high_of a) (through_expr d r))
    expr_counts (Spells.nil p) i f g ss h r y us b = high (y ∷ us) (operations i ∷ ss) (word (keyword w.Nil p) r) (sym (height-Nil p))
    expr_counts (Spells.false_word p) i f g ss h r y us b = high (y ∷ us) (operations i ∷ ss) (word (keyword w.False p) r) (sym (height-Bool p false))
    expr_counts (Spells.true_word p) i f g ss h r y us b = high (y ∷ us) (operations i ∷ ss) (word (keyword w.True p) r) (sym (height-Bool p true))
    expr_counts (Spells.integer p n) i f g ss h r y us b = high (y ∷ us) (operations i ∷ ss) (word (numeral n p) r) (sym (height-Int p n))
    expr_counts (Spells.string p x) i f g ss h r y us b = high (y ∷ us) (operations i ∷ ss) (word (quoted x p) r) (sym (height-Str p x))
    expr_counts (Spells.vararg p) i f g ss h r y us b = high (y ∷ us) (operations i ∷ ss) (word (symbol s.Dots p) r) (sym (height-Vararg p))
    expr_counts (Spells.function {b = a} {ts = ts} p d) i f g ss h r y us b = body_counts d (operations i ∷ ss) h _ y us ∙ high (y ∷ us) (operations i ∷ ss) _ (sym (height-Function p a))
    expr_counts (Spells.prefix {a = a} {ts = ts} d) i f g ss h r y us b =
        prefix_counts d true (operations i ∷ ss) (expr_head i ss) h r y us (λ x. refl) ∙ suffixes_end (operations i ∷ ss) _ _ y us (b.no_call refl) a
    expr_counts (Spells.table {es = es} {ts = ts} p d) i f g ss h r y us b =
        entries_count d 0 (up ∷ operations i ∷ ss) h _ (y ∷ us) ∙ high (y ∷ us) (operations i ∷ ss) (through_entries d (word (symbol s.OpenBrace p) r)) (ap (λ z. z + 1) (from_nothing (entries_high es)) ∙ sym (height-Table p es))
    expr_counts (Spells.unary {n = n} {m = m} {c = c} {a = a} {ts = ts} p o d) i f g ss h r y us b =
        unary_take i ss h r p o (ts ++ y ∷ us) ∙ expr_counts d unary_level (omega arith) (omega arith) (leave ∷ up ∷ operations i ∷ ss) h _ y us (behind_unary kind b)
        ∙ operations_end unary_level (leave ∷ up ∷ operations i ∷ ss) _ _ y us (λ j x. level_fits j) ∙ high (y ∷ us) (operations i ∷ ss) (ends (reaches (high_of a) (through_expr d (word (marked (unary_mark o) p) (begins r))))) (sym (height-Unary p o a))
    expr_counts (Spells.binary {m = m} {k = j} {c = c} {d = z} {a = a} {b = b} {ts = ts} {us = vs} q o l d e) i f g ss h r y us t =
        over _ _ _ (append_assoc ts (marked (binary_mark o) q ∷ vs) (y ∷ us))
        ∙ expr_counts d i (omega (arith, f, l, left_above o)) (left_fits o) ss h r (marked (binary_mark o) q) (vs ++ y ∷ us) (behind_left kind o c)
        ∙ operations_take i ss _ _ q o (vs ++ y ∷ us) (omega (arith, f, l)) ∙ enters vs y us _ _ _
        ∙ expr_counts e (right_level o) (omega arith) (right_fits o) (leave ∷ grow (high_of a) ∷ operations i ∷ ss) _ _ y us (behind_right kind o l t)
        ∙ operations_end (right_level o) (leave ∷ grow (high_of a) ∷ operations i ∷ ss) _ _ y us (λ v x. t.looser v x o l) ∙ high (y ∷ us) (operations i ∷ ss) (ends (reaches (high_of b) (through_expr e (begins (word (marked (binary_mark o) q) (reaches (high_of a) (through_expr d r))))))) (sym (height-Binary _ o a b))

    prefix_counts : {f : Form} {n m : ℕ} {a : Expr} {ts : Words} (d : SpellsPrefix kind f n m a ts) (b : Bool) (ss : List Sign) (H : Head b ss) (h : ℕ) (r : Reached) (y : Word) (us : Words) → (f ≡ Target → H.good y ≡ true)
        → count (ts ++ y ∷ us) (at H.first h r) ≡ count (y ∷ us) (at (loop b ∷ ss) (high_of a) (through_prefix d r))
    prefix_counts (SpellsPrefix.name n x) b ss H h r y us g = H.at_name h r x y us (g refl) ∙ high (y ∷ us) (loop b ∷ ss) (word (named x) r) (sym (height-Name x.pos n x.text))
    prefix_counts (SpellsPrefix.paren {a = a} {ts = ts} p q d) b ss H h r y us g =
        H.at_open h r p ((ts ++ symbol s.CloseParen q ∷ []) ++ y ∷ us) ∙ over _ _ _ (append_assoc ts (symbol s.CloseParen q ∷ []) (y ∷ us))
        ∙ expr_counts d 1 (omega arith) (omega arith) (pass ∷ up ∷ loop b ∷ ss) _ _ (symbol s.CloseParen q) (y ∷ us) (behind_end 1 _ _ (sure kind refl (λ a n p. refl) _)) ∙ no_operations 1 (pass ∷ up ∷ loop b ∷ ss) _ _ (symbol s.CloseParen q) (y ∷ us) refl ∙ high (y ∷ us) (loop b ∷ ss) (word (symbol s.CloseParen q) (reaches (high_of a) (through_expr d (word (symbol s.OpenParen p) r)))) (sym (height-Paren p a))
    prefix_counts (SpellsPrefix.field {a = a} {ts = ts} q x d) b ss H h r y us g =
        over _ _ _ (append_assoc ts (symbol s.Dot q ∷ named x ∷ []) (y ∷ us)) ∙ prefix_counts d b ss H h r (symbol s.Dot q) (named x ∷ y ∷ us) (λ i. H.good_used (symbol s.Dot q) refl)
        ∙ loop_dot b q (named x ∷ y ∷ us) ss _ _ ∙ high (y ∷ us) (loop b ∷ ss) (word (named x) (word (symbol s.Dot q) (reaches (high_of a) (through_prefix d r)))) (sym (height-Field _ a x))
    prefix_counts (SpellsPrefix.index {a = a} {b = z} {ts = ts} {us = vs} p q d e) b ss H h r y us g =
        over _ _ _ (append_assoc ts (symbol s.OpenBracket p ∷ vs ++ (symbol s.CloseBracket q ∷ [])) (y ∷ us))
        ∙ prefix_counts d b ss H h r (symbol s.OpenBracket p) ((vs ++ (symbol s.CloseBracket q ∷ [])) ++ y ∷ us) (λ i. H.good_used (symbol s.OpenBracket p) refl)
        ∙ loop_bracket b p ((vs ++ (symbol s.CloseBracket q ∷ [])) ++ y ∷ us) ss _ _ ∙ over _ _ _ (append_assoc vs (symbol s.CloseBracket q ∷ []) (y ∷ us))
        ∙ expr_counts e 1 (omega arith) (omega arith) (pass ∷ grow (high_of a) ∷ loop b ∷ ss) _ _ (symbol s.CloseBracket q) (y ∷ us) (behind_end 1 _ _ (sure kind refl (λ a n p. refl) _)) ∙ no_operations 1 (pass ∷ grow (high_of a) ∷ loop b ∷ ss) _ _ (symbol s.CloseBracket q) (y ∷ us) refl ∙ high (y ∷ us) (loop b ∷ ss) (word (symbol s.CloseBracket q) (reaches (high_of z) (through_expr e (word (symbol s.OpenBracket p) (reaches (high_of a) (through_prefix d r)))))) (sym (height-Index _ a z))
    prefix_counts (SpellsPrefix.call {a = a} {ts = ts} d (SpellsArguments.no_arguments p q)) b ss H h r y us g =
        over _ _ _ (append_assoc ts (symbol s.OpenParen p ∷ symbol s.CloseParen q ∷ []) (y ∷ us)) ∙ prefix_counts d b ss H h r (symbol s.OpenParen p) (symbol s.CloseParen q ∷ y ∷ us) (λ i. H.good_used (symbol s.OpenParen p) refl)
        ∙ loop_open b p (symbol s.CloseParen q ∷ y ∷ us) ss _ _ ∙ high (y ∷ us) (loop b ∷ ss) (word (symbol s.CloseParen q) (word (symbol s.OpenParen p) (reaches (high_of a) (through_prefix d r)))) (sym (height-Call _ a []))
    prefix_counts (SpellsPrefix.call {a = a} {ts = ts} d (SpellsArguments.arguments {es = es} {ts = vs} p q e)) b ss H h r y us g =
        over _ _ _ (append_assoc ts (symbol s.OpenParen p ∷ vs ++ symbol s.CloseParen q ∷ []) (y ∷ us))
        ∙ prefix_counts d b ss H h r (symbol s.OpenParen p) ((vs ++ symbol s.CloseParen q ∷ []) ++ y ∷ us) (λ i. H.good_used (symbol s.OpenParen p) refl)
        ∙ loop_open b p ((vs ++ symbol s.CloseParen q ∷ []) ++ y ∷ us) ss _ _ ∙ over _ _ _ (append_assoc vs (symbol s.CloseParen q ∷ []) (y ∷ us))
        ∙ arguments_as vs (symbol s.CloseParen q ∷ y ∷ us) (grow (high_of a) ∷ loop b ∷ ss) _ _ (list_first kind e) ∙ list_counts e 0 (pass ∷ grow (high_of a) ∷ loop b ∷ ss) _ _ (symbol s.CloseParen q) (y ∷ us) (sure kind refl (λ a n p. refl) _) refl
        ∙ high (y ∷ us) (loop b ∷ ss) (word (symbol s.CloseParen q) (through_list e (word (symbol s.OpenParen p) (reaches (high_of a) (through_prefix d r))))) (ap (λ z. max (high_of a) z + 1) (from_nothing (list_high es)) ∙ sym (height-Call _ a es))
    prefix_counts (SpellsPrefix.call {a = a} {ts = ts} d (SpellsArguments.table_argument {es = es} {ts = vs} p e)) b ss H h r y us g =
        over _ _ _ (append_assoc ts (symbol s.OpenBrace p ∷ vs) (y ∷ us)) ∙ prefix_counts d b ss H h r (symbol s.OpenBrace p) (vs ++ y ∷ us) (λ i. H.good_used (symbol s.OpenBrace p) refl)
        ∙ loop_brace b p (vs ++ y ∷ us) ss _ _ ∙ entries_count e 0 (up ∷ grow (high_of a) ∷ loop b ∷ ss) _ _ (y ∷ us) ∙ high (y ∷ us) (loop b ∷ ss) (through_entries e (word (symbol s.OpenBrace p) (reaches (high_of a) (through_prefix d r)))) (table_high p a es ∙ sym (height-Call _ a (made.Table p es ∷ [])))
    prefix_counts (SpellsPrefix.call {a = a} {ts = ts} d (SpellsArguments.string_argument p x)) b ss H h r y us g =
        over _ _ _ (append_assoc ts (quoted x p ∷ []) (y ∷ us)) ∙ prefix_counts d b ss H h r (quoted x p) (y ∷ us) (λ i. H.good_used (quoted x p) refl)
        ∙ loop_text b x p (y ∷ us) ss _ _ ∙ high (y ∷ us) (loop b ∷ ss) (word (quoted x p) (reaches (high_of a) (through_prefix d r))) (text_high p x a ∙ sym (height-Call _ a (made.Str p x ∷ [])))
    prefix_counts (SpellsPrefix.method {a = a} {ts = ts} q x d (SpellsArguments.no_arguments p o)) b ss H h r y us g =
        over _ _ _ (append_assoc ts (symbol s.Colon q ∷ named x ∷ symbol s.OpenParen p ∷ symbol s.CloseParen o ∷ []) (y ∷ us))
        ∙ prefix_counts d b ss H h r (symbol s.Colon q) (named x ∷ symbol s.OpenParen p ∷ symbol s.CloseParen o ∷ y ∷ us) (λ i. H.good_used (symbol s.Colon q) refl)
        ∙ loop_colon b q (named x ∷ symbol s.OpenParen p ∷ symbol s.CloseParen o ∷ y ∷ us) ss _ _ ∙ high (y ∷ us) (loop b ∷ ss) (word (symbol s.CloseParen o) (word (symbol s.OpenParen p) (word (named x) (word (symbol s.Colon q) (reaches (high_of a) (through_prefix d r)))))) (sym (height-Method _ a x []))
    prefix_counts (SpellsPrefix.method {a = a} {ts = ts} q x d (SpellsArguments.arguments {es = es} {ts = vs} p o e)) b ss H h r y us g =
        over _ _ _ (append_assoc ts (symbol s.Colon q ∷ named x ∷ symbol s.OpenParen p ∷ vs ++ symbol s.CloseParen o ∷ []) (y ∷ us))
        ∙ prefix_counts d b ss H h r (symbol s.Colon q) (named x ∷ symbol s.OpenParen p ∷ ((vs ++ symbol s.CloseParen o ∷ []) ++ y ∷ us)) (λ i. H.good_used (symbol s.Colon q) refl)
        ∙ loop_colon b q (named x ∷ symbol s.OpenParen p ∷ ((vs ++ symbol s.CloseParen o ∷ []) ++ y ∷ us)) ss _ _ ∙ over _ _ _ (append_assoc vs (symbol s.CloseParen o ∷ []) (y ∷ us))
        ∙ arguments_as vs (symbol s.CloseParen o ∷ y ∷ us) (grow (high_of a) ∷ loop b ∷ ss) _ _ (list_first kind e) ∙ list_counts e 0 (pass ∷ grow (high_of a) ∷ loop b ∷ ss) _ _ (symbol s.CloseParen o) (y ∷ us) (sure kind refl (λ a n p. refl) _) refl
        ∙ high (y ∷ us) (loop b ∷ ss) (word (symbol s.CloseParen o) (through_list e (word (symbol s.OpenParen p) (word (named x) (word (symbol s.Colon q) (reaches (high_of a) (through_prefix d r))))))) (ap (λ z. max (high_of a) z + 1) (from_nothing (list_high es)) ∙ sym (height-Method _ a x es))
    prefix_counts (SpellsPrefix.method {a = a} {ts = ts} q x d (SpellsArguments.table_argument {es = es} {ts = vs} p e)) b ss H h r y us g =
        over _ _ _ (append_assoc ts (symbol s.Colon q ∷ named x ∷ symbol s.OpenBrace p ∷ vs) (y ∷ us))
        ∙ prefix_counts d b ss H h r (symbol s.Colon q) (named x ∷ symbol s.OpenBrace p ∷ (vs ++ y ∷ us)) (λ i. H.good_used (symbol s.Colon q) refl)
        ∙ loop_colon b q (named x ∷ symbol s.OpenBrace p ∷ (vs ++ y ∷ us)) ss _ _ ∙ entries_count e 0 (up ∷ grow (high_of a) ∷ loop b ∷ ss) _ _ (y ∷ us)
        ∙ high (y ∷ us) (loop b ∷ ss) (through_entries e (word (symbol s.OpenBrace p) (word (named x) (word (symbol s.Colon q) (reaches (high_of a) (through_prefix d r)))))) (table_high p a es ∙ sym (height-Method _ a x (made.Table p es ∷ [])))
    prefix_counts (SpellsPrefix.method {a = a} {ts = ts} q x d (SpellsArguments.string_argument p z)) b ss H h r y us g =
        over _ _ _ (append_assoc ts (symbol s.Colon q ∷ named x ∷ quoted z p ∷ []) (y ∷ us)) ∙ prefix_counts d b ss H h r (symbol s.Colon q) (named x ∷ quoted z p ∷ y ∷ us) (λ i. H.good_used (symbol s.Colon q) refl)
        ∙ loop_colon b q (named x ∷ quoted z p ∷ y ∷ us) ss _ _ ∙ high (y ∷ us) (loop b ∷ ss) (word (quoted z p) (word (named x) (word (symbol s.Colon q) (reaches (high_of a) (through_prefix d r))))) (text_high p z a ∙ sym (height-Method _ a x (made.Str p z ∷ [])))

    list_counts : {n m : ℕ} {c : Bool} {es : List Expr} {ts : Words} (d : SpellsList kind n m c es ts) (k : ℕ) (ss : List Sign) (h : ℕ) (r : Reached) (y : Word) (us : Words) → ExprEnd c y.kind → is_sign s.Comma y.kind ≡ false
        → count (ts ++ y ∷ us) (at (expr 1 ∷ more_exprs k ∷ ss) h r) ≡ count (y ∷ us) (at ss (max k (list_high es)) (through_list d r))
    list_counts (SpellsList.last {a = a} {ts = ts} d) k ss h r y us f g = expr_counts d 1 (omega arith) (omega arith) (more_exprs k ∷ ss) h r y us (behind_end 1 _ _ f) ∙ no_operations 1 (more_exprs k ∷ ss) _ _ y us f.no_op ∙ more_end ss k _ _ y us g ∙ high (y ∷ us) ss _ (last_high k a)
    list_counts (SpellsList.more {a = a} {es = es} {ts = ts} {us = vs} q d e) k ss h r y us f g =
        over _ _ _ (append_assoc ts (symbol s.Comma q ∷ vs) (y ∷ us)) ∙ expr_counts d 1 (omega arith) (omega arith) (more_exprs k ∷ ss) h r (symbol s.Comma q) (vs ++ y ∷ us) (behind_end 1 _ _ (sure kind refl (λ a n p. refl) _)) ∙ no_operations 1 (more_exprs k ∷ ss) _ _ (symbol s.Comma q) (vs ++ y ∷ us) refl
        ∙ list_counts e (max k (high_of a)) ss _ _ y us f g ∙ high (y ∷ us) ss _ (more_high k a es)

    entries_count : {n m : ℕ} {es : List Entry} {ts : Words} (d : SpellsEntries kind n m es ts) (k : ℕ) (ss : List Sign) (h : ℕ) (r : Reached) (us : Words)
        → count (ts ++ us) (at (entries k ∷ ss) h r) ≡ count us (at ss (max k (entries_high es)) (through_entries d r))
    entries_count (SpellsEntries.no_entry q) k ss h r us = high us ss (word (symbol s.CloseBrace q) r) (no_more k)
    entries_count (SpellsEntries.last_entry {x = x} {ts = ts} q d) k ss h r us =
        let i = entry_counts d k ss h r (symbol s.CloseBrace q) us (sure kind refl (λ a n p. refl)) refl in
        over _ _ _ (append_assoc ts (symbol s.CloseBrace q ∷ []) us) ∙ i.3 ∙ high us ss (word (symbol s.CloseBrace q) (through_entry d r)) (i.2 ∙ one_more k (entry_height (entry_of x)) ∙ ap (λ z. max k z) (sym (highest_entry_more x [])))
    entries_count (SpellsEntries.more_entries {x = x} {xs = xs} {ts = ts} {us = vs} d (SpellsEntrySeparator.comma_between q) e) k ss h r us =
        let i = entry_counts d k ss h r (symbol s.Comma q) (vs ++ us) (sure kind refl (λ a n p. refl)) refl in
        over _ _ _ (append_assoc ts (symbol s.Comma q ∷ vs) us) ∙ i.3 ∙ entries_count e (max i.0 i.1) ss _ _ us
        ∙ high us ss _ (ap (λ z. max z (entries_high xs)) i.2 ∙ joins k (entry_height (entry_of x)) (entries_high xs) ∙ ap (λ z. max k z) (sym (highest_entry_more x xs)))
    entries_count (SpellsEntries.more_entries {x = x} {xs = xs} {ts = ts} {us = vs} d (SpellsEntrySeparator.semicolon_between q) e) k ss h r us =
        let i = entry_counts d k ss h r (symbol s.Semicolon q) (vs ++ us) (sure kind refl (λ a n p. refl)) refl in
        over _ _ _ (append_assoc ts (symbol s.Semicolon q ∷ vs) us) ∙ i.3 ∙ entries_count e (max i.0 i.1) ss _ _ us
        ∙ high us ss _ (ap (λ z. max z (entries_high xs)) i.2 ∙ joins k (entry_height (entry_of x)) (entries_high xs) ∙ ap (λ z. max k z) (sym (highest_entry_more x xs)))

    entry_counts : {n m : ℕ} {x : Entry} {ts : Words} (d : SpellsEntry kind n m x ts) (k : ℕ) (ss : List Sign) (h : ℕ) (r : Reached) (y : Word) (us : Words) → ((c : Bool) → ExprEnd c y.kind) → after_use y.kind ≡ true
        → (v t : ℕ) × (max v t ≡ max k (entry_height (entry_of x))) × (count (ts ++ y ∷ us) (at (entries k ∷ ss) h r) ≡ count (y ∷ us) (at (behind_entry v ∷ ss) t (through_entry d r)))
    entry_counts (SpellsEntry.keyed {a = a} {b = b} {ts = ts} {us = vs} p q o d e) k ss h r y us f g = (
      max k (high_of a),
      high_of b,
      joins k (high_of a) (high_of b) ∙ ap (λ z. max k (entry_height z)) (sym (entry_of-Keyed a b)),
      over _ _ _ (append_assoc ts (symbol s.CloseBracket q ∷ symbol s.Assign o ∷ vs) (y ∷ us))
          ∙ expr_counts d 1 (omega arith) (omega arith) (pass ∷ pass ∷ value_of_key k ∷ ss) h _ (symbol s.CloseBracket q) (symbol s.Assign o ∷ vs ++ y ∷ us) (behind_end 1 _ _ (sure kind refl (λ a n p. refl) _)) ∙ no_operations 1 (pass ∷ pass ∷ value_of_key k ∷ ss) _ _ (symbol s.CloseBracket q) (symbol s.Assign o ∷ vs ++ y ∷ us) refl
          ∙ value_as k vs y us ss _ _ ∙ expr_counts e 1 (omega arith) (omega arith) (behind_entry (max k (high_of a)) ∷ ss) _ _ y us (behind_end 1 _ _ (f _)) ∙ no_operations 1 (behind_entry (max k (high_of a)) ∷ ss) _ _ y us (f true).no_op,
    )
    entry_counts (SpellsEntry.named_entry {a = a} x q d) k ss h r y us f g = (k, high_of a, ap (λ z. max k (entry_height z)) (sym (entry_of-Named x a)), expr_counts d 1 (omega arith) (omega arith) (behind_entry k ∷ ss) _ _ y us (behind_end 1 _ _ (f _)) ∙ no_operations 1 (behind_entry k ∷ ss) _ _ y us (f true).no_op)
    entry_counts (SpellsEntry.item {a = a} {ts = ts} d) k ss h r y us f g =
        (k, high_of a, ap (λ z. max k (entry_height z)) (sym (entry_of-Item a)), item_as k ts y us ss h r (expr_first kind d) g ∙ expr_counts d 1 (omega arith) (omega arith) (behind_entry k ∷ ss) _ _ y us (behind_end 1 _ _ (f _)) ∙ no_operations 1 (behind_entry k ∷ ss) _ _ y us (f true).no_op)

    body_counts : {n m : ℕ} {b : Body} {ts : Words} (d : SpellsBody kind n m b ts) (ss : List Sign) (h : ℕ) (r : Reached) (y : Word) (us : Words) → count (ts ++ y ∷ us) (at (a_body ∷ ss) h r) ≡ count (y ∷ us) (at ss 1 (through_body d r))
    body_counts (SpellsBody.function_body {ts = ts} {us = vs} {vs = ws} p q z d f g) ss h r y us =
        let i = outcome_before f (a_block ∷ pass ∷ leave_body ∷ ss) 0 (word (symbol s.CloseParen q) (through_parameters d (word (symbol s.OpenParen p) (begins r)))) (ws ++ keyword w.End z ∷ y ∷ us) (block_first kind g (keyword w.End z) (y ∷ us) end_ends) in
        over _ _ _ (append_assoc ts (symbol s.CloseParen q ∷ vs ++ (ws ++ (keyword w.End z ∷ []))) (y ∷ us))
        ∙ parameters_count d (outcome ∷ a_block ∷ pass ∷ leave_body ∷ ss) h _ q ((vs ++ (ws ++ (keyword w.End z ∷ []))) ++ y ∷ us)
        ∙ over _ _ _ (append_assoc vs (ws ++ (keyword w.End z ∷ [])) (y ∷ us) ∙ ap (λ x. vs ++ x) (append_assoc ws (keyword w.End z ∷ []) (y ∷ us))) ∙ i.1
        ∙ block_counts g (pass ∷ leave_body ∷ ss) i.0 _ (keyword w.End z) (y ∷ us) end_ends

    block_counts : {outer : Bool} {n m : ℕ} {es : List Stat} {o : Option Return} {ts : Words} (d : SpellsBlock kind outer n m es o ts) (ss : List Sign) (h : ℕ) (r : Reached) (z : Word) (us : Words) → EndsBlock z.kind
        → count (ts ++ z ∷ us) (at (a_block ∷ ss) h r) ≡ count (z ∷ us) (at ss 0 (through_block d r))
    block_counts SpellsBlock.no_stats ss h r z us f = block_end ss h r z us f
    block_counts (SpellsBlock.return_stat {es = es} {ts = ts} p d SpellsSemicolon.no_semicolon) ss h r z us f =
        let i = values_count d (maybe_semicolon ∷ ss) 0 (word (keyword w.Return p) r) z us (ends_no_values f) (λ c. ends_end kind c f) (follow_no_comma (ends_follows f)) in
        over _ _ _ (append_assoc ts [] (z ∷ us)) ∙ i.1 ∙ no_semicolon ss i.0 _ z us (ends_no_semicolon f)
    block_counts (SpellsBlock.return_stat {es = es} {ts = ts} p d (SpellsSemicolon.semicolon_after o)) ss h r z us f =
        let i = values_count d (maybe_semicolon ∷ ss) 0 (word (keyword w.Return p) r) (symbol s.Semicolon o) (z ∷ us) refl (sure kind refl (λ a n p. refl)) refl in
        over _ _ _ (append_assoc ts (symbol s.Semicolon o ∷ []) (z ∷ us)) ∙ i.1
    block_counts (SpellsBlock.next_stat {c = c} {x = x} {ts = ts} {us = vs} d e j) ss h r z us f =
        let i = block_first kind e z us f in
        over _ _ _ (append_assoc ts vs (z ∷ us) ∙ ap (λ q. ts ++ q) i.2) ∙ stat_counts d ss h r i.0 i.1 i.3 (λ g. subst (λ q. begins_open q ≡ false) i.2 (closed_before kind vs z us (j g) (ends_no_open f)))
        ∙ sym (over (a_block ∷ ss) 0 (through_stat d r) i.2) ∙ block_counts e ss 0 _ z us f

    values_count : {n m : ℕ} {es : List Expr} {ts : Words} (d : SpellsValues kind n m es ts) (ss : List Sign) (h : ℕ) (r : Reached) (y : Word) (us : Words) → begins_expr y.kind ≡ false → ((c : Bool) → ExprEnd c y.kind) → is_sign s.Comma y.kind ≡ false
        → (v : ℕ) × (count (ts ++ y ∷ us) (at (return_values ∷ ss) h r) ≡ count (y ∷ us) (at ss v (through_values d r)))
    values_count SpellsValues.no_values ss h r y us f g i = (h, no_values ss h r y us f)
    values_count (SpellsValues.values {es = es} {ts = ts} d) ss h r y us f g i = (max 0 (list_high es), values_as ts (y ∷ us) ss h r (list_first kind d) ∙ list_counts d 0 ss h r y us (g _) i)

    stat_counts : {outer : Bool} {n m : ℕ} {c : Bool} {x : Stat} {ts : Words} (d : SpellsStat kind outer n m c x ts) (ss : List Sign) (h : ℕ) (r : Reached) (y : Word) (us : Words) → Follow y.kind → (c ≡ true → opens y.kind ≡ false)
        → count (ts ++ y ∷ us) (at (a_block ∷ ss) h r) ≡ count (y ∷ us) (at (a_block ∷ ss) 0 (through_stat d r))
    stat_counts (SpellsStat.empty p) ss h r y us f g = refl
    stat_counts (SpellsStat.assign {es = es} {us = vs} q (SpellsTargets.last_target {a = a} {ts = ts} d) l) ss h r y us f g =
        over _ _ _ (append_assoc ts (symbol s.Assign q ∷ vs) (y ∷ us)) ∙ prefix_counts d false (a_block ∷ ss) (stat_head ss) h r (symbol s.Assign q) (vs ++ y ∷ us) (λ i. refl)
        ∙ list_counts l 0 (a_block ∷ ss) _ _ y us (follow_end kind f g) (follow_no_comma f)
    stat_counts (SpellsStat.assign {es = es} {us = vs} q (SpellsTargets.more_targets {a = a} {ts = ts} {us = ws} i d t) l) ss h r y us f g =
        over _ _ _ (append_assoc (ts ++ symbol s.Comma i ∷ ws) (symbol s.Assign q ∷ vs) (y ∷ us)) ∙ over _ _ _ (append_assoc ts (symbol s.Comma i ∷ ws) (symbol s.Assign q ∷ (vs ++ y ∷ us)))
        ∙ prefix_counts d false (a_block ∷ ss) (stat_head ss) h r (symbol s.Comma i) (ws ++ symbol s.Assign q ∷ (vs ++ y ∷ us)) (λ i. refl)
        ∙ (targets_count t (a_block ∷ ss) _ _ q (vs ++ y ∷ us)).1 ∙ list_counts l 0 (a_block ∷ ss) _ _ y us (follow_end kind f g) (follow_no_comma f)
    stat_counts (SpellsStat.call_stat {a = a} {ts = ts} d) ss h r y us f g =
        prefix_counts d false (a_block ∷ ss) (stat_head ss) h r y us (λ i. cc) ∙ call_end (a_block ∷ ss) _ _ y us (follow_no_suffix f (g refl)) a f
    stat_counts (SpellsStat.break_stat p) ss h r y us f g = refl
    stat_counts (SpellsStat.do_stat {ts = ts} p z d) ss h r y us f g =
        over _ _ _ (append_assoc ts (keyword w.End z ∷ []) (y ∷ us)) ∙ block_counts d (pass ∷ leave ∷ a_block ∷ ss) 0 _ (keyword w.End z) (y ∷ us) end_ends
    stat_counts (SpellsStat.while_stat {a = a} {ts = ts} {us = vs} p q z d e) ss h r y us f g =
        over _ _ _ (append_assoc ts (keyword w.Do q ∷ vs ++ (keyword w.End z ∷ [])) (y ∷ us))
        ∙ expr_counts d 1 (omega arith) (omega arith) (pass ∷ a_block ∷ pass ∷ leave ∷ a_block ∷ ss) 0 _ (keyword w.Do q) ((vs ++ (keyword w.End z ∷ [])) ++ y ∷ us) (behind_end 1 _ _ (sure kind refl (λ a n p. refl) _)) ∙ no_operations 1 (pass ∷ a_block ∷ pass ∷ leave ∷ a_block ∷ ss) _ _ (keyword w.Do q) ((vs ++ (keyword w.End z ∷ [])) ++ y ∷ us) refl
        ∙ over _ _ _ (append_assoc vs (keyword w.End z ∷ []) (y ∷ us)) ∙ block_counts e (pass ∷ leave ∷ a_block ∷ ss) _ _ (keyword w.End z) (y ∷ us) end_ends
    stat_counts (SpellsStat.repeat_stat {a = a} {ts = ts} {us = vs} p q e d) ss h r y us f g =
        over _ _ _ (append_assoc ts (keyword w.Until q ∷ vs) (y ∷ us)) ∙ block_counts e (pass ∷ expr 1 ∷ leave ∷ a_block ∷ ss) 0 _ (keyword w.Until q) (vs ++ y ∷ us) until_ends
        ∙ expr_counts d 1 (omega arith) (omega arith) (leave ∷ a_block ∷ ss) 0 _ y us (behind_end 1 _ _ (follow_end kind f g)) ∙ no_operations 1 (leave ∷ a_block ∷ ss) _ _ y us (follow_no_op f)
    stat_counts (SpellsStat.if_stat {ts = ts} p d) ss h r y us f g = clauses_count d (leave ∷ a_block ∷ ss) 0 _ (y ∷ us)
    stat_counts (SpellsStat.numeric_for {a = a} {b = z} {ts = ts} {us = vs} {ws = ws} p x q i j l d e SpellsStep.no_step n) ss h r y us f g =
        over _ _ _ (append_assoc ts (symbol s.Comma i ∷ vs ++ ([] ++ (keyword w.Do j ∷ ws ++ (keyword w.End l ∷ [])))) (y ∷ us))
        ∙ expr_counts d 1 (omega arith) (omega arith) (more_exprs 0 ∷ pass ∷ a_block ∷ pass ∷ leave ∷ a_block ∷ ss) 0 _ (symbol s.Comma i) ((vs ++ ([] ++ (keyword w.Do j ∷ ws ++ (keyword w.End l ∷ [])))) ++ y ∷ us) (behind_end 1 _ _ (sure kind refl (λ a n p. refl) _)) ∙ no_operations 1 (more_exprs 0 ∷ pass ∷ a_block ∷ pass ∷ leave ∷ a_block ∷ ss) _ _ (symbol s.Comma i) ((vs ++ ([] ++ (keyword w.Do j ∷ ws ++ (keyword w.End l ∷ [])))) ++ y ∷ us) refl
        ∙ over _ _ _ (append_assoc vs ([] ++ (keyword w.Do j ∷ ws ++ (keyword w.End l ∷ []))) (y ∷ us))
        ∙ expr_counts e 1 (omega arith) (omega arith) (more_exprs (max 0 (high_of a)) ∷ pass ∷ a_block ∷ pass ∷ leave ∷ a_block ∷ ss) _ _ (keyword w.Do j) ((ws ++ (keyword w.End l ∷ [])) ++ y ∷ us) (behind_end 1 _ _ (sure kind refl (λ a n p. refl) _)) ∙ no_operations 1 (more_exprs (max 0 (high_of a)) ∷ pass ∷ a_block ∷ pass ∷ leave ∷ a_block ∷ ss) _ _ (keyword w.Do j) ((ws ++ (keyword w.End l ∷ [])) ++ y ∷ us) refl
        ∙ over _ _ _ (append_assoc ws (keyword w.End l ∷ []) (y ∷ us)) ∙ block_counts n (pass ∷ leave ∷ a_block ∷ ss) _ _ (keyword w.End l) (y ∷ us) end_ends
    stat_counts (SpellsStat.numeric_for {a = a} {b = z} {ts = ts} {us = vs} {ws = ws} p x q i j l d e (SpellsStep.some_step {a = v} {ts = us'} t m) n) ss h r y us f g =
        over _ _ _ (append_assoc ts (symbol s.Comma i ∷ vs ++ ((symbol s.Comma t ∷ us') ++ (keyword w.Do j ∷ ws ++ (keyword w.End l ∷ [])))) (y ∷ us))
        ∙ expr_counts d 1 (omega arith) (omega arith) (more_exprs 0 ∷ pass ∷ a_block ∷ pass ∷ leave ∷ a_block ∷ ss) 0 _ (symbol s.Comma i) ((vs ++ ((symbol s.Comma t ∷ us') ++ (keyword w.Do j ∷ ws ++ (keyword w.End l ∷ [])))) ++ y ∷ us) (behind_end 1 _ _ (sure kind refl (λ a n p. refl) _)) ∙ no_operations 1 (more_exprs 0 ∷ pass ∷ a_block ∷ pass ∷ leave ∷ a_block ∷ ss) _ _ (symbol s.Comma i) ((vs ++ ((symbol s.Comma t ∷ us') ++ (keyword w.Do j ∷ ws ++ (keyword w.End l ∷ [])))) ++ y ∷ us) refl
        ∙ over _ _ _ (append_assoc vs ((symbol s.Comma t ∷ us') ++ (keyword w.Do j ∷ ws ++ (keyword w.End l ∷ []))) (y ∷ us))
        ∙ expr_counts e 1 (omega arith) (omega arith) (more_exprs (max 0 (high_of a)) ∷ pass ∷ a_block ∷ pass ∷ leave ∷ a_block ∷ ss) _ _ (symbol s.Comma t) ((us' ++ (keyword w.Do j ∷ ws ++ (keyword w.End l ∷ []))) ++ y ∷ us) (behind_end 1 _ _ (sure kind refl (λ a n p. refl) _)) ∙ no_operations 1 (more_exprs (max 0 (high_of a)) ∷ pass ∷ a_block ∷ pass ∷ leave ∷ a_block ∷ ss) _ _ (symbol s.Comma t) ((us' ++ (keyword w.Do j ∷ ws ++ (keyword w.End l ∷ []))) ++ y ∷ us) refl
        ∙ over _ _ _ (append_assoc us' (keyword w.Do j ∷ ws ++ (keyword w.End l ∷ [])) (y ∷ us))
        ∙ expr_counts m 1 (omega arith) (omega arith) (more_exprs (max (max 0 (high_of a)) (high_of z)) ∷ pass ∷ a_block ∷ pass ∷ leave ∷ a_block ∷ ss) _ _ (keyword w.Do j) ((ws ++ (keyword w.End l ∷ [])) ++ y ∷ us) (behind_end 1 _ _ (sure kind refl (λ a n p. refl) _)) ∙ no_operations 1 (more_exprs (max (max 0 (high_of a)) (high_of z)) ∷ pass ∷ a_block ∷ pass ∷ leave ∷ a_block ∷ ss) _ _ (keyword w.Do j) ((ws ++ (keyword w.End l ∷ [])) ++ y ∷ us) refl
        ∙ over _ _ _ (append_assoc ws (keyword w.End l ∷ []) (y ∷ us)) ∙ block_counts n (pass ∷ leave ∷ a_block ∷ ss) _ _ (keyword w.End l) (y ∷ us) end_ends
    stat_counts (SpellsStat.generic_for {es = es} {ts = ts} {us = us'} {vs = vs} p q i z d l e) ss h r y us f g =
        over _ _ _ (append_assoc ts (keyword w.In q ∷ us' ++ (keyword w.Do i ∷ vs ++ (keyword w.End z ∷ []))) (y ∷ us))
        ∙ names_count d (leave ∷ a_block ∷ ss) 0 _ q ((us' ++ (keyword w.Do i ∷ vs ++ (keyword w.End z ∷ []))) ++ y ∷ us)
        ∙ over _ _ _ (append_assoc us' (keyword w.Do i ∷ vs ++ (keyword w.End z ∷ [])) (y ∷ us))
        ∙ list_counts l 0 (pass ∷ a_block ∷ pass ∷ leave ∷ a_block ∷ ss) 0 _ (keyword w.Do i) ((vs ++ (keyword w.End z ∷ [])) ++ y ∷ us) (sure kind refl (λ a n p. refl) _) refl
        ∙ over _ _ _ (append_assoc vs (keyword w.End z ∷ []) (y ∷ us)) ∙ block_counts e (pass ∷ leave ∷ a_block ∷ ss) _ _ (keyword w.End z) (y ∷ us) end_ends
    stat_counts (SpellsStat.function_stat {a = a} {b = b} {ts = ts} {us = vs} p d e) ss h r y us f g =
        over _ _ _ (append_assoc ts vs (y ∷ us)) ∙ path_before d e (note ∷ a_block ∷ ss) _ y us ∙ body_opens e (note ∷ a_block ∷ ss) _ _ (y ∷ us) ∙ body_counts e (note ∷ a_block ∷ ss) _ _ y us ∙ noted p b ss _ y us
    stat_counts (SpellsStat.method_stat {a = a} {b = b} {ts = ts} {us = vs} p q x d e) ss h r y us f g =
        over _ _ _ (append_assoc ts (symbol s.Colon q ∷ named x ∷ vs) (y ∷ us)) ∙ path_count d (note ∷ a_block ∷ ss) _ (symbol s.Colon q) (named x ∷ (vs ++ y ∷ us))
        ∙ body_counts e (note ∷ a_block ∷ ss) _ _ y us ∙ noted p b ss _ y us
    stat_counts (SpellsStat.local_function {b = b} {ts = ts} p q x e) ss h r y us f g = body_counts e (note ∷ a_block ∷ ss) 0 _ y us ∙ noted p b ss _ y us
    stat_counts (SpellsStat.local_stat {xs = xs} {ts = ts} p d SpellsInit.no_init) ss h r y us f g =
        let i = typeds_count d (a_block ∷ ss) 0 (word (keyword w.Local p) r) y us (follow_no_type f) in
        over _ _ _ (append_assoc ts [] (y ∷ us)) ∙ local_opens d (a_block ∷ ss) _ (y ∷ us) ∙ i.1 ∙ names_end (a_block ∷ ss) i.0 _ y us f
    stat_counts (SpellsStat.local_stat {xs = xs} {es = es} {ts = ts} p d (SpellsInit.some_init {ts = vs} q l)) ss h r y us f g =
        let i = typeds_count d (a_block ∷ ss) 0 (word (keyword w.Local p) r) (symbol s.Assign q) (vs ++ y ∷ us) (record { no_bar = refl; no_mark = refl; no_dot = refl; no_arrow = refl }) in
        over _ _ _ (append_assoc ts (symbol s.Assign q ∷ vs) (y ∷ us)) ∙ local_opens d (a_block ∷ ss) _ (symbol s.Assign q ∷ (vs ++ y ∷ us)) ∙ i.1
        ∙ list_counts l 0 (a_block ∷ ss) i.0 _ y us (follow_end kind f g) (follow_no_comma f)
    stat_counts (SpellsStat.interface_stat {ts = ts} p x z j d) ss h r y us f g = over _ _ _ (append_assoc ts (keyword w.End z ∷ []) (y ∷ us)) ∙ interface_count d (a_block ∷ ss) 1 _ z (y ∷ us)
    stat_counts (SpellsStat.alias_stat {ts = ts} p x q j d) ss h r y us f g = type_counts d (a_block ∷ ss) 1 _ y us (follow_no_type f)

    targets_count : {n m : ℕ} {a : Expr} {bs : List Expr} {ts : Words} (d : SpellsTargets kind n m a bs ts) (ss : List Sign) (h : ℕ) (r : Reached) (q : Pos) (us : Words)
        → (v : ℕ) × (count (ts ++ symbol s.Assign q ∷ us) (at (next_target ∷ ss) h r) ≡ count us (at (expr 1 ∷ more_exprs 0 ∷ ss) v (word (symbol s.Assign q) (through_targets d r))))
    targets_count (SpellsTargets.last_target {a = a} d) ss h r q us = (high_of a, prefix_counts d false ss (target_head ss) h r (symbol s.Assign q) us (λ i. refl))
    targets_count (SpellsTargets.more_targets {a = a} {ts = ts} {us = vs} o d e) ss h r q us =
        let i = targets_count e ss (high_of a) (word (symbol s.Comma o) (reaches (high_of a) (through_prefix d r))) q us in
        (i.0, over _ _ _ (append_assoc ts (symbol s.Comma o ∷ vs) (symbol s.Assign q ∷ us)) ∙ prefix_counts d false ss (target_head ss) h r (symbol s.Comma o) (vs ++ symbol s.Assign q ∷ us) (λ i. refl) ∙ i.1)

    clauses_count : {n m : ℕ} {cs : List Clause} {b : Option Block} {ts : Words} (d : SpellsClauses kind n m cs b ts) (ss : List Sign) (h : ℕ) (r : Reached) (us : Words)
        → count (ts ++ us) (at (expr 1 ∷ pass ∷ a_block ∷ clauses ∷ ss) h r) ≡ count us (at ss 0 (through_clauses d r))
    clauses_count (SpellsClauses.next_clause {a = a} {ts = ts} {us = vs} {vs = ws} q d b e) ss h r us =
        let i = else_first kind e in
        over _ _ _ (append_assoc ts (keyword w.Then q ∷ vs ++ ws) us) ∙ expr_counts d 1 (omega arith) (omega arith) (pass ∷ a_block ∷ clauses ∷ ss) h r (keyword w.Then q) ((vs ++ ws) ++ us) (behind_end 1 _ _ (sure kind refl (λ a n p. refl) _)) ∙ no_operations 1 (pass ∷ a_block ∷ clauses ∷ ss) _ _ (keyword w.Then q) ((vs ++ ws) ++ us) refl
        ∙ over _ _ _ (append_assoc vs ws us ∙ ap (λ z. vs ++ (z ++ us)) i.2) ∙ block_counts b (clauses ∷ ss) _ _ i.0 (i.1 ++ us) i.3 ∙ sym (over (clauses ∷ ss) 0 (through_block b (word (keyword w.Then q) (reaches (high_of a) (through_expr d r)))) (ap (λ z. z ++ us) i.2))
        ∙ else_counts e ss _ us

    else_counts : {n m : ℕ} {cs : List Clause} {b : Option Block} {ts : Words} (d : SpellsElse kind n m cs b ts) (ss : List Sign) (r : Reached) (us : Words) → count (ts ++ us) (at (clauses ∷ ss) 0 r) ≡ count us (at ss 0 (through_else d r))
    else_counts (SpellsElse.no_else z) ss r us = refl
    else_counts (SpellsElse.else_block {ts = ts} q z b) ss r us = over _ _ _ (append_assoc ts (keyword w.End z ∷ []) us) ∙ block_counts b (pass ∷ ss) 0 _ (keyword w.End z) us end_ends
    else_counts (SpellsElse.else_if q d) ss r us = clauses_count d ss 0 _ us

  -- A whole module is counted as it is spelled.
  pub chunk_counts : {b : Block} {ts : Words} (d : SpellsChunk kind b ts) → count ts start ≡ at [] 0 (through_chunk d at_start)
  chunk_counts (SpellsChunk.chunk z d) = block_counts d (pass ∷ []) 0 at_start (end_of_file z) [] finish_ends
