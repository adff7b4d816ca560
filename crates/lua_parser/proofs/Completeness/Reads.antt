-- The machine reads each spelling of an expression, a statement and a block.
use Rattle.std.proofs.Common.{◌≡◌, ℕ, ◌+◌, ◌≤◌, ◌<◌, ◌⊎◌, inl, inr, Bool, true, false, List, [], ◌∷◌, ◌++◌, Option, Some, None, Ok, refl, sym, subst, ap, append_assoc, ◌∙◌, arith}
use Rattle.std.specs.Prelude.{codes, if◌then◌else◌, ◌&&◌}
use Rattle.tl_base.specs.declared.place.Pos.{Pos}
use Rattle.tl_base.specs.declared.place.ModuleKind.{ModuleKind}
use Rattle.lua_tree.specs.declared.annotation.Name.{Name}
use Rattle.lua_tree.specs.declared.annotation.Typed.{Typed}
use Rattle.lua_tree.specs.declared.annotation.TypeExpr.{TypeExpr}
use Rattle.lua_tree.specs.declared.annotation.TypeResults.{TypeResults}
use Rattle.lua_tree.specs.declared.syntax.BinaryOperator.{BinaryOperator}
use Rattle.lua_tree.specs.declared.syntax.Expr.{Expr}
use Rattle.lua_tree.specs.declared.syntax.Expr.TheVariants as e
use Rattle.lua_tree.specs.declared.syntax.Entry.{Entry}
use Rattle.lua_tree.specs.declared.syntax.Entry.TheVariants as entry
use Rattle.lua_tree.specs.declared.syntax.Stat.{Stat}
use Rattle.lua_tree.specs.declared.syntax.Stat.TheVariants as stat
use Rattle.lua_tree.specs.declared.syntax.Body.{Body}
use Rattle.lua_tree.specs.declared.syntax.Block.{Block}
use Rattle.lua_tree.specs.declared.syntax.Clause.{Clause}
use Rattle.lua_tree.specs.declared.syntax.Rest.{Rest}
use Rattle.lua_tree.specs.declared.syntax.Return.{Return}
use Rattle.lua_lexer.specs.declared.token.Keyword.TheVariants as w
use Rattle.lua_lexer.specs.declared.token.Symbol.TheVariants as s
use Rattle.lua_parser.specs.Words.{Word, Words, WordKind, mark, key, sign, finish, keyword, symbol, marked, named, name_at, quoted, end_of_file}
use Rattle.lua_parser.specs.Grammar.Levels.{binary_mark, level, unary_level, left_level, right_level}
use Rattle.lua_parser.specs.Grammar.Types.{opens, begins_open}
use Rattle.lua_parser.specs.Grammar.Syntax.{Form, Target, Called, Enclosed, place, block, clause, body, returns, typed, rest_at, SpellsAnnotation, SpellsTyped, SpellsTypeds, SpellsParams, SpellsParameters, SpellsOutcome, SpellsNames, SpellsPath, SpellsSemicolon, SpellsEntrySeparator, Spells, SpellsPrefix, SpellsArguments, SpellsList, SpellsEntries, SpellsEntry, SpellsBody, SpellsBlock, SpellsValues, SpellsStat, SpellsTargets, SpellsClauses, SpellsElse, SpellsStep, SpellsInit, SpellsChunk}
use Rattle.lua_parser.specs.Machine.Plan.{Item, Plan, done, want, want_name, read}
use Rattle.lua_parser.specs.Machine.Steps.{is_sign, if_name, binary_at, suffix, start_exprs, assigned}
use Rattle.lua_parser.specs.Machine.Run.{run, module_plan}
use Rattle.lua_parser.proofs.Marks.{right_fits, left_fits, binary_at_mark}
use Rattle.lua_parser.proofs.Completeness.Types.{TypeEnd, type_reads, body_results_reads, interface_reads}
use Rattle.lua_parser.proofs.Completeness.Ends.{Follow, EndsBlock, ends_follows, follow_no_op, follow_no_comma, follow_no_colon, follow_no_assign, follow_no_type, follow_no_suffix, ends_no_open, ends_no_exprs, ends_no_semicolon, after_use, operator_no_suffix, associates, level_fits, right_above, left_above, end_ends, until_ends, finish_ends}
use Rattle.lua_parser.proofs.Completeness.Begins.{open_append, expr_first, list_first, FirstStat, block_first, else_first}
use Rattle.lua_parser.proofs.Completeness.Steps.{and_false, ExprEnd, Behind, behind_end, no_name, operations_take, operations_end, no_operations, suffixes_end, unary_take, exprs_unfold, more_exprs_end, rest_unfold, values_unfold, no_values, no_semicolon, entries_unfold, next_of, block_at, block_end, suffix_loops, stat_loops, targets_loops, call_ends, behind_plain, interface_at, alias_at, annotation_at, no_annotation_at, outcome_at, no_outcome_at, no_more_typed, no_init_at, no_more_names, Loop, Head}

module _ (kind : ModuleKind) where
  annotation_reads : {a : Option TypeExpr} {ts : Words} → SpellsAnnotation kind a ts → {A : Type 0} (k : Option TypeExpr → Plan A) (y : Word) (us : Words) → TypeEnd y.kind → is_sign s.Colon y.kind ≡ false → run kind (read Item.annotation k) (ts ++ y ∷ us) ≡ run kind (k a) (y ∷ us)
  annotation_reads SpellsAnnotation.no_annotation k y us f g = no_annotation_at kind y us k g
  annotation_reads (SpellsAnnotation.annotation {ts = ts} q h d) k y us f g = annotation_at kind q (ts ++ y ∷ us) k h ∙ type_reads kind d (λ x. k (Some x)) y us f

  -- declared names, where a plan begins with the first
  typeds_read : {xs : List Typed} {ts : Words} → SpellsTypeds kind xs ts → {A : Type 0} (P : Plan A) (k : List Typed → Plan A)
      → ((x : Name) (us : Words) → run kind P (named x ∷ us) ≡ run kind (read Item.annotation λ a. read Item.more_typed λ r. k (typed x a ∷ r)) us) → (y : Word) (us : Words) → TypeEnd y.kind → is_sign s.Colon y.kind ≡ false → is_sign s.Comma y.kind ≡ false
      → run kind P (ts ++ y ∷ us) ≡ run kind (k xs) (y ∷ us)
  typeds_read (SpellsTypeds.last_typed (SpellsTyped.declared {a = a} {ts = ts} x d)) P k f y us g h i =
      f x (ts ++ y ∷ us) ∙ annotation_reads d (λ b. read Item.more_typed λ r. k (typed x b ∷ r)) y us g h ∙ no_more_typed kind y us (λ r. k (typed x a ∷ r)) i
  typeds_read (SpellsTypeds.more_typed {us = vs} q (SpellsTyped.declared {a = a} {ts = ts} x d) e) P k f y us g h i =
      f x (ts ++ symbol s.Comma q ∷ vs ++ y ∷ us)
      ∙ ap (run kind (read Item.annotation λ b. read Item.more_typed λ r. k (typed x b ∷ r))) (append_assoc ts (symbol s.Comma q ∷ vs) (y ∷ us))
      ∙ annotation_reads d (λ b. read Item.more_typed λ r. k (typed x b ∷ r)) (symbol s.Comma q) (vs ++ y ∷ us) (record { no_bar = refl; no_mark = refl; no_dot = refl; no_arrow = refl }) refl
      ∙ typeds_read e (want_name λ z. read Item.annotation λ b. read Item.more_typed λ r. k (typed x a ∷ typed z b ∷ r)) (λ ys. k (typed x a ∷ ys)) (λ z ws. refl) y us g h i

  params_name : {A : Type 0} (may_end : Bool) (k : List Typed × Option Rest → Plan A) (x : Name) (us : Words) → run kind (read (Item.params may_end) k) (named x ∷ us) ≡ run kind (read Item.annotation λ a. read Item.more_params λ r. k (typed x a ∷ r.0, r.1)) us
  params_name true k x us = refl
  params_name false k x us = refl

  params_dots : {A : Type 0} (may_end : Bool) (k : List Typed × Option Rest → Plan A) (p : Pos) (us : Words) → run kind (read (Item.params may_end) k) (symbol s.Dots p ∷ us) ≡ run kind (read Item.annotation λ a. want (sign s.CloseParen) λ _. k ([], Some (rest_at p a))) us
  params_dots true k p us = refl
  params_dots false k p us = refl

  params_read : {xs : List Typed} {r : Option Rest} {ts : Words} → SpellsParams kind xs r ts → {A : Type 0} (may_end : Bool) (k : List Typed × Option Rest → Plan A) (q : Pos) (us : Words)
      → run kind (read (Item.params may_end) k) (ts ++ symbol s.CloseParen q ∷ us) ≡ run kind (k (xs, r)) us
  params_read (SpellsParams.last_param (SpellsTyped.declared {ts = ts} x d)) may_end k q us =
      params_name may_end k x (ts ++ symbol s.CloseParen q ∷ us)
      ∙ annotation_reads d (λ a. read Item.more_params λ r. k (typed x a ∷ r.0, r.1)) (symbol s.CloseParen q) us (record { no_bar = refl; no_mark = refl; no_dot = refl; no_arrow = refl }) refl
  params_read (SpellsParams.rest_param {ts = ts} p d) may_end k q us =
      params_dots may_end k p (ts ++ symbol s.CloseParen q ∷ us)
      ∙ annotation_reads d (λ a. want (sign s.CloseParen) λ _. k ([], Some (rest_at p a))) (symbol s.CloseParen q) us (record { no_bar = refl; no_mark = refl; no_dot = refl; no_arrow = refl }) refl
  params_read (SpellsParams.more_params {us = vs} q (SpellsTyped.declared {a = a} {ts = ts} x d) e) may_end k o us =
      params_name may_end k x (ts ++ symbol s.Comma q ∷ vs ++ symbol s.CloseParen o ∷ us)
      ∙ ap (run kind (read Item.annotation λ b. read Item.more_params λ r. k (typed x b ∷ r.0, r.1))) (append_assoc ts (symbol s.Comma q ∷ vs) (symbol s.CloseParen o ∷ us))
      ∙ annotation_reads d (λ b. read Item.more_params λ r. k (typed x b ∷ r.0, r.1)) (symbol s.Comma q) (vs ++ symbol s.CloseParen o ∷ us) (record { no_bar = refl; no_mark = refl; no_dot = refl; no_arrow = refl }) refl
      ∙ params_read e false (λ r. k (typed x a ∷ r.0, r.1)) o us

  parameters_read : {xs : List Typed} {r : Option Rest} {ts : Words} → SpellsParameters kind xs r ts → {A : Type 0} (k : List Typed × Option Rest → Plan A) (q : Pos) (us : Words)
      → run kind (read (Item.params true) k) (ts ++ symbol s.CloseParen q ∷ us) ≡ run kind (k (xs, r)) us
  parameters_read SpellsParameters.no_params k q us = refl
  parameters_read (SpellsParameters.some_params d) k q us = params_read d true k q us

  outcome_reads : {o : Option TypeResults} {ts : Words} → SpellsOutcome kind o ts → {A : Type 0} (k : Option TypeResults → Plan A) (y : Word) (us : Words) → TypeEnd y.kind → is_sign s.Colon y.kind ≡ false → run kind (read Item.outcome k) (ts ++ y ∷ us) ≡ run kind (k o) (y ∷ us)
  outcome_reads SpellsOutcome.no_outcome k y us f g = no_outcome_at kind y us k g
  outcome_reads (SpellsOutcome.outcome {ts = ts} q h d) k y us f g = outcome_at kind q (ts ++ y ∷ us) k h ∙ body_results_reads kind d (λ x. k (Some x)) y us f

  names_read : {xs : List Name} {ts : Words} → SpellsNames xs ts → {A : Type 0} (k : List Name → Plan A) (y : Word) (us : Words) → is_sign s.Comma y.kind ≡ false
      → run kind (want_name λ z. read Item.more_names λ zs. k (z ∷ zs)) (ts ++ y ∷ us) ≡ run kind (k xs) (y ∷ us)
  names_read (SpellsNames.last_name x) k y us h = no_more_names kind y us (λ zs. k (x ∷ zs)) h
  names_read (SpellsNames.more_names x q d) k y us h = names_read d (λ zs. k (x ∷ zs)) y us h

  path_reads : {n m : ℕ} {a : Expr} {ts : Words} → SpellsPath n m a ts → {A : Type 0} (p : Pos) (k : Stat × ℕ → Plan A) (us : Words)
      → run kind (want_name λ x. read (Item.rest_of_function p (e.Name x.pos n x.text) (n + 1)) k) (ts ++ us) ≡ run kind (read (Item.rest_of_function p a m) k) us
  path_reads (SpellsPath.path_name n x) p k us = refl
  path_reads (SpellsPath.path_field {n = n} {ts = ts} q x d) p k us =
      ap (run kind (want_name λ z. read (Item.rest_of_function p (e.Name z.pos n z.text) (n + 1)) k)) (append_assoc ts (symbol s.Dot q ∷ named x ∷ []) us) ∙ path_reads d p k (symbol s.Dot q ∷ named x ∷ us)

  -- the level from which operators may go on behind a spelled expression
  abbrev top : {l n m : ℕ} {c : Bool} {a : Expr} {ts : Words} → Spells kind l n m c a ts → ℕ
  top (Spells.binary q o f x y) = level o
  top x = unary_level

  top_above : {l n m : ℕ} {c : Bool} {a : Expr} {ts : Words} (d : Spells kind l n m c a ts) → l ≤ unary_level → l ≤ top d
  top_above (Spells.binary q o f x y) h = f
  top_above (Spells.nil p) h = h
  top_above (Spells.false_word p) h = h
  top_above (Spells.true_word p) h = h
  top_above (Spells.integer p i) h = h
  top_above (Spells.string p x) h = h
  top_above (Spells.vararg p) h = h
  top_above (Spells.function p x) h = h
  top_above (Spells.prefix x) h = h
  top_above (Spells.table p x) h = h
  top_above (Spells.unary p o x) h = h

  some_once : (o i : BinaryOperator) → ◌≡◌ {A = Option BinaryOperator} (Some o) (Some i) → o ≡ i
  some_once o i h = cc

  -- what stands behind a left operand, a right operand and the operand of a unary operator
  abbrev Associates : BinaryOperator → Type 0
  Associates o = ((left_level o ≡ level o) × (right_level o ≡ level o + 1) × ((level o < 8) ⊎ (8 < level o))) ⊎ ((level o ≡ 8) × (left_level o ≡ 9) × (right_level o ≡ 8))

  left_looser : (o j : BinaryOperator) → Associates o → Associates j → left_level o ≤ level j → level o < right_level j
  left_looser o j (inl a) (inl b) l = omega (arith, a.0, b.1, l)
  left_looser o j (inl (a, b, inl c)) (inr d) l = omega (arith, c, d.2)
  left_looser o j (inl (a, b, inr c)) (inr d) l = absurd (omega (arith, a, c, d.0, l))
  left_looser o j (inr a) (inl b) l = omega (arith, a.0, a.1, b.1, l)
  left_looser o j (inr a) (inr b) l = absurd (omega (arith, a.1, b.0, l))

  pub behind_left : (o : BinaryOperator) (c : Bool) → Behind (left_level o) c (mark (binary_mark o))
  behind_left o c = record { looser = λ i d j l. subst (λ z. level z < right_level j) (some_once o i (sym (binary_at_mark o) ∙ d)) (left_looser o j (associates o) (associates j) l); no_call = λ f. operator_no_suffix o }

  pub behind_right : {l : ℕ} {c : Bool} {k : WordKind} (o : BinaryOperator) → l ≤ level o → Behind l c k → Behind (right_level o) c k
  behind_right o f b = record { looser = λ i d j l. omega (arith, b.looser i d o f, l, right_above j); no_call = b.no_call }

  pub behind_unary : {l : ℕ} {c : Bool} {k : WordKind} → Behind l c k → Behind unary_level c k
  behind_unary b = record { looser = λ i d j l. absurd (omega (arith, l, level_fits j)); no_call = b.no_call }

  pub sure : {k : WordKind} → binary_at k ≡ None → ((a : Expr) (n : ℕ) (p : Pos) → suffix a n p k ≡ None) → (c : Bool) → ExprEnd c k
  sure f g c = record { no_op = f; no_call = λ d. g }

  pub follow_end : {k : WordKind} {c : Bool} → Follow k → (c ≡ true → opens k ≡ false) → ExprEnd c k
  follow_end f g = record { no_op = follow_no_op f; no_call = λ d a n p. follow_no_suffix f (g d) a n p }

  pub ends_end : {k : WordKind} (c : Bool) → EndsBlock k → ExprEnd c k
  ends_end c f = follow_end (ends_follows f) (λ d. ends_no_open f)

  used_no_name : (x : Word) (us : Words) → after_use x.kind ≡ true → no_name (x ∷ us) ≡ true
  used_no_name x us h = go x.kind h
    where
      go : (k : WordKind) → after_use k ≡ true → if_name k (λ n. false) true ≡ true
      go (WordKind.name n) d = cc
      go (mark n) d = refl
      go (WordKind.number n) d = refl
      go (WordKind.text n) d = refl

  opposite : Bool → Bool
  opposite c = if c then false else true

  open_allowed : (c : Bool) → opposite c ≡ true → (c && true) ≡ false
  unfolding opposite
  open_allowed true h = cc
  open_allowed false h = refl

  allowed_open : (c : Bool) (ts : Words) → (c ≡ true → begins_open ts ≡ false) → begins_open ts ≡ true → opposite c ≡ true
  unfolding opposite
  allowed_open true ts f h = let d : true ≡ false = sym h ∙ f refl in cc
  allowed_open false ts f h = refl

  module _ {A : Type 0} where
    abbrev expr_loop : ℕ → (Expr × ℕ × Bool → Plan A) → Loop kind A
    expr_loop i k = record { next = λ f a n. read (Item.suffixes f a n) λ v. read (Item.operations i unary_level v.1 v.2 true) k; loops = suffix_loops kind (λ v. read (Item.operations i unary_level v.1 v.2 true) k) }

    abbrev expr_head : (i n : ℕ) (k : Expr × ℕ × Bool → Plan A) → Head kind A (expr_loop i k) n
    expr_head i n k = record { start = read (Item.an_expr i n) k; good = λ us. true; may_open = true; good_used = λ x us h. refl; at_name = λ x us h. refl; at_open = λ p us h. refl }

    abbrev targets_loop : (Expr × List Expr × List Expr × ℕ × Bool → Plan A) → Loop kind A
    targets_loop k = record { next = λ f a n. read (Item.targets f a n) k; loops = targets_loops kind k }

    abbrev targets_head : (n : ℕ) (k : Expr × List Expr × List Expr × ℕ × Bool → Plan A) → Head kind A (targets_loop k) n
    targets_head n k = record { start = read (Item.next_target n) k; good = λ us. true; may_open = true; good_used = λ x us h. refl; at_name = λ x us h. refl; at_open = λ p us h. refl }

    abbrev stat_loop : Bool → (List Stat × Option Return × ℕ → Plan A) → Loop kind A
    stat_loop outer k = record { next = λ f a n. read (Item.rest_of_stat f a n) (next_of kind outer k); loops = stat_loops kind (next_of kind outer k) }

    abbrev stat_head : (outer : Bool) (n : ℕ) (c : Bool) (k : List Stat × Option Return × ℕ → Plan A) → Head kind A (stat_loop outer k) n
    stat_head outer n c k = record {
      start = read (Item.a_block outer n c) k;
      good = no_name;
      may_open = opposite c;
      good_used = used_no_name;
      at_name = λ x us h. block_at kind outer n c k (named x) us _ refl (and_false c false (λ d. refl)) refl ∙ behind_plain kind outer x n (next_of kind outer k) us h;
      at_open = λ p us h. block_at kind outer n c k (symbol s.OpenParen p) us _ refl (open_allowed c h) refl;
    }

  -- ---- the whole

  outcome_before : {o : Option TypeResults} {ts : Words} → SpellsOutcome kind o ts → {A : Type 0} (k : Option TypeResults → Plan A) (us : Words) → FirstStat kind us → run kind (read Item.outcome k) (ts ++ us) ≡ run kind (k o) us
  outcome_before {o = o} {ts = ts} d k us f =
      ap (λ x. run kind (read Item.outcome k) (ts ++ x)) f.2 ∙ outcome_reads d k f.0 f.1 (follow_no_type f.3) (follow_no_colon f.3) ∙ sym (ap (run kind (k o)) f.2)

  -- a body behind the name of a function statement
  body_opens : {n m : ℕ} {b : Body} {ts : Words} → SpellsBody kind n m b ts → {A : Type 0} (p : Pos) (a : Expr) (k : Stat × ℕ → Plan A) (us : Words)
      → run kind (read (Item.rest_of_function p a n) k) (ts ++ us) ≡ run kind (read (Item.a_body n) λ d. k (stat.Function p a (e.Function p d.0), d.1)) (ts ++ us)
  body_opens (SpellsBody.function_body p q z d f g) o a k us = refl

  pub closed_before : (ts : Words) (z : Word) (us : Words) → begins_open ts ≡ false → opens z.kind ≡ false → begins_open (ts ++ z ∷ us) ≡ false
  closed_before [] z us f g = g
  closed_before (x ∷ ts) z us f g = f

  closed_front : (ts us : Words) → begins_open (ts ++ us) ≡ false → begins_open ts ≡ false
  closed_front [] us f = refl
  closed_front (x ∷ ts) us f = f

  mutual
    expr_reads : {l n m : ℕ} {c : Bool} {a : Expr} {ts : Words} (d : Spells kind l n m c a ts) → {A : Type 0} (i : ℕ) → i ≤ l → l ≤ unary_level → (k : Expr × ℕ × Bool → Plan A) (y : Word) (us : Words) → Behind l c y.kind
        → run kind (read (Item.an_expr i n) k) (ts ++ y ∷ us) ≡ run kind (read (Item.operations i (top d) a m c) k) (y ∷ us)
    expr_reads (Spells.nil p) i f g k y us h = refl
    expr_reads (Spells.false_word p) i f g k y us h = refl
    expr_reads (Spells.true_word p) i f g k y us h = refl
    expr_reads (Spells.integer p n) i f g k y us h = refl
    expr_reads (Spells.string p x) i f g k y us h = refl
    expr_reads (Spells.vararg p) i f g k y us h = refl
    expr_reads (Spells.function p d) i f g k y us h = body_reads d (λ b. read (Item.operations i unary_level (e.Function p b.0) b.1 false) k) (y ∷ us)
    expr_reads (Spells.prefix {n = n} {m = m} {f = q} {a = a} d) i f g k y us h =
        prefix_reads d (expr_loop i k) (expr_head i n k) (y ∷ us) (λ x. refl) (λ x. refl) ∙ suffixes_end kind q a m y us (λ v. read (Item.operations i unary_level v.1 v.2 true) k) (h.no_call refl a m y.pos)
    expr_reads (Spells.table p d) i f g k y us h = entries_reads d (λ es. read (Item.operations i unary_level (e.Table p es.0) es.1 false) k) (y ∷ us)
    expr_reads (Spells.unary {n = n} {m = m} {c = c} {a = a} {ts = ts} p o d) i f g k y us h =
        unary_take kind i n p o (ts ++ y ∷ us) k
        ∙ expr_reads d unary_level (omega arith) (omega arith) (λ b. read (Item.operations i unary_level (e.Unary p o b.0) b.1 b.2) k) y us (behind_unary h)
        ∙ operations_end kind unary_level (top d) a m c y us (λ b. read (Item.operations i unary_level (e.Unary p o b.0) b.1 b.2) k) (λ j x. level_fits j)
    expr_reads (Spells.binary {m = m} {k = j} {c = c} {d = z} {a = a} {b = b} {ts = ts} {us = vs} q o l d r) i f g k y us h =
        ap (run kind _) (append_assoc ts (marked (binary_mark o) q ∷ vs) (y ∷ us))
        ∙ expr_reads d i (omega (arith, f, l, left_above o)) (left_fits o) k (marked (binary_mark o) q) (vs ++ y ∷ us) (behind_left o c)
        ∙ operations_take kind i (top d) a m c q o (vs ++ y ∷ us) k (omega (arith, f, l)) (top_above d (left_fits o))
        ∙ expr_reads r (right_level o) (omega arith) (right_fits o) (λ x. read (Item.operations i (level o) (e.Binary (place a) o a x.0) x.1 x.2) k) y us (behind_right o l h)
        ∙ operations_end kind (right_level o) (top r) b j z y us (λ x. read (Item.operations i (level o) (e.Binary (place a) o a x.0) x.1 x.2) k) (λ t x. h.looser t x o l)

    prefix_reads : {f : Form} {n m : ℕ} {a : Expr} {ts : Words} → SpellsPrefix kind f n m a ts → {A : Type 0} (L : Loop kind A) (H : Head kind A L n) (us : Words) → (f ≡ Target → H.good us ≡ true) → (begins_open ts ≡ true → H.may_open ≡ true)
        → run kind H.start (ts ++ us) ≡ run kind (L.next f a m) us
    prefix_reads (SpellsPrefix.name n x) L H us g o = H.at_name x us (g refl)
    prefix_reads (SpellsPrefix.paren {ts = ts} p q d) L H us g o =
        H.at_open p ((ts ++ symbol s.CloseParen q ∷ []) ++ us) (o refl) ∙ ap (run kind _) (append_assoc ts (symbol s.CloseParen q ∷ []) (us))
        ∙ expr_reads d 1 (omega arith) (omega arith) (λ b. want (sign s.CloseParen) λ _. L.next Enclosed (e.Paren p b.0) b.1) (symbol s.CloseParen q) (us) (behind_end 1 _ _ (sure refl (λ a n p. refl) _))
    prefix_reads (SpellsPrefix.field {m = m} {f = f} {a = a} {ts = ts} q x d) L H us g o =
        ap (run kind _) (append_assoc ts (symbol s.Dot q ∷ named x ∷ []) (us))
        ∙ prefix_reads d L H (symbol s.Dot q ∷ named x ∷ us) (λ h. H.good_used (symbol s.Dot q) (named x ∷ us) refl) (λ h. o (open_append ts _ h)) ∙ L.loops f a m (symbol s.Dot q) (named x ∷ us) _ refl
    prefix_reads (SpellsPrefix.index {m = m} {f = f} {a = a} {ts = ts} {us = vs} p q d r) L H us g o =
        ap (run kind _) (append_assoc ts (symbol s.OpenBracket p ∷ vs ++ (symbol s.CloseBracket q ∷ [])) (us))
        ∙ prefix_reads d L H (symbol s.OpenBracket p ∷ ((vs ++ (symbol s.CloseBracket q ∷ [])) ++ us)) (λ h. H.good_used (symbol s.OpenBracket p) _ refl) (λ h. o (open_append ts _ h))
        ∙ L.loops f a m (symbol s.OpenBracket p) ((vs ++ (symbol s.CloseBracket q ∷ [])) ++ us) _ refl
        ∙ ap (run kind _) (append_assoc vs (symbol s.CloseBracket q ∷ []) (us))
        ∙ expr_reads r 1 (omega arith) (omega arith) (λ b. want (sign s.CloseBracket) λ _. L.next Target (e.Index (place a) a b.0) b.1) (symbol s.CloseBracket q) (us) (behind_end 1 _ _ (sure refl (λ a n p. refl) _))
    prefix_reads (SpellsPrefix.call {m = m} {f = f} {a = a} {ts = ts} {us = vs} d r) L H us g o =
        ap (run kind _) (append_assoc ts (vs) (us))
        ∙ prefix_reads d L H (vs ++ us) (λ h. arguments_good r L H us) (λ h. o (open_append ts _ h)) ∙ call_reads r L f a us
    prefix_reads (SpellsPrefix.method {m = m} {f = f} {a = a} {ts = ts} {us = vs} q x d r) L H us g o =
        ap (run kind _) (append_assoc ts (symbol s.Colon q ∷ named x ∷ vs) (us))
        ∙ prefix_reads d L H (symbol s.Colon q ∷ named x ∷ (vs ++ us)) (λ h. H.good_used (symbol s.Colon q) _ refl) (λ h. o (open_append ts _ h))
        ∙ L.loops f a m (symbol s.Colon q) (named x ∷ (vs ++ us)) _ refl
        ∙ arguments_read r (λ es. L.next Called (e.Method (place a) a x es.0) es.1) us

    call_reads : {n m : ℕ} {es : List Expr} {ts : Words} → SpellsArguments kind n m es ts → {A : Type 0} (L : Loop kind A) (f : Form) (a : Expr) (us : Words) → run kind (L.next f a n) (ts ++ us) ≡ run kind (L.next Called (e.Call (place a) a es) m) us
    call_reads (SpellsArguments.no_arguments {n = n} p q) L f a us = L.loops f a n (symbol s.OpenParen p) (symbol s.CloseParen q ∷ us) _ refl
    call_reads (SpellsArguments.arguments {n = n} {ts = ts} p q d) L f a us =
        L.loops f a n (symbol s.OpenParen p) ((ts ++ symbol s.CloseParen q ∷ []) ++ us) _ refl ∙ ap (run kind _) (append_assoc ts (symbol s.CloseParen q ∷ []) (us))
        ∙ rest_unfold kind n (λ es. L.next Called (e.Call (place a) a es.0) es.1) ts (symbol s.CloseParen q ∷ us) (list_first kind d)
        ∙ list_reads d (λ es. want (sign s.CloseParen) λ _. L.next Called (e.Call (place a) a es.0) es.1) (symbol s.CloseParen q) us (sure refl (λ a n p. refl) _) refl
    call_reads (SpellsArguments.table_argument {n = n} {ts = ts} p d) L f a us =
        L.loops f a n (symbol s.OpenBrace p) (ts ++ us) _ refl ∙ entries_reads d (λ es. L.next Called (e.Call (place a) a (e.Table p es.0 ∷ [])) es.1) us
    call_reads (SpellsArguments.string_argument {n = n} p x) L f a us = L.loops f a n _ us _ refl

    arguments_read : {n m : ℕ} {es : List Expr} {ts : Words} → SpellsArguments kind n m es ts → {A : Type 0} (k : List Expr × ℕ → Plan A) (us : Words) → run kind (read (Item.some_arguments n) k) (ts ++ us) ≡ run kind (k (es, m)) us
    arguments_read (SpellsArguments.no_arguments p q) k us = refl
    arguments_read (SpellsArguments.arguments {n = n} {ts = ts} p q d) k us =
        ap (run kind (read (Item.rest_of_arguments n) k)) (append_assoc ts (symbol s.CloseParen q ∷ []) us)
        ∙ rest_unfold kind n k ts (symbol s.CloseParen q ∷ us) (list_first kind d)
        ∙ list_reads d (λ es. want (sign s.CloseParen) λ _. k (es.0, es.1)) (symbol s.CloseParen q) us (sure refl (λ a n p. refl) _) refl
    arguments_read (SpellsArguments.table_argument p d) k us = entries_reads d (λ es. k (e.Table p es.0 ∷ [], es.1)) us
    arguments_read (SpellsArguments.string_argument p x) k us = refl

    arguments_good : {n m : ℕ} {es : List Expr} {ts : Words} → SpellsArguments kind n m es ts → {A : Type 0} (L : Loop kind A) {i : ℕ} (H : Head kind A L i) (us : Words) → H.good (ts ++ us) ≡ true
    arguments_good (SpellsArguments.no_arguments p q) L H us = H.good_used (symbol s.OpenParen p) _ refl
    arguments_good (SpellsArguments.arguments p q d) L H us = H.good_used (symbol s.OpenParen p) _ refl
    arguments_good (SpellsArguments.table_argument p d) L H us = H.good_used (symbol s.OpenBrace p) _ refl
    arguments_good (SpellsArguments.string_argument p x) L H us = H.good_used (quoted x p) _ refl

    list_reads : {n m : ℕ} {c : Bool} {es : List Expr} {ts : Words} → SpellsList kind n m c es ts → {A : Type 0} (k : List Expr × ℕ × Bool → Plan A) (y : Word) (us : Words) → ExprEnd c y.kind → is_sign s.Comma y.kind ≡ false
        → run kind (read (Item.exprs n) k) (ts ++ y ∷ us) ≡ run kind (k (es, m, c)) (y ∷ us)
    list_reads (SpellsList.last {n = n} {m = m} {c = c} {a = a} {ts = ts} d) k y us f g =
        exprs_unfold kind n k (ts ++ y ∷ us)
        ∙ expr_reads d 1 (omega arith) (omega arith) (λ b. read (Item.more_exprs b.1 b.2) λ r. k (b.0 ∷ r.0, r.1, r.2)) (y) (us) (behind_end 1 _ _ f) ∙ no_operations kind 1 (top d) _ _ _ (y) (us) (λ b. read (Item.more_exprs b.1 b.2) λ r. k (b.0 ∷ r.0, r.1, r.2)) f
        ∙ more_exprs_end kind m c y us (λ r. k (a ∷ r.0, r.1, r.2)) g
    list_reads (SpellsList.more {n = n} {m = m} {a = a} {ts = ts} {us = vs} q d r) k y us f g =
        ap (run kind _) (append_assoc ts (symbol s.Comma q ∷ vs) (y ∷ us)) ∙ exprs_unfold kind n k (ts ++ symbol s.Comma q ∷ (vs ++ y ∷ us))
        ∙ expr_reads d 1 (omega arith) (omega arith) (λ b. read (Item.more_exprs b.1 b.2) λ r. k (b.0 ∷ r.0, r.1, r.2)) (symbol s.Comma q) (vs ++ y ∷ us) (behind_end 1 _ _ (sure refl (λ a n p. refl) _))
        ∙ sym (exprs_unfold kind m (λ r. k (a ∷ r.0, r.1, r.2)) (vs ++ y ∷ us)) ∙ list_reads r (λ r. k (a ∷ r.0, r.1, r.2)) y us f g

    entries_reads : {n m : ℕ} {es : List Entry} {ts : Words} → SpellsEntries kind n m es ts → {A : Type 0} (k : List Entry × ℕ → Plan A) (us : Words) → run kind (read (Item.entries n) k) (ts ++ us) ≡ run kind (k (es, m)) us
    entries_reads (SpellsEntries.no_entry q) k us = refl
    entries_reads (SpellsEntries.last_entry {ts = ts} q d) k us = ap (run kind _) (append_assoc ts (symbol s.CloseBrace q ∷ []) (us)) ∙ entry_reads d k (symbol s.CloseBrace q) us (sure refl (λ a n p. refl)) refl
    entries_reads (SpellsEntries.more_entries {x = x} {ts = ts} {us = vs} d (SpellsEntrySeparator.comma_between q) r) k us =
        ap (run kind _) (append_assoc ts (symbol s.Comma q ∷ vs) (us)) ∙ entry_reads d k (symbol s.Comma q) (vs ++ us) (sure refl (λ a n p. refl)) refl ∙ entries_reads r (λ z. k (x ∷ z.0, z.1)) us
    entries_reads (SpellsEntries.more_entries {x = x} {ts = ts} {us = vs} d (SpellsEntrySeparator.semicolon_between q) r) k us =
        ap (run kind _) (append_assoc ts (symbol s.Semicolon q ∷ vs) (us)) ∙ entry_reads d k (symbol s.Semicolon q) (vs ++ us) (sure refl (λ a n p. refl)) refl ∙ entries_reads r (λ z. k (x ∷ z.0, z.1)) us

    entry_reads : {n m : ℕ} {x : Entry} {ts : Words} → SpellsEntry kind n m x ts → {A : Type 0} (k : List Entry × ℕ → Plan A) (y : Word) (us : Words) → ((c : Bool) → ExprEnd c y.kind) → after_use y.kind ≡ true
        → run kind (read (Item.entries n) k) (ts ++ y ∷ us) ≡ run kind (read (Item.behind_entry m) λ r. k (x ∷ r.0, r.1)) (y ∷ us)
    entry_reads (SpellsEntry.keyed {a = a} {ts = ts} {us = vs} p q o d r) k y us f g =
        ap (run kind (read (Item.an_expr 1 _) λ b. want (sign s.CloseBracket) λ _. want (sign s.Assign) λ _. read (Item.an_expr 1 b.1) λ z. read (Item.behind_entry z.1) λ r. k (entry.Keyed b.0 z.0 ∷ r.0, r.1))) (append_assoc ts (symbol s.CloseBracket q ∷ symbol s.Assign o ∷ vs) (y ∷ us))
        ∙ expr_reads d 1 (omega arith) (omega arith) (λ b. want (sign s.CloseBracket) λ _. want (sign s.Assign) λ _. read (Item.an_expr 1 b.1) λ z. read (Item.behind_entry z.1) λ r. k (entry.Keyed b.0 z.0 ∷ r.0, r.1)) (symbol s.CloseBracket q) (symbol s.Assign o ∷ (vs ++ y ∷ us)) (behind_end 1 _ _ (sure refl (λ a n p. refl) _))
        ∙ expr_reads r 1 (omega arith) (omega arith) (λ z. read (Item.behind_entry z.1) λ r. k (entry.Keyed a z.0 ∷ r.0, r.1)) (y) (us) (behind_end 1 _ _ (f _)) ∙ no_operations kind 1 (top r) _ _ _ (y) (us) (λ z. read (Item.behind_entry z.1) λ r. k (entry.Keyed a z.0 ∷ r.0, r.1)) (f _)
    entry_reads (SpellsEntry.named_entry x q d) k y us f g = expr_reads d 1 (omega arith) (omega arith) (λ z. read (Item.behind_entry z.1) λ r. k (entry.Named x z.0 ∷ r.0, r.1)) (y) (us) (behind_end 1 _ _ (f _)) ∙ no_operations kind 1 (top d) _ _ _ (y) (us) (λ z. read (Item.behind_entry z.1) λ r. k (entry.Named x z.0 ∷ r.0, r.1)) (f _)
    entry_reads (SpellsEntry.item {n = n} {ts = ts} d) k y us f g =
        entries_unfold kind n k ts y us (expr_first kind d) g ∙ expr_reads d 1 (omega arith) (omega arith) (λ z. read (Item.behind_entry z.1) λ r. k (entry.Item z.0 ∷ r.0, r.1)) (y) (us) (behind_end 1 _ _ (f _)) ∙ no_operations kind 1 (top d) _ _ _ (y) (us) (λ z. read (Item.behind_entry z.1) λ r. k (entry.Item z.0 ∷ r.0, r.1)) (f _)

    body_reads : {n m : ℕ} {b : Body} {ts : Words} → SpellsBody kind n m b ts → {A : Type 0} (k : Body × ℕ → Plan A) (us : Words) → run kind (read (Item.a_body n) k) (ts ++ us) ≡ run kind (k (b, m)) us
    body_reads (SpellsBody.function_body {n = n} {xs = xs} {r = r} {o = o} {ts = ts} {us = vs} {vs = ws} p q z d f g) k us =
        ap (run kind _) (append_assoc ts (symbol s.CloseParen q ∷ vs ++ (ws ++ (keyword w.End z ∷ []))) (us))
        ∙ parameters_read d (λ ps. read Item.outcome λ x. read (Item.a_block false n false) λ y. want (key w.End) λ _. k (body ps.0 ps.1 x (block y.0 y.1), y.2)) q ((vs ++ (ws ++ (keyword w.End z ∷ []))) ++ us)
        ∙ ap (run kind (read Item.outcome λ x. read (Item.a_block false n false) λ y. want (key w.End) λ _. k (body xs r x (block y.0 y.1), y.2))) (append_assoc vs (ws ++ (keyword w.End z ∷ [])) us ∙ ap (λ x. vs ++ x) (append_assoc ws (keyword w.End z ∷ []) us))
        ∙ outcome_before f (λ x. read (Item.a_block false n false) λ y. want (key w.End) λ _. k (body xs r x (block y.0 y.1), y.2)) (ws ++ keyword w.End z ∷ us) (block_first kind g (keyword w.End z) us end_ends)
        ∙ block_reads g false (λ y. want (key w.End) λ _. k (body xs r o (block y.0 y.1), y.2)) (keyword w.End z) us end_ends (λ h. cc)

    block_reads : {outer : Bool} {n m : ℕ} {ss : List Stat} {r : Option Return} {ts : Words} → SpellsBlock kind outer n m ss r ts → {A : Type 0} (b : Bool) (k : List Stat × Option Return × ℕ → Plan A) (z : Word) (us : Words) → EndsBlock z.kind → (b ≡ true → begins_open ts ≡ false)
        → run kind (read (Item.a_block outer n b) k) (ts ++ z ∷ us) ≡ run kind (k (ss, r, m)) (z ∷ us)
    block_reads (SpellsBlock.no_stats {outer = outer} {n = n}) b k z us f g = block_end kind outer n b k z us f
    block_reads (SpellsBlock.return_stat {outer = outer} {n = n} {m = m} {es = es} {ts = ts} p d SpellsSemicolon.no_semicolon) b k z us f g =
        ap (run kind (read (Item.return_values n) λ x. read Item.maybe_semicolon λ _. k ([], Some (returns p x.0), x.1))) (append_assoc ts [] (z ∷ us))
        ∙ values_reads d (λ x. read Item.maybe_semicolon λ _. k ([], Some (returns p x.0), x.1)) z us (λ i o. ends_no_exprs f i o) (λ c. ends_end c f) (follow_no_comma (ends_follows f))
        ∙ no_semicolon kind (λ _. k ([], Some (returns p es), m)) z us (ends_no_semicolon f)
    block_reads (SpellsBlock.return_stat {outer = outer} {n = n} {ts = ts} p d (SpellsSemicolon.semicolon_after o)) b k z us f g =
        ap (run kind (read (Item.return_values n) λ x. read Item.maybe_semicolon λ _. k ([], Some (returns p x.0), x.1))) (append_assoc ts (symbol s.Semicolon o ∷ []) (z ∷ us))
        ∙ values_reads d (λ x. read Item.maybe_semicolon λ _. k ([], Some (returns p x.0), x.1)) (symbol s.Semicolon o) (z ∷ us) (λ i o. refl) (sure refl (λ a n p. refl)) refl
    block_reads (SpellsBlock.next_stat {outer = outer} {n = n} {m = m} {c = c} {x = x} {ts = ts} {us = vs} d r j) b k z us f g =
        ap (run kind _) (append_assoc ts (vs) (z ∷ us))
        ∙ (let e = block_first kind r z us f in
        ap (λ q. run kind (read (Item.a_block outer n b) k) (ts ++ q)) e.2
        ∙ stat_reads d b k e.0 e.1 e.3 (λ h. subst (λ q. begins_open q ≡ false) e.2 (closed_before vs z us (j h) (ends_no_open f))) (λ h. closed_front ts vs (g h))
        ∙ sym (ap (run kind (next_of kind outer k (x, m, c))) e.2))
        ∙ block_reads r c (λ q. k (x ∷ q.0, q.1, q.2)) z us f j

    values_reads : {n m : ℕ} {es : List Expr} {ts : Words} → SpellsValues kind n m es ts → {A : Type 0} (k : List Expr × ℕ → Plan A) (y : Word) (us : Words) → ((i : ℕ) (o : Pos) → start_exprs i o y.kind ≡ None) → ((c : Bool) → ExprEnd c y.kind) → is_sign s.Comma y.kind ≡ false
        → run kind (read (Item.return_values n) k) (ts ++ y ∷ us) ≡ run kind (k (es, m)) (y ∷ us)
    values_reads (SpellsValues.no_values {n = n}) k y us f g h = no_values kind n k y us (f n y.pos)
    values_reads (SpellsValues.values {n = n} {ts = ts} d) k y us f g h = values_unfold kind n k ts (y ∷ us) (list_first kind d) ∙ list_reads d (λ x. k (x.0, x.1)) y us (g _) h

    stat_reads : {outer : Bool} {n m : ℕ} {c : Bool} {x : Stat} {ts : Words} → SpellsStat kind outer n m c x ts → {A : Type 0} (b : Bool) (k : List Stat × Option Return × ℕ → Plan A) (y : Word) (us : Words) → Follow y.kind → (c ≡ true → opens y.kind ≡ false) → (b ≡ true → begins_open ts ≡ false)
        → run kind (read (Item.a_block outer n b) k) (ts ++ y ∷ us) ≡ run kind (next_of kind outer k (x, m, c)) (y ∷ us)
    stat_reads (SpellsStat.empty {outer = outer} p) b k y us f g o =
        block_at kind outer _ b k (symbol s.Semicolon p) (y ∷ us) _ refl (and_false b _ (λ h. refl)) refl
    stat_reads (SpellsStat.assign {outer = outer} {n = n} {m = m} {x = x} {us = vs} q (SpellsTargets.last_target {ts = ts} d) l) b k y us f g o =
        ap (run kind _) (append_assoc ts (symbol s.Assign q ∷ vs) (y ∷ us))
        ∙ prefix_reads d (stat_loop outer k) (stat_head outer n b k) (symbol s.Assign q ∷ (vs ++ y ∷ us)) (λ h. refl) (λ h. allowed_open b _ o (open_append ts _ h))
        ∙ list_reads l (λ es. next_of kind outer k (stat.Assign (place x) (x ∷ []) es.0, es.1, es.2)) y us (follow_end f g) (follow_no_comma f)
    stat_reads (SpellsStat.assign {outer = outer} {n = n} {m = m} {x = x} {us = vs} q (SpellsTargets.more_targets {b = z} {bs = zs} {ts = ts} {us = ws} i d r) l) b k y us f g o =
        ap (run kind _) (append_assoc (ts ++ symbol s.Comma i ∷ ws) (symbol s.Assign q ∷ vs) (y ∷ us)) ∙ ap (run kind _) (append_assoc ts (symbol s.Comma i ∷ ws) (symbol s.Assign q ∷ (vs ++ y ∷ us)))
        ∙ prefix_reads d (stat_loop outer k) (stat_head outer n b k) (symbol s.Comma i ∷ (ws ++ symbol s.Assign q ∷ (vs ++ y ∷ us))) (λ h. refl) (λ h. allowed_open b _ o (open_append (ts ++ symbol s.Comma i ∷ ws) _ (open_append ts _ h)))
        ∙ targets_read r (λ v. next_of kind outer k (assigned (x, v.0 ∷ v.1, v.2, v.3, v.4))) q (vs ++ y ∷ us)
        ∙ list_reads l (λ es. next_of kind outer k (stat.Assign (place x) (x ∷ z ∷ zs) es.0, es.1, es.2)) y us (follow_end f g) (follow_no_comma f)
    stat_reads (SpellsStat.call_stat {outer = outer} {n = n} {m = m} {a = a} {ts = ts} d) b k y us f g o =
        prefix_reads d (stat_loop outer k) (stat_head outer n b k) (y ∷ us) (λ h. cc) (allowed_open b ts o) ∙ call_ends kind (next_of kind outer k) a m y us (follow_no_suffix f (g refl) a m y.pos)
    stat_reads (SpellsStat.break_stat {outer = outer} p) b k y us f g o =
        block_at kind outer _ b k (keyword w.Break p) (y ∷ us) _ refl (and_false b _ (λ h. refl)) refl
    stat_reads (SpellsStat.do_stat {outer = outer} {n = n} {ts = ts} p z d) b k y us f g o =
        block_at kind outer _ b k (keyword w.Do p) ((ts ++ keyword w.End z ∷ []) ++ y ∷ us) _ refl (and_false b _ (λ h. refl)) refl ∙ ap (run kind _) (append_assoc ts (keyword w.End z ∷ []) (y ∷ us))
        ∙ block_reads d false (λ c. want (key w.End) λ _. next_of kind outer k (stat.Do p (block c.0 c.1), c.2, false)) (keyword w.End z) (y ∷ us) end_ends (λ h. cc)
    stat_reads (SpellsStat.while_stat {outer = outer} {a = a} {ts = ts} {us = vs} p q z d r) b k y us f g o =
        block_at kind outer _ b k (keyword w.While p) ((ts ++ (keyword w.Do q ∷ vs ++ (keyword w.End z ∷ []))) ++ y ∷ us) _ refl (and_false b _ (λ h. refl)) refl ∙ ap (run kind _) (append_assoc ts (keyword w.Do q ∷ vs ++ (keyword w.End z ∷ [])) (y ∷ us))
        ∙ expr_reads d 1 (omega arith) (omega arith) (λ x. want (key w.Do) λ _. read (Item.a_block false x.1 false) λ c. want (key w.End) λ _. next_of kind outer k (stat.While p x.0 (block c.0 c.1), c.2, false)) (keyword w.Do q) ((vs ++ (keyword w.End z ∷ [])) ++ y ∷ us) (behind_end 1 _ _ (sure refl (λ a n p. refl) _))
        ∙ ap (run kind _) (append_assoc vs (keyword w.End z ∷ []) (y ∷ us))
        ∙ block_reads r false (λ c. want (key w.End) λ _. next_of kind outer k (stat.While p a (block c.0 c.1), c.2, false)) (keyword w.End z) (y ∷ us) end_ends (λ h. cc)
    stat_reads (SpellsStat.repeat_stat {outer = outer} {ss = ss} {end = end} {ts = ts} {us = vs} p q r d) b k y us f g o =
        block_at kind outer _ b k (keyword w.Repeat p) ((ts ++ keyword w.Until q ∷ vs) ++ y ∷ us) _ refl (and_false b _ (λ h. refl)) refl ∙ ap (run kind _) (append_assoc ts (keyword w.Until q ∷ vs) (y ∷ us))
        ∙ block_reads r false (λ c. want (key w.Until) λ _. read (Item.an_expr 1 c.2) λ x. next_of kind outer k (stat.Repeat p (block c.0 c.1) x.0, x.1, x.2)) (keyword w.Until q) (vs ++ y ∷ us) until_ends (λ h. cc)
        ∙ expr_reads d 1 (omega arith) (omega arith) (λ x. next_of kind outer k (stat.Repeat p (block ss end) x.0, x.1, x.2)) (y) (us) (behind_end 1 _ _ (follow_end f g)) ∙ no_operations kind 1 (top d) _ _ _ (y) (us) (λ x. next_of kind outer k (stat.Repeat p (block ss end) x.0, x.1, x.2)) (follow_end f g)
    stat_reads (SpellsStat.if_stat {outer = outer} {ts = ts} p d) b k y us f g o =
        block_at kind outer _ b k (keyword w.If p) (ts ++ y ∷ us) _ refl (and_false b _ (λ h. refl)) refl ∙ clauses_reads d (λ cs c m. next_of kind outer k (stat.If p cs c, m, false)) (y ∷ us)
    stat_reads (SpellsStat.numeric_for {outer = outer} {a = a} {b = z} {ts = ts} {us = vs} {ws = ws} p x q i j l d r SpellsStep.no_step n) b k y us f g o =
        block_at kind outer _ b k (keyword w.For p) (named x ∷ symbol s.Assign q ∷ ((ts ++ (symbol s.Comma i ∷ vs ++ ([] ++ (keyword w.Do j ∷ ws ++ (keyword w.End l ∷ []))))) ++ y ∷ us)) _ refl (and_false b _ (λ h. refl)) refl
        ∙ ap (run kind _) (append_assoc ts (symbol s.Comma i ∷ vs ++ ([] ++ (keyword w.Do j ∷ ws ++ (keyword w.End l ∷ [])))) (y ∷ us))
        ∙ expr_reads d 1 (omega arith) (omega arith) (λ a. want (sign s.Comma) λ _. read (Item.an_expr 1 a.1) λ z. read (Item.maybe_step z.1) λ i. want (key w.Do) λ _. read (Item.a_block false i.1 false) λ c. want (key w.End) λ _. next_of kind outer k (stat.NumericFor p x a.0 z.0 i.0 (block c.0 c.1), c.2, false)) (symbol s.Comma i) ((vs ++ ([] ++ (keyword w.Do j ∷ ws ++ (keyword w.End l ∷ [])))) ++ y ∷ us) (behind_end 1 _ _ (sure refl (λ a n p. refl) _))
        ∙ ap (run kind _) (append_assoc vs ([] ++ (keyword w.Do j ∷ ws ++ (keyword w.End l ∷ []))) (y ∷ us))
        ∙ expr_reads r 1 (omega arith) (omega arith) (λ z. read (Item.maybe_step z.1) λ i. want (key w.Do) λ _. read (Item.a_block false i.1 false) λ c. want (key w.End) λ _. next_of kind outer k (stat.NumericFor p x a z.0 i.0 (block c.0 c.1), c.2, false)) (keyword w.Do j) ((ws ++ (keyword w.End l ∷ [])) ++ y ∷ us) (behind_end 1 _ _ (sure refl (λ a n p. refl) _))
        ∙ ap (run kind _) (append_assoc ws (keyword w.End l ∷ []) (y ∷ us))
        ∙ block_reads n false (λ c. want (key w.End) λ _. next_of kind outer k (stat.NumericFor p x a z None (block c.0 c.1), c.2, false)) (keyword w.End l) (y ∷ us) end_ends (λ h. cc)
    stat_reads (SpellsStat.numeric_for {outer = outer} {a = a} {b = z} {ts = ts} {us = vs} {ws = ws} p x q i j l d r (SpellsStep.some_step {a = v} {ts = us'} t m) n) b k y us f g o =
        block_at kind outer _ b k (keyword w.For p) (named x ∷ symbol s.Assign q ∷ ((ts ++ (symbol s.Comma i ∷ vs ++ ((symbol s.Comma t ∷ us') ++ (keyword w.Do j ∷ ws ++ (keyword w.End l ∷ []))))) ++ y ∷ us)) _ refl (and_false b _ (λ h. refl)) refl
        ∙ ap (run kind _) (append_assoc ts (symbol s.Comma i ∷ vs ++ ((symbol s.Comma t ∷ us') ++ (keyword w.Do j ∷ ws ++ (keyword w.End l ∷ [])))) (y ∷ us))
        ∙ expr_reads d 1 (omega arith) (omega arith) (λ a. want (sign s.Comma) λ _. read (Item.an_expr 1 a.1) λ z. read (Item.maybe_step z.1) λ i. want (key w.Do) λ _. read (Item.a_block false i.1 false) λ c. want (key w.End) λ _. next_of kind outer k (stat.NumericFor p x a.0 z.0 i.0 (block c.0 c.1), c.2, false)) (symbol s.Comma i) ((vs ++ ((symbol s.Comma t ∷ us') ++ (keyword w.Do j ∷ ws ++ (keyword w.End l ∷ [])))) ++ y ∷ us) (behind_end 1 _ _ (sure refl (λ a n p. refl) _))
        ∙ ap (run kind _) (append_assoc vs ((symbol s.Comma t ∷ us') ++ (keyword w.Do j ∷ ws ++ (keyword w.End l ∷ []))) (y ∷ us))
        ∙ expr_reads r 1 (omega arith) (omega arith) (λ z. read (Item.maybe_step z.1) λ i. want (key w.Do) λ _. read (Item.a_block false i.1 false) λ c. want (key w.End) λ _. next_of kind outer k (stat.NumericFor p x a z.0 i.0 (block c.0 c.1), c.2, false)) (symbol s.Comma t) ((us' ++ (keyword w.Do j ∷ ws ++ (keyword w.End l ∷ []))) ++ y ∷ us) (behind_end 1 _ _ (sure refl (λ a n p. refl) _))
        ∙ ap (run kind _) (append_assoc us' (keyword w.Do j ∷ ws ++ (keyword w.End l ∷ [])) (y ∷ us))
        ∙ expr_reads m 1 (omega arith) (omega arith) (λ v. want (key w.Do) λ _. read (Item.a_block false v.1 false) λ c. want (key w.End) λ _. next_of kind outer k (stat.NumericFor p x a z (Some v.0) (block c.0 c.1), c.2, false)) (keyword w.Do j) ((ws ++ (keyword w.End l ∷ [])) ++ y ∷ us) (behind_end 1 _ _ (sure refl (λ a n p. refl) _))
        ∙ ap (run kind _) (append_assoc ws (keyword w.End l ∷ []) (y ∷ us))
        ∙ block_reads n false (λ c. want (key w.End) λ _. next_of kind outer k (stat.NumericFor p x a z (Some v) (block c.0 c.1), c.2, false)) (keyword w.End l) (y ∷ us) end_ends (λ h. cc)
    stat_reads (SpellsStat.generic_for {outer = outer} {es = es} {us = us'} {vs = vs} p q i z (SpellsNames.last_name x) l r) b k y us f g o =
        block_at kind outer _ b k (keyword w.For p) (named x ∷ keyword w.In q ∷ ((us' ++ (keyword w.Do i ∷ vs ++ (keyword w.End z ∷ []))) ++ y ∷ us)) _ refl (and_false b _ (λ h. refl)) refl
        ∙ ap (run kind _) (append_assoc us' (keyword w.Do i ∷ vs ++ (keyword w.End z ∷ [])) (y ∷ us))
        ∙ list_reads l (λ es. want (key w.Do) λ _. read (Item.a_block false es.1 false) λ c. want (key w.End) λ _. next_of kind outer k (stat.GenericFor p (x ∷ []) es.0 (block c.0 c.1), c.2, false)) (keyword w.Do i) ((vs ++ (keyword w.End z ∷ [])) ++ y ∷ us) (sure refl (λ a n p. refl) _) refl
        ∙ ap (run kind _) (append_assoc vs (keyword w.End z ∷ []) (y ∷ us))
        ∙ block_reads r false (λ c. want (key w.End) λ _. next_of kind outer k (stat.GenericFor p (x ∷ []) es (block c.0 c.1), c.2, false)) (keyword w.End z) (y ∷ us) end_ends (λ h. cc)
    stat_reads (SpellsStat.generic_for {outer = outer} {n = n} {es = es} {us = us'} {vs = vs} p q i z (SpellsNames.more_names {xs = xs} {ts = ts} x j d) l r) b k y us f g o =
        block_at kind outer _ b k (keyword w.For p) (named x ∷ symbol s.Comma j ∷ ((ts ++ (keyword w.In q ∷ us' ++ (keyword w.Do i ∷ vs ++ (keyword w.End z ∷ [])))) ++ y ∷ us)) _ refl (and_false b _ (λ h. refl)) refl
        ∙ ap (run kind _) (append_assoc ts (keyword w.In q ∷ us' ++ (keyword w.Do i ∷ vs ++ (keyword w.End z ∷ []))) (y ∷ us))
        ∙ names_read d (λ zs. want (key w.In) λ _. read (Item.exprs n) λ es. want (key w.Do) λ _. read (Item.a_block false es.1 false) λ c. want (key w.End) λ _. next_of kind outer k (stat.GenericFor p (x ∷ zs) es.0 (block c.0 c.1), c.2, false)) (keyword w.In q) ((us' ++ (keyword w.Do i ∷ vs ++ (keyword w.End z ∷ []))) ++ y ∷ us) refl
        ∙ ap (run kind _) (append_assoc us' (keyword w.Do i ∷ vs ++ (keyword w.End z ∷ [])) (y ∷ us))
        ∙ list_reads l (λ es. want (key w.Do) λ _. read (Item.a_block false es.1 false) λ c. want (key w.End) λ _. next_of kind outer k (stat.GenericFor p (x ∷ xs) es.0 (block c.0 c.1), c.2, false)) (keyword w.Do i) ((vs ++ (keyword w.End z ∷ [])) ++ y ∷ us) (sure refl (λ a n p. refl) _) refl
        ∙ ap (run kind _) (append_assoc vs (keyword w.End z ∷ []) (y ∷ us))
        ∙ block_reads r false (λ c. want (key w.End) λ _. next_of kind outer k (stat.GenericFor p (x ∷ xs) es (block c.0 c.1), c.2, false)) (keyword w.End z) (y ∷ us) end_ends (λ h. cc)
    stat_reads (SpellsStat.function_stat {outer = outer} {m = m} {a = a} {ts = ts} {us = vs} p d r) b k y us f g o =
        block_at kind outer _ b k (keyword w.Function p) ((ts ++ vs) ++ y ∷ us) _ refl (and_false b _ (λ h. refl)) refl ∙ ap (run kind _) (append_assoc ts (vs) (y ∷ us))
        ∙ path_reads d p (λ x. next_of kind outer k (x.0, x.1, false)) (vs ++ y ∷ us) ∙ body_opens r p a (λ x. next_of kind outer k (x.0, x.1, false)) (y ∷ us)
        ∙ body_reads r (λ x. next_of kind outer k (stat.Function p a (e.Function p x.0), x.1, false)) (y ∷ us)
    stat_reads (SpellsStat.method_stat {outer = outer} {m = m} {a = a} {ts = ts} {us = vs} p q x d r) b k y us f g o =
        block_at kind outer _ b k (keyword w.Function p) ((ts ++ symbol s.Colon q ∷ named x ∷ vs) ++ y ∷ us) _ refl (and_false b _ (λ h. refl)) refl ∙ ap (run kind _) (append_assoc ts (symbol s.Colon q ∷ named x ∷ vs) (y ∷ us))
        ∙ path_reads d p (λ z. next_of kind outer k (z.0, z.1, false)) (symbol s.Colon q ∷ named x ∷ (vs ++ y ∷ us))
        ∙ body_reads r (λ z. next_of kind outer k (stat.Method p a x (e.Function p z.0), z.1, false)) (y ∷ us)
    stat_reads (SpellsStat.local_function {outer = outer} {ts = ts} p q x r) b k y us f g o =
        block_at kind outer _ b k (keyword w.Local p) (keyword w.Function q ∷ named x ∷ (ts ++ y ∷ us)) _ refl (and_false b _ (λ h. refl)) refl ∙ body_reads r (λ z. next_of kind outer k (stat.LocalFunction p x (e.Function p z.0), z.1, false)) (y ∷ us)
    stat_reads (SpellsStat.local_stat {outer = outer} {n = n} {xs = xs} {ts = ts} p d SpellsInit.no_init) b k y us f g o =
        block_at kind outer _ b k (keyword w.Local p) ((ts ++ []) ++ y ∷ us) _ refl (and_false b _ (λ h. refl)) refl ∙ ap (run kind _) (append_assoc ts ([]) (y ∷ us))
        ∙ typeds_read d (read (Item.rest_of_local p n) (next_of kind outer k)) (λ zs. read (Item.maybe_init n) λ i. next_of kind outer k (stat.Local p zs i.0, i.1, i.2)) (λ z ws. refl) y us (follow_no_type f) (follow_no_colon f) (follow_no_comma f) ∙ no_init_at kind n y us (λ i. next_of kind outer k (stat.Local p xs i.0, i.1, i.2)) (follow_no_assign f)
    stat_reads (SpellsStat.local_stat {outer = outer} {n = n} {xs = xs} {ts = ts} p d (SpellsInit.some_init {ts = vs} q l)) b k y us f g o =
        block_at kind outer _ b k (keyword w.Local p) ((ts ++ symbol s.Assign q ∷ vs) ++ y ∷ us) _ refl (and_false b _ (λ h. refl)) refl ∙ ap (run kind _) (append_assoc ts (symbol s.Assign q ∷ vs) (y ∷ us))
        ∙ typeds_read d (read (Item.rest_of_local p n) (next_of kind outer k)) (λ zs. read (Item.maybe_init n) λ i. next_of kind outer k (stat.Local p zs i.0, i.1, i.2)) (λ z ws. refl) (symbol s.Assign q) (vs ++ y ∷ us) (record { no_bar = refl; no_mark = refl; no_dot = refl; no_arrow = refl }) refl refl ∙ list_reads l (λ i. next_of kind outer k (stat.Local p xs i.0, i.1, i.2)) y us (follow_end f g) (follow_no_comma f)
    stat_reads (SpellsStat.interface_stat {n = n} {ts = ts} p x z h d) b k y us f g o =
        block_at kind true n b k (named (name_at p (codes "interface"))) (named x ∷ ((ts ++ keyword w.End z ∷ []) ++ y ∷ us)) _ refl (and_false b _ (λ i. refl)) refl
        ∙ interface_at kind p x n (next_of kind true k) ((ts ++ keyword w.End z ∷ []) ++ y ∷ us) h ∙ ap (run kind _) (append_assoc ts (keyword w.End z ∷ []) (y ∷ us))
        ∙ interface_reads kind d (λ fs. next_of kind true k (stat.Interface p x fs, n, true)) z (y ∷ us)
    stat_reads (SpellsStat.alias_stat {n = n} {ts = ts} p x q h d) b k y us f g o =
        block_at kind true n b k (named (name_at p (codes "typealias"))) (named x ∷ symbol s.Assign q ∷ (ts ++ y ∷ us)) _ refl (and_false b _ (λ i. refl)) refl
        ∙ alias_at kind p x n (next_of kind true k) (symbol s.Assign q ∷ (ts ++ y ∷ us)) h
        ∙ type_reads kind d (λ a. next_of kind true k (stat.Alias p x a, n, true)) y us (follow_no_type f)

    targets_read : {n m : ℕ} {x : Expr} {xs : List Expr} {ts : Words} → SpellsTargets kind n m x xs ts → {A : Type 0} (k : Expr × List Expr × List Expr × ℕ × Bool → Plan A) (q : Pos) (us : Words)
        → run kind (read (Item.next_target n) k) (ts ++ symbol s.Assign q ∷ us) ≡ run kind (read (Item.exprs m) λ es. k (x, xs, es.0, es.1, es.2)) us
    targets_read (SpellsTargets.last_target {n = n} d) k q us = prefix_reads d (targets_loop k) (targets_head n k) (symbol s.Assign q ∷ us) (λ h. refl) (λ h. refl)
    targets_read (SpellsTargets.more_targets {n = n} {a = a} {ts = ts} {us = vs} o d r) k q us =
        ap (run kind _) (append_assoc ts (symbol s.Comma o ∷ vs) (symbol s.Assign q ∷ us)) ∙ prefix_reads d (targets_loop k) (targets_head n k) (symbol s.Comma o ∷ (vs ++ symbol s.Assign q ∷ us)) (λ h. refl) (λ h. refl)
        ∙ targets_read r (λ v. k (a, v.0 ∷ v.1, v.2, v.3, v.4)) q us

    clauses_reads : {n m : ℕ} {cs : List Clause} {d : Option Block} {ts : Words} → SpellsClauses kind n m cs d ts → {A : Type 0} (k : List Clause → Option Block → ℕ → Plan A) (us : Words)
        → run kind (read (Item.an_expr 1 n) λ a. want (key w.Then) λ _. read (Item.a_block false a.1 false) λ c. read (Item.more_clauses c.2) λ r. k (clause a.0 (block c.0 c.1) ∷ r.0) r.1 r.2) (ts ++ us) ≡ run kind (k cs d m) us
    clauses_reads (SpellsClauses.next_clause {m = m} {k = j} {a = a} {ss = ss} {end = end} {ts = ts} {us = vs} {vs = ws} q d b r) k us =
        ap (run kind _) (append_assoc ts (keyword w.Then q ∷ vs ++ ws) (us))
        ∙ expr_reads d 1 (omega arith) (omega arith) (λ a. want (key w.Then) λ _. read (Item.a_block false a.1 false) λ c. read (Item.more_clauses c.2) λ r. k (clause a.0 (block c.0 c.1) ∷ r.0) r.1 r.2) (keyword w.Then q) ((vs ++ ws) ++ us) (behind_end 1 _ _ (sure refl (λ a n p. refl) _))
        ∙ ap (run kind _) (append_assoc vs (ws) (us))
        ∙ (let e = else_first kind r in
        ap (λ z. run kind (read (Item.a_block false m false) λ c. read (Item.more_clauses c.2) λ r. k (clause a (block c.0 c.1) ∷ r.0) r.1 r.2) (vs ++ (z ++ us))) e.2
        ∙ block_reads b false (λ c. read (Item.more_clauses c.2) λ r. k (clause a (block c.0 c.1) ∷ r.0) r.1 r.2) e.0 (e.1 ++ us) e.3 (λ h. cc)
        ∙ sym (ap (λ z. run kind (read (Item.more_clauses j) λ r. k (clause a (block ss end) ∷ r.0) r.1 r.2) (z ++ us)) e.2))
        ∙ else_reads r (λ r. k (clause a (block ss end) ∷ r.0) r.1 r.2) us

    else_reads : {n m : ℕ} {cs : List Clause} {d : Option Block} {ts : Words} → SpellsElse kind n m cs d ts → {A : Type 0} (k : List Clause × Option Block × ℕ → Plan A) (us : Words) → run kind (read (Item.more_clauses n) k) (ts ++ us) ≡ run kind (k (cs, d, m)) us
    else_reads (SpellsElse.no_else z) k us = refl
    else_reads (SpellsElse.else_block {ts = ts} q z b) k us = ap (run kind _) (append_assoc ts (keyword w.End z ∷ []) (us)) ∙ block_reads b false (λ c. want (key w.End) λ _. k ([], Some (block c.0 c.1), c.2)) (keyword w.End z) us end_ends (λ h. cc)
    else_reads (SpellsElse.else_if q d) k us = clauses_reads d (λ cs c m. k (cs, c, m)) us

  pub chunk_reads : {b : Block} {ts : Words} → SpellsChunk kind b ts → run kind module_plan ts ≡ Ok b
  chunk_reads (SpellsChunk.chunk z d) = block_reads d false (λ c. want finish λ _. done (block c.0 c.1)) (end_of_file z) [] finish_ends (λ h. cc)
