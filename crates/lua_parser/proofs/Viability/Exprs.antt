-- Each step in an expression keeps what the part stands for.
use Rattle.std.proofs.Common.{◌≡◌, ℕ, ◌+◌, ◌≤◌, Bool, true, false, List, [], ◌∷◌, ◌++◌, Option, Some, None, refl, sym, subst, append_assoc, append-nil, arith}
use Rattle.std.specs.Prelude.{if◌then◌else◌, nat_le}
use Rattle.std.proofs.lemmas.Bool.Decides.{nat_tests}
use Rattle.tl_base.specs.declared.place.Pos.{Pos}
use Rattle.tl_base.specs.declared.place.ModuleKind.{ModuleKind}
use Rattle.lua_tree.specs.declared.annotation.Name.{Name}
use Rattle.lua_tree.specs.declared.syntax.UnaryOperator.{UnaryOperator}
use Rattle.lua_tree.specs.declared.syntax.BinaryOperator.{BinaryOperator}
use Rattle.lua_tree.specs.declared.syntax.Expr.{Expr}
use Rattle.lua_tree.specs.declared.syntax.Expr.TheVariants as e
use Rattle.lua_tree.specs.declared.syntax.Entry.{Entry}
use Rattle.lua_tree.specs.declared.syntax.Entry.TheVariants as entry
use Rattle.lua_tree.specs.declared.annotation.Typed.{Typed}
use Rattle.lua_tree.specs.declared.annotation.TypeResults.{TypeResults}
use Rattle.lua_tree.specs.declared.syntax.Rest.{Rest}
use Rattle.lua_tree.specs.declared.syntax.Stat.{Stat}
use Rattle.lua_tree.specs.declared.syntax.Return.{Return}
use Rattle.lua_lexer.specs.declared.token.Keyword.TheVariants as w
use Rattle.lua_lexer.specs.declared.token.Symbol.TheVariants as s
use Rattle.lua_parser.specs.Words.{Words, WordKind, key, sign, keyword, symbol, marked, named, name_at}
use Rattle.lua_parser.specs.Grammar.Levels.{binary_mark, level, unary_level, left_level, right_level}
use Rattle.lua_parser.specs.Grammar.Syntax.{Form, Target, place, Spells, SpellsPrefix, SpellsArguments, SpellsList, SpellsEntries, SpellsEntry, SpellsEntrySeparator, SpellsBody, SpellsTyped, SpellsParams, SpellsParameters, SpellsOutcome, SpellsBlock, body, block, typed}
use Rattle.lua_parser.specs.Machine.Plan.{Item, done, read, stuck, ends, takes}
use Rattle.lua_parser.specs.Machine.Steps.{is_sign, if_unary, if_binary, unary_at, binary_at, unary_plan, operand, start_expr, start_exprs, operations_step, suffix, suffix_step, named_entry_step, exprs_step}
use Rattle.lua_parser.proofs.Marks.{unary_is, binary_is, right_fits}
use Rattle.lua_parser.proofs.Viability.Means.{Means, Ensures, ClosedParams, closed_nothing, closed_params}
use Rattle.lua_parser.proofs.Viability.Plans.{Begins, Meets, word_is, begins_none, begins_some, meets_stuck, meets_ends, meets_takes, begins_if, begins_name, begins_number, begins_text, begins_going, meets_if, meets_name, meets_text, meets_begun, meets_or_ends, meets_both, meets_either}
use Rattle.lua_parser.proofs.Viability.Types.{at, both_true, meets_type}

abbrev pub one_fits : 1 ≤ unary_level
one_fits = omega arith

module _ (kind : ModuleKind) where
  -- what is spelled at a level is spelled at each lower one
  pub weaken : {l h n m : ℕ} {c : Bool} {a : Expr} {ts : Words} → l ≤ h → Spells kind h n m c a ts → Spells kind l n m c a ts
  weaken f (Spells.nil p) = Spells.nil p
  weaken f (Spells.false_word p) = Spells.false_word p
  weaken f (Spells.true_word p) = Spells.true_word p
  weaken f (Spells.integer p i) = Spells.integer p i
  weaken f (Spells.string p x) = Spells.string p x
  weaken f (Spells.vararg p) = Spells.vararg p
  weaken f (Spells.function p x) = Spells.function p x
  weaken f (Spells.prefix x) = Spells.prefix x
  weaken f (Spells.table p x) = Spells.table p x
  weaken f (Spells.unary p o x) = Spells.unary p o x
  weaken f (Spells.binary q o g x y) = Spells.binary q o (omega (arith, f, g)) x y

  abbrev Operand : ℕ → Expr × ℕ × Bool → Words → Type 0
  Operand n v ts = (l : ℕ) → Spells kind l n v.1 v.2 v.0 ts

  begins_unary : (n : ℕ) (p : Pos) (k : WordKind) → Begins kind (Operand n) (at p k) (if_unary (unary_at k) (λ o. Some (unary_plan n p o)) None)
  begins_unary n p k = go (unary_at k) refl
    where
      go : (r : Option UnaryOperator) → unary_at k ≡ r → Begins kind (Operand n) (at p k) (if_unary r (λ o. Some (unary_plan n p o)) None)
      go None e = begins_none kind _ _
      go (Some o) e = begins_some kind (Operand n) _ _ (λ a ts x l. rw (append-nil, unary_is k o e) (Spells.unary p o (x (omega arith))))

  pub operand_begins : (n : ℕ) (p : Pos) (k : WordKind) → Begins kind (Operand n) (at p k) (operand n p k)
  operand_begins n p k =
      begins_if kind (Operand n) (key w.Nil) p k _ _ (λ l. Spells.nil p)
      (begins_if kind (Operand n) (key w.False) p k _ _ (λ l. Spells.false_word p)
      (begins_if kind (Operand n) (key w.True) p k _ _ (λ l. Spells.true_word p)
      (begins_if kind (Operand n) (sign s.Dots) p k _ _ (λ l. Spells.vararg p)
      (begins_if kind (Operand n) (key w.Function) p k _ _ (λ b ts x l. rw append-nil (Spells.function p x))
      (begins_if kind (Operand n) (sign s.OpenParen) p k _ _ (λ a ts x q v us m l. rw append-nil (Spells.prefix (subst (SpellsPrefix kind v.0 n v.2 v.1) (append_assoc (symbol s.OpenParen p ∷ ts) (symbol s.CloseParen q ∷ []) us) (m n (symbol s.OpenParen p ∷ ts ++ symbol s.CloseParen q ∷ []) (SpellsPrefix.paren p q (x one_fits))))))
      (begins_if kind (Operand n) (sign s.OpenBrace) p k _ _ (λ es ts x l. rw append-nil (Spells.table p x))
      (begins_number kind (Operand n) p k _ _ (λ i. begins_some kind (Operand n) _ _ (λ l. Spells.integer p i))
      (begins_text kind (Operand n) p k _ _ (λ x. begins_some kind (Operand n) _ _ (λ l. Spells.string p x))
      (begins_name kind (Operand n) p k _ _ (λ x. begins_some kind (Operand n) _ _ (λ v ts m l. rw append-nil (Spells.prefix (m n (named (name_at p x) ∷ []) (SpellsPrefix.name n (name_at p x))))))
      (begins_unary n p k))))))))))

  pub expr_begins : (l n : ℕ) (p : Pos) (k : WordKind) → Begins kind (Means kind (Item.an_expr l n)) (at p k) (start_expr l n p k)
  expr_begins l n p k =
      begins_going kind (Means kind (Item.an_expr l n)) (Operand n) (at p k) _ _ (operand_begins n p k) (λ a ts x v us m f. rw append-nil (m f n ts (x unary_level)))

  pub exprs_begins : (n : ℕ) (p : Pos) (k : WordKind) → Begins kind (Means kind (Item.exprs n)) (at p k) (start_exprs n p k)
  exprs_begins n p k =
      begins_going kind (Means kind (Item.exprs n)) (Means kind (Item.an_expr 1 n)) (at p k) _ _ (expr_begins 1 n p k) (λ a ts x r us m. rw append-nil (m a.0 n ts (x one_fits)))

  pub meets_operations : (l h : ℕ) (a : Expr) (n : ℕ) (c : Bool) (p : Pos) (k : WordKind) → Meets kind (Means kind (Item.operations l h a n c)) (at p k) (operations_step l h a n c k)
  meets_operations l h a n c p k = go (binary_at k) refl
    where
      over : Meets kind (Means kind (Item.operations l h a n c)) (at p k) (ends (a, n, c))
      over = meets_ends kind (Means kind (Item.operations l h a n c)) _ _ (λ f m us x. rw append-nil (weaken f x))

      further : (o : BinaryOperator) → binary_at k ≡ Some o → nat_le l (level o) ≡ true → nat_le (left_level o) h ≡ true
          → Ensures kind (read (Item.an_expr (right_level o) n) λ b. read (Item.operations l (level o) (e.Binary (place a) o a b.0) b.1 b.2) done) (λ v ts. Means kind (Item.operations l h a n c) v (at p k ∷ ts))
      further o d f g b us x v ts m i j vs y =
          rw (append-nil, binary_is k o d)
          (subst (Spells kind l j v.1 v.2 v.0) (append_assoc vs (marked (binary_mark o) p ∷ us) ts)
          (m (grind (arith, nat_tests)) j (vs ++ marked (binary_mark o) p ∷ us) (Spells.binary p o (omega arith) (weaken (grind (arith, nat_tests)) y) (x (right_fits o)))))

      go : (r : Option BinaryOperator) → binary_at k ≡ r → Meets kind (Means kind (Item.operations l h a n c)) (at p k)
          (if_binary r (λ o. if nat_le l (level o) then (if nat_le (left_level o) h then takes (read (Item.an_expr (right_level o) n) λ b. read (Item.operations l (level o) (e.Binary (place a) o a b.0) b.1 b.2) done) else stuck) else ends (a, n, c)) (ends (a, n, c)))
      go None d = over
      go (Some o) d =
          meets_either kind (Means kind (Item.operations l h a n c)) _ _ _ _
          (λ f. meets_either kind (Means kind (Item.operations l h a n c)) _ _ _ _ (λ g. meets_takes kind (Means kind (Item.operations l h a n c)) _ _ (further o d f g)) (λ g. meets_stuck kind _ _))
          (λ f. over)

  -- what one more part makes of a prefix
  abbrev pub Suffixed : Expr → ℕ → Form × Expr × ℕ → Words → Type 0
  Suffixed a n v ts = (f : Form) (m : ℕ) (us : Words) → SpellsPrefix kind f m n a us → SpellsPrefix kind v.0 m v.2 v.1 (us ++ ts)

  pub suffix_begins : (a : Expr) (n : ℕ) (p : Pos) (k : WordKind) → Begins kind (Suffixed a n) (at p k) (suffix a n p k)
  suffix_begins a n p k =
      begins_if kind (Suffixed a n) (sign s.Dot) p k _ _ (λ x f m us y. SpellsPrefix.field p x y)
      (begins_if kind (Suffixed a n) (sign s.OpenBracket) p k _ _ (λ b ts x q f m us y. SpellsPrefix.index p q y (x one_fits))
      (begins_if kind (Suffixed a n) (sign s.Colon) p k _ _ (λ x es ts y f m us z. rw append-nil (SpellsPrefix.method p x z y))
      (begins_if kind (Suffixed a n) (sign s.OpenParen) p k _ _ (λ es ts x f m us y. rw append-nil (SpellsPrefix.call y (x p)))
      (begins_if kind (Suffixed a n) (sign s.OpenBrace) p k _ _ (λ es ts x f m us y. rw append-nil (SpellsPrefix.call y (SpellsArguments.table_argument p x)))
      (begins_text kind (Suffixed a n) p k _ _ (λ x. begins_some kind (Suffixed a n) _ _ (λ f m us y. SpellsPrefix.call y (SpellsArguments.string_argument p x))) (begins_none kind _ _))))))

  pub meets_suffixes : (f : Form) (a : Expr) (n : ℕ) (p : Pos) (k : WordKind) → Meets kind (Means kind (Item.suffixes f a n)) (at p k) (suffix_step f a n p k)
  meets_suffixes f a n p k =
      meets_or_ends kind (Means kind (Item.suffixes f a n)) _ _ _ (begins_going kind (Means kind (Item.suffixes f a n)) (Suffixed a n) (at p k) _ _ (suffix_begins a n p k)
      (λ v ts x u us y m vs z. rw append-nil (subst (SpellsPrefix kind u.0 m u.2 u.1) (append_assoc vs ts us) (y m (vs ++ ts) (x f m vs z)))))
      (λ m us x. rw append-nil x)

  pub meets_arguments : (n : ℕ) (p : Pos) (k : WordKind) → Meets kind (Means kind (Item.some_arguments n)) (at p k) (exprs_step kind (Item.some_arguments n) p k)
  meets_arguments n p k =
      meets_if kind (Means kind (Item.some_arguments n)) (sign s.OpenParen) p k _ _ (λ es ts x. rw append-nil (x p))
      (meets_if kind (Means kind (Item.some_arguments n)) (sign s.OpenBrace) p k _ _ (λ es ts x. rw append-nil (SpellsArguments.table_argument p x))
      (meets_text kind (Means kind (Item.some_arguments n)) p k _ _ (λ x. meets_takes kind (Means kind (Item.some_arguments n)) _ _ (SpellsArguments.string_argument p x)) (meets_stuck kind _ _)))

  pub meets_rest_of_arguments : (n : ℕ) (p : Pos) (k : WordKind) → Meets kind (Means kind (Item.rest_of_arguments n)) (at p k) (exprs_step kind (Item.rest_of_arguments n) p k)
  meets_rest_of_arguments n p k =
      meets_if kind (Means kind (Item.rest_of_arguments n)) (sign s.CloseParen) p k _ _ (λ o. SpellsArguments.no_arguments o p)
      (meets_begun kind (Means kind (Item.rest_of_arguments n)) _ _ (begins_going kind (Means kind (Item.rest_of_arguments n)) (Means kind (Item.exprs n)) (at p k) _ _ (exprs_begins n p k) (λ es ts x q o. SpellsArguments.arguments o q x)))

  pub meets_more_exprs : (n : ℕ) (c : Bool) (p : Pos) (k : WordKind) → Meets kind (Means kind (Item.more_exprs n c)) (at p k) (exprs_step kind (Item.more_exprs n c) p k)
  meets_more_exprs n c p k =
      meets_if kind (Means kind (Item.more_exprs n c)) (sign s.Comma) p k _ _ (λ b us x r ts y a m vs z. rw append-nil (SpellsList.more p z (y b.0 n us (x one_fits))))
      (meets_ends kind (Means kind (Item.more_exprs n c)) _ _ (λ a m us x. rw append-nil (SpellsList.last x)))

  pub meets_entries : (n : ℕ) (p : Pos) (k : WordKind) → Meets kind (Means kind (Item.entries n)) (at p k) (exprs_step kind (Item.entries n) p k)
  meets_entries n p k =
      meets_if kind (Means kind (Item.entries n)) (sign s.CloseBrace) p k _ _ (SpellsEntries.no_entry p)
      (meets_if kind (Means kind (Item.entries n)) (sign s.OpenBracket) p k _ _ (λ a us x q o b vs y r ts z. rw append-nil (keyed_joined a.0 b.0 a.1 b.1 r us vs ts q o (x one_fits) (y one_fits) z))
      (meets_name kind (Means kind (Item.entries n)) p k _ _ (λ x. meets_takes kind (Means kind (Item.entries n)) _ _ (λ d us y r ts z. rw append-nil (z d.0 n _ y)))
      (meets_begun kind (Means kind (Item.entries n)) _ _ (begins_going kind (Means kind (Item.entries n)) (Means kind (Item.an_expr 1 n)) (at p k) _ _ (expr_begins 1 n p k) (λ a us x r ts z. rw append-nil (z (entry.Item a.0) n us (SpellsEntry.item (x one_fits))))))))
    where
      keyed_joined : (a b : Expr) (m i : ℕ) (r : List Entry × ℕ) (us vs ts : Words) (q o : Pos) {c d : Bool} → Spells kind 1 n m c a us → Spells kind 1 m i d b vs → Means kind (Item.behind_entry i) r ts
          → SpellsEntries kind n r.1 (entry.Keyed a b ∷ r.0) (symbol s.OpenBracket p ∷ us ++ (symbol s.CloseBracket q ∷ symbol s.Assign o ∷ vs ++ ts))
      keyed_joined a b m i r us vs ts q o x y z =
          subst (SpellsEntries kind n r.1 (entry.Keyed a b ∷ r.0)) (append_assoc (symbol s.OpenBracket p ∷ us) (symbol s.CloseBracket q ∷ symbol s.Assign o ∷ vs) ts)
          (z (entry.Keyed a b) n (symbol s.OpenBracket p ∷ us ++ symbol s.CloseBracket q ∷ symbol s.Assign o ∷ vs) (SpellsEntry.keyed p q o x y))

  pub meets_behind_entry : (n : ℕ) (p : Pos) (k : WordKind) → Meets kind (Means kind (Item.behind_entry n)) (at p k) (exprs_step kind (Item.behind_entry n) p k)
  meets_behind_entry n p k =
      meets_if kind (Means kind (Item.behind_entry n)) (sign s.CloseBrace) p k _ _ (λ x m us y. SpellsEntries.last_entry p y)
      (meets_if kind (Means kind (Item.behind_entry n)) (sign s.Comma) p k _ _ (λ es ts z x m us y. rw append-nil (SpellsEntries.more_entries y (SpellsEntrySeparator.comma_between p) z))
      (meets_if kind (Means kind (Item.behind_entry n)) (sign s.Semicolon) p k _ _ (λ es ts z x m us y. rw append-nil (SpellsEntries.more_entries y (SpellsEntrySeparator.semicolon_between p) z)) (meets_stuck kind _ _)))

  pub meets_named_entry : (x : Name) (n : ℕ) (p : Pos) (k : WordKind) → Meets kind (Means kind (Item.named_or_item x n)) (at p k) (named_entry_step x n p k)
  meets_named_entry x n p k =
      meets_if kind (Means kind (Item.named_or_item x n)) (sign s.Assign) p k _ _ (λ a ts y. rw append-nil (SpellsEntry.named_entry x p (y one_fits)))
      (meets_both kind (Means kind (Item.named_or_item x n)) (Means kind (Item.suffixes Target (e.Name x.pos n x.text) (n + 1))) (at p k) _ _ _ (meets_suffixes Target (e.Name x.pos n x.text) (n + 1) p k)
      (λ a y. meets_both kind (Means kind (Item.named_or_item x n)) (Means kind (Item.operations 1 unary_level a.1 a.2 true)) (at p k) _ _ _ (meets_operations 1 unary_level a.1 a.2 true p k)
      (λ c z. meets_ends kind (Means kind (Item.named_or_item x n)) _ _ (item_joined a c [] [] y z))
      (λ c ts z. rw append-nil (item_joined a c [] ts y z)))
      (λ a us y c ts z. rw append-nil (item_joined a c us ts y z)))
    where
      item_joined : (a : Form × Expr × ℕ) (c : Expr × ℕ × Bool) (us ts : Words) → Means kind (Item.suffixes Target (e.Name x.pos n x.text) (n + 1)) a us → Means kind (Item.operations 1 unary_level a.1 a.2 true) c ts
          → SpellsEntry kind n c.1 (entry.Item c.0) (named x ∷ us ++ ts)
      item_joined a c us ts y z = SpellsEntry.item (z one_fits n (named x ∷ us) (Spells.prefix (y n (named x ∷ []) (SpellsPrefix.name n x))))

  -- a body from behind its `(`
  pub body_joined : (n : ℕ) (p : Pos) (xs : List Typed) (r : Option Rest) (o : Option TypeResults) (d : List Stat × Option Return × ℕ) (ts us vs : Words) (z : Pos) → ClosedParams kind true xs r ts → SpellsOutcome kind o us
      → SpellsBlock kind false n d.2 d.0 d.1 vs → SpellsBody kind n d.2 (body xs r o (block d.0 d.1)) (symbol s.OpenParen p ∷ ts ++ (us ++ (vs ++ keyword w.End z ∷ [])))
  body_joined n p xs r o d ts us vs z (closed_nothing q) y b = SpellsBody.function_body p q z SpellsParameters.no_params y b
  body_joined n p xs r o d ts us vs z (closed_params {ts = ws} q x) y b =
      subst (λ i. SpellsBody kind n d.2 (body xs r o (block d.0 d.1)) (symbol s.OpenParen p ∷ i)) (sym (append_assoc ws (symbol s.CloseParen q ∷ []) (us ++ (vs ++ keyword w.End z ∷ []))))
      (SpellsBody.function_body p q z (SpellsParameters.some_params x) y b)

  pub meets_body : (n : ℕ) (p : Pos) (k : WordKind) → Meets kind (Means kind (Item.a_body n)) (at p k) (exprs_step kind (Item.a_body n) p k)
  meets_body n p k =
      meets_if kind (Means kind (Item.a_body n)) (sign s.OpenParen) p k _ _ (λ ps ts x o us y d vs b z. body_joined n p ps.0 ps.1 o d ts us vs z x y b.0) (meets_stuck kind _ _)

  params_joined : (x : Typed) (may_end : Bool) {c : Bool} {xs : List Typed} {r : Option Rest} (us : Words) {ts : Words} (q : Pos) → SpellsTyped kind x us → c ≡ false → ClosedParams kind c xs r ts
      → ClosedParams kind may_end (x ∷ xs) r (us ++ symbol s.Comma q ∷ ts)
  params_joined x may_end us q y d (closed_nothing o) = cc
  params_joined x may_end {xs = xs} {r = r} us q y d (closed_params {ts = vs} o z) = subst (ClosedParams kind may_end (x ∷ xs) r) (append_assoc us (symbol s.Comma q ∷ vs) (symbol s.CloseParen o ∷ [])) (closed_params o (SpellsParams.more_params q y z))

  pub meets_params : (may_end : Bool) (p : Pos) (k : WordKind) → Meets kind (Means kind (Item.params may_end)) (at p k) (exprs_step kind (Item.params may_end) p k)
  meets_params may_end p k =
      meets_either kind (Means kind (Item.params may_end)) _ _ _ _
      (λ h. let b = both_true kind may_end (is_sign s.CloseParen k) h in meets_takes kind (Means kind (Item.params may_end)) _ _ (rw (word_is (sign s.CloseParen) k p b.1, b.0) (closed_nothing p)))
      (λ h. meets_if kind (Means kind (Item.params may_end)) (sign s.Dots) p k _ _ (λ a ts x q. closed_params q (SpellsParams.rest_param p x))
      (meets_name kind (Means kind (Item.params may_end)) p k _ _ (λ x. meets_takes kind (Means kind (Item.params may_end)) _ _ (λ a us y r ts z. rw append-nil (z (typed (name_at p x) a) (named (name_at p x) ∷ us) may_end (SpellsTyped.declared (name_at p x) y))))
      (meets_stuck kind _ _)))

  pub meets_more_params : (p : Pos) (k : WordKind) → Meets kind (Means kind Item.more_params) (at p k) (exprs_step kind Item.more_params p k)
  meets_more_params p k =
      meets_if kind (Means kind Item.more_params) (sign s.CloseParen) p k _ _ (λ x us may_end y. closed_params p (SpellsParams.last_param y))
      (meets_if kind (Means kind Item.more_params) (sign s.Comma) p k _ _ (λ r ts z x us may_end y. rw append-nil (params_joined x may_end us p y refl z)) (meets_stuck kind _ _))

  pub meets_expr : (j : Item) (p : Pos) (k : WordKind) → Meets kind (Means kind j) (at p k) (exprs_step kind j p k)
  meets_expr (Item.an_expr l n) p k = meets_begun kind (Means kind (Item.an_expr l n)) _ _ (expr_begins l n p k)
  meets_expr (Item.operations l h a n c) p k = meets_operations l h a n c p k
  meets_expr (Item.suffixes f a n) p k = meets_suffixes f a n p k
  meets_expr (Item.some_arguments n) p k = meets_arguments n p k
  meets_expr (Item.rest_of_arguments n) p k = meets_rest_of_arguments n p k
  meets_expr (Item.exprs n) p k = meets_begun kind (Means kind (Item.exprs n)) _ _ (exprs_begins n p k)
  meets_expr (Item.more_exprs n c) p k = meets_more_exprs n c p k
  meets_expr (Item.entries n) p k = meets_entries n p k
  meets_expr (Item.behind_entry n) p k = meets_behind_entry n p k
  meets_expr (Item.named_or_item x n) p k = meets_named_entry x n p k
  meets_expr (Item.a_body n) p k = meets_body n p k
  meets_expr (Item.params may_end) p k = meets_params may_end p k
  meets_expr Item.more_params p k = meets_more_params p k
  meets_expr j p k = meets_type kind j p k
