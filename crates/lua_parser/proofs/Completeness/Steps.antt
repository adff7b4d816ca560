-- Single steps of the machine in expressions and statements, as equations between runs.
use Rattle.std.proofs.Common.{◌≡◌, ℕ, ◌+◌, ◌≤◌, ◌<◌, Bool, true, false, List, [], ◌∷◌, ◌++◌, Option, Some, None, refl, sym, ap, ◌∙◌, arith}
use Rattle.std.specs.Prelude.{if◌then◌else◌, ◌&&◌, nat_le, codes}
use Rattle.std.proofs.lemmas.Bool.Decides.{nat_tests}
use Rattle.tl_base.specs.declared.place.Pos.{Pos}
use Rattle.tl_base.specs.declared.place.ModuleKind.{ModuleKind}
use Rattle.tl_base.specs.declared.place.ModuleKind.TheVariants as module_kind
use Rattle.lua_tree.specs.declared.annotation.Name.{Name}
use Rattle.lua_tree.specs.declared.annotation.Typed.{Typed}
use Rattle.lua_tree.specs.declared.annotation.TypeExpr.{TypeExpr}
use Rattle.lua_tree.specs.declared.annotation.TypeResults.{TypeResults}
use Rattle.lua_tree.specs.declared.syntax.UnaryOperator.{UnaryOperator}
use Rattle.lua_tree.specs.declared.syntax.UnaryOperator.TheVariants as u
use Rattle.lua_tree.specs.declared.syntax.BinaryOperator.{BinaryOperator}
use Rattle.lua_tree.specs.declared.syntax.Expr.{Expr}
use Rattle.lua_tree.specs.declared.syntax.Expr.TheVariants as e
use Rattle.lua_tree.specs.declared.syntax.Entry.{Entry}
use Rattle.lua_tree.specs.declared.syntax.Entry.TheVariants as entry
use Rattle.lua_tree.specs.declared.syntax.Stat.{Stat}
use Rattle.lua_tree.specs.declared.syntax.Stat.TheVariants as stat
use Rattle.lua_tree.specs.declared.syntax.Return.{Return}
use Rattle.lua_lexer.specs.declared.token.Keyword.TheVariants as w
use Rattle.lua_lexer.specs.declared.token.Symbol.TheVariants as s
use Rattle.lua_parser.specs.Words.{Word, Words, WordKind, mark, sign, symbol, marked, named, name_at}
use Rattle.lua_parser.specs.Grammar.Levels.{unary_mark, binary_mark, level, unary_level, left_level, right_level}
use Rattle.lua_parser.specs.Grammar.Types.{opens}
use Rattle.lua_parser.specs.Grammar.Syntax.{Form, Target, Called, Enclosed, place}
use Rattle.lua_parser.specs.Machine.Plan.{Item, Plan, done, want, read, stuck, ends, takes, onward}
use Rattle.lua_parser.specs.Machine.Steps.{is_sign, is_key, is_typed, if_name, if_binary, binary_at, start_expr, start_exprs, operations_step, suffix, suffix_step, begun, going, or_ends, or_else, start_stat, rest_of_stat_step, end_of_stat, values_step, exprs_step}
use Rattle.lua_parser.specs.Machine.Run.{run}
use Rattle.lua_parser.proofs.Viability.Plans.{word_is}
use Rattle.lua_parser.proofs.Marks.{binary_at_mark}
use Rattle.lua_parser.proofs.Completeness.Plans.{on, read_on, on_both, onward_assoc, if_false, if_true, begins_as}
use Rattle.lua_parser.proofs.Completeness.Ends.{EndsBlock, Starter, starter_no_close, starter_starts, unary_operand, ends_no_open, ends_no_return, ends_no_stat, after_use, nil_begins, false_begins, true_begins, dots_begins, function_begins, open_begins, brace_begins, number_begins, text_begins, name_begins, unary_begins}
use Rattle.lua_parser.proofs.Completeness.Begins.{FirstExpr, used_ok, used_append}

pub nat_le_true : (a b : ℕ) → a ≤ b → nat_le a b ≡ true
nat_le_true a b h = grind (arith, nat_tests)

pub nat_le_false : (a b : ℕ) → b < a → nat_le a b ≡ false
nat_le_false a b h = grind (arith, nat_tests)

pub and_false : (a b : Bool) → (a ≡ true → b ≡ false) → (a && b) ≡ false
and_false true b h = h refl
and_false false b h = refl

-- No operator at this level or a higher one follows, nor what a call could go on with.
pub record ExprEnd (c : Bool) (k : WordKind) : Type 0 where
  pub no_op : binary_at k ≡ None
  pub no_call : c ≡ true → (a : Expr) (n : ℕ) (p : Pos) → suffix a n p k ≡ None

-- An operator that follows binds looser than the right operand of each operator from this level on.
pub record Behind (h : ℕ) (c : Bool) (k : WordKind) : Type 0 where
  pub looser : (o : BinaryOperator) → binary_at k ≡ Some o → (i : BinaryOperator) → h ≤ level i → level o < right_level i
  pub no_call : c ≡ true → (a : Expr) (n : ℕ) (p : Pos) → suffix a n p k ≡ None

pub behind_end : (h : ℕ) (c : Bool) (k : WordKind) → ExprEnd c k → Behind h c k
behind_end h c k x = record { looser = λ o d i l. absurd (no_some o (sym d ∙ x.no_op)); no_call = x.no_call }
  where
    no_some : (o : BinaryOperator) → ◌≡◌ {A = Option BinaryOperator} (Some o) None → ⊥
    no_some o d = cc

pub no_assign : (k : WordKind) (p : Pos) → after_use k ≡ true → is_sign s.Assign k ≡ false
no_assign k p h = go (is_sign s.Assign k) refl
  where
    go : (c : Bool) → is_sign s.Assign k ≡ c → is_sign s.Assign k ≡ false
    go true d = let f : true ≡ false = sym h ∙ ap (λ (x : Word). after_use x.kind) (word_is (sign s.Assign) k p d) in cc
    go false d = d

-- what may follow a name that begins a statement
abbrev pub no_name : Words → Bool
no_name [] = true
no_name (x ∷ us) = if_name x.kind (λ n. false) true

pub if_no_name : {B : Type 0} (k : WordKind) (f : List ℕ → B) (a : B) → if_name k (λ n. false) true ≡ true → if_name k f a ≡ a
if_no_name (WordKind.name n) f a h = cc
if_no_name (mark n) f a h = refl
if_no_name (WordKind.number n) f a h = refl
if_no_name (WordKind.text n) f a h = refl

if_same : {B : Type 0} (c : Bool) (a b : B) → a ≡ b → (if c then a else b) ≡ b
if_same true a b h = h
if_same false a b h = refl

module _ (kind : ModuleKind) where
  -- a first word of an entry that is no name
  entry_start : (n : ℕ) (o : Pos) {k : WordKind} → Starter k → ((x : List ℕ) → k ≡ WordKind.name x → ⊥) → exprs_step kind (Item.entries n) o k ≡ begun (going (start_expr 1 n o k) (λ a. read (Item.behind_entry a.1) λ r. done (entry.Item a.0 ∷ r.0, r.1)))
  entry_start n o nil_begins h = refl
  entry_start n o false_begins h = refl
  entry_start n o true_begins h = refl
  entry_start n o dots_begins h = refl
  entry_start n o function_begins h = refl
  entry_start n o open_begins h = refl
  entry_start n o brace_begins h = refl
  entry_start n o (number_begins i) h = refl
  entry_start n o (text_begins x) h = refl
  entry_start n o (name_begins x) h = absurd (h x refl)
  entry_start n o (unary_begins u.Not) h = refl
  entry_start n o (unary_begins u.Length) h = refl
  entry_start n o (unary_begins u.Negate) h = refl
  entry_start n o (unary_begins u.BitNot) h = refl

  typed_test : kind ≡ module_kind.Typed → is_typed kind ≡ true
  typed_test h = ap is_typed h

module _ (kind : ModuleKind) {A : Type 0} where
  pub operations_take : (l h : ℕ) (a : Expr) (n : ℕ) (c : Bool) (q : Pos) (o : BinaryOperator) (us : Words) (k : Expr × ℕ × Bool → Plan A) → l ≤ level o → left_level o ≤ h
      → run kind (read (Item.operations l h a n c) k) (marked (binary_mark o) q ∷ us) ≡ run kind (read (Item.an_expr (right_level o) n) λ b. read (Item.operations l (level o) (e.Binary (place a) o a b.0) b.1 b.2) k) us
  operations_take l h a n c q o us k f g =
      read_on kind (Item.operations l h a n c) k (marked (binary_mark o) q) us
      ∙ ap (λ r. on kind (marked (binary_mark o) q) us (if_binary r
      (λ i. if nat_le l (level i) then (if nat_le (left_level i) h then takes (read (Item.an_expr (right_level i) n) λ b. read (Item.operations l (level i) (e.Binary (place a) i a b.0) b.1 b.2) done) else stuck) else ends (a, n, c)) (ends (a, n, c))) k) (binary_at_mark o)
      ∙ ap (λ r. on kind (marked (binary_mark o) q) us r k) (if_true _ _ _ (nat_le_true l (level o) f) ∙ if_true _ _ _ (nat_le_true (left_level o) h g))

  pub operations_end : (l h : ℕ) (a : Expr) (n : ℕ) (c : Bool) (y : Word) (us : Words) (k : Expr × ℕ × Bool → Plan A) → ((o : BinaryOperator) → binary_at y.kind ≡ Some o → level o < l)
      → run kind (read (Item.operations l h a n c) k) (y ∷ us) ≡ run kind (k (a, n, c)) (y ∷ us)
  operations_end l h a n c y us k f = read_on kind (Item.operations l h a n c) k y us ∙ go (binary_at y.kind) f
    where
      go : (r : Option BinaryOperator) → ((o : BinaryOperator) → r ≡ Some o → level o < l)
          → on kind y us (if_binary r (λ i. if nat_le l (level i) then (if nat_le (left_level i) h then takes (read (Item.an_expr (right_level i) n) λ b. read (Item.operations l (level i) (e.Binary (place a) i a b.0) b.1 b.2) done) else stuck) else ends (a, n, c)) (ends (a, n, c))) k
          ≡ run kind (k (a, n, c)) (y ∷ us)
      go None g = refl
      go (Some o) g = ap (λ r. on kind y us r k) (if_false _ _ (ends (a, n, c)) (nat_le_false l (level o) (g o refl)))

  pub no_operations : (l h : ℕ) (a : Expr) (n : ℕ) (c : Bool) (y : Word) (us : Words) (k : Expr × ℕ × Bool → Plan A) → ExprEnd c y.kind → run kind (read (Item.operations l h a n c) k) (y ∷ us) ≡ run kind (k (a, n, c)) (y ∷ us)
  no_operations l h a n c y us k x = operations_end l h a n c y us k (λ o d. absurd (no_some o (sym d ∙ x.no_op)))
    where
      no_some : (o : BinaryOperator) → ◌≡◌ {A = Option BinaryOperator} (Some o) None → ⊥
      no_some o d = cc

  pub suffixes_end : (f : Form) (a : Expr) (n : ℕ) (y : Word) (us : Words) (k : Form × Expr × ℕ → Plan A) → suffix a n y.pos y.kind ≡ None → run kind (read (Item.suffixes f a n) k) (y ∷ us) ≡ run kind (k (f, a, n)) (y ∷ us)
  suffixes_end f a n y us k h = read_on kind (Item.suffixes f a n) k y us ∙ ap (λ o. on kind y us (or_ends (going o (λ v. read (Item.suffixes v.0 v.1 v.2) done)) (f, a, n)) k) h

  pub unary_take : (l n : ℕ) (p : Pos) (o : UnaryOperator) (us : Words) (k : Expr × ℕ × Bool → Plan A)
      → run kind (read (Item.an_expr l n) k) (marked (unary_mark o) p ∷ us) ≡ run kind (read (Item.an_expr unary_level n) λ a. read (Item.operations l unary_level (e.Unary p o a.0) a.1 a.2) k) us
  unary_take l n p o us k =
      read_on kind (Item.an_expr l n) k (marked (unary_mark o) p) us ∙ ap (λ r. on kind (marked (unary_mark o) p) us (begun (going r (λ a. read (Item.operations l unary_level a.0 a.1 a.2) done))) k) (unary_operand o n p)

  pub exprs_unfold : (n : ℕ) (k : List Expr × ℕ × Bool → Plan A) (us : Words) → run kind (read (Item.exprs n) k) us ≡ run kind (read (Item.an_expr 1 n) λ a. read (Item.more_exprs a.1 a.2) λ r. k (a.0 ∷ r.0, r.1, r.2)) us
  exprs_unfold n k [] = refl
  exprs_unfold n k (x ∷ us) = begins_as kind (Item.exprs n) (Item.an_expr 1 n) x us (start_expr 1 n x.pos x.kind) (λ a. read (Item.more_exprs a.1 a.2) λ r. done (a.0 ∷ r.0, r.1, r.2)) k refl refl

  pub more_exprs_end : (n : ℕ) (c : Bool) (y : Word) (us : Words) (k : List Expr × ℕ × Bool → Plan A) → is_sign s.Comma y.kind ≡ false → run kind (read (Item.more_exprs n c) k) (y ∷ us) ≡ run kind (k ([], n, c)) (y ∷ us)
  more_exprs_end n c y us k h = read_on kind (Item.more_exprs n c) k y us ∙ ap (λ r. on kind y us r k) (if_false _ _ (ends ([], n, c)) h)

  rest_at : (n : ℕ) (k : List Expr × ℕ → Plan A) (x : Word) (us : Words) → is_sign s.CloseParen x.kind ≡ false → run kind (read (Item.rest_of_arguments n) k) (x ∷ us) ≡ run kind (read (Item.exprs n) λ es. want (sign s.CloseParen) λ _. k (es.0, es.1)) (x ∷ us)
  rest_at n k x us h = begins_as kind (Item.rest_of_arguments n) (Item.exprs n) x us (start_exprs n x.pos x.kind) (λ es. want (sign s.CloseParen) λ _. done (es.0, es.1)) k refl (if_false _ _ _ h)

  pub rest_unfold : (n : ℕ) (k : List Expr × ℕ → Plan A) (ts us : Words) → FirstExpr ts → run kind (read (Item.rest_of_arguments n) k) (ts ++ us) ≡ run kind (read (Item.exprs n) λ es. want (sign s.CloseParen) λ _. k (es.0, es.1)) (ts ++ us)
  rest_unfold n k ts us f =
      let d = ap (λ z. z ++ us) f.2 in ap (run kind (read (Item.rest_of_arguments n) k)) d ∙ rest_at n k f.0 (f.1 ++ us) (starter_no_close f.3) ∙ sym (ap (run kind (read (Item.exprs n) λ es. want (sign s.CloseParen) λ _. k (es.0, es.1))) d)

  values_at : (n : ℕ) (k : List Expr × ℕ → Plan A) (x : Word) (us : Words) (q : Plan (List Expr × ℕ × Bool)) → start_exprs n x.pos x.kind ≡ Some q → run kind (read (Item.return_values n) k) (x ∷ us) ≡ run kind (read (Item.exprs n) λ es. k (es.0, es.1)) (x ∷ us)
  values_at n k x us q h =
      read_on kind (Item.return_values n) k x us ∙ ap (λ o. on kind x us (or_ends (going o (λ es. done (es.0, es.1))) ([], n)) k) h ∙ ap (λ z. run kind z us) (onward_assoc q (λ es. done (es.0, es.1)) k)
      ∙ sym (read_on kind (Item.exprs n) (λ es. k (es.0, es.1)) x us ∙ ap (λ o. on kind x us (begun o) (λ es. k (es.0, es.1))) h)

  pub values_unfold : (n : ℕ) (k : List Expr × ℕ → Plan A) (ts us : Words) → FirstExpr ts → run kind (read (Item.return_values n) k) (ts ++ us) ≡ run kind (read (Item.exprs n) λ es. k (es.0, es.1)) (ts ++ us)
  values_unfold n k ts us f =
      let d = ap (λ z. z ++ us) f.2 in let q = starter_starts f.3 n f.0.pos in
      ap (run kind (read (Item.return_values n) k)) d ∙ values_at n k f.0 (f.1 ++ us) q.0 q.1 ∙ sym (ap (run kind (read (Item.exprs n) λ es. k (es.0, es.1))) d)

  pub no_values : (n : ℕ) (k : List Expr × ℕ → Plan A) (y : Word) (us : Words) → start_exprs n y.pos y.kind ≡ None → run kind (read (Item.return_values n) k) (y ∷ us) ≡ run kind (k ([], n)) (y ∷ us)
  no_values n k y us h = read_on kind (Item.return_values n) k y us ∙ ap (λ o. on kind y us (or_ends (going o (λ es. done (es.0, es.1))) ([], n)) k) h

  pub no_semicolon : (k : Unit {0} → Plan A) (y : Word) (us : Words) → is_sign s.Semicolon y.kind ≡ false → run kind (read Item.maybe_semicolon k) (y ∷ us) ≡ run kind (k tt) (y ∷ us)
  no_semicolon k y us h = read_on kind Item.maybe_semicolon k y us ∙ ap (λ r. on kind y us r k) (if_false _ _ (ends tt) h)

  -- the entry that begins with a name
  named_item : (x : Name) (n : ℕ) (k : Entry × ℕ → Plan A) (y : Word) (us : Words) → is_sign s.Assign y.kind ≡ false
      → run kind (read (Item.named_or_item x n) k) (y ∷ us) ≡ run kind (read (Item.suffixes Target (e.Name x.pos n x.text) (n + 1)) λ a. read (Item.operations 1 unary_level a.1 a.2 true) λ c. k (entry.Item c.0, c.1)) (y ∷ us)
  named_item x n k y us h =
      read_on kind (Item.named_or_item x n) k y us ∙ ap (λ r. on kind y us r k) (if_false _ _ _ h)
      ∙ on_both kind y us (suffix_step Target (e.Name x.pos n x.text) (n + 1) y.pos y.kind) _ _ k in_suffixes
      (λ a. on_both kind y us (operations_step 1 unary_level a.1 a.2 true y.kind) _ _ k in_operations (λ c. refl) (λ c. refl) ∙ sym (read_on kind (Item.operations 1 unary_level a.1 a.2 true) in_operations y us)) (λ a. refl)
      ∙ sym (read_on kind (Item.suffixes Target (e.Name x.pos n x.text) (n + 1)) in_suffixes y us)
    where
      in_operations : Expr × ℕ × Bool → Plan A
      in_operations c = k (entry.Item c.0, c.1)

      in_suffixes : Form × Expr × ℕ → Plan A
      in_suffixes a = read (Item.operations 1 unary_level a.1 a.2 true) in_operations

  abbrev item_then : (List Entry × ℕ → Plan A) → Expr × ℕ × Bool → Plan A
  item_then k a = read (Item.behind_entry a.1) λ r. k (entry.Item a.0 ∷ r.0, r.1)

  entries_named : (n : ℕ) (x : Name) (k : List Entry × ℕ → Plan A) (us : Words) → used_ok us ≡ true
      → run kind (read (Item.named_or_item x n) λ d. read (Item.behind_entry d.1) λ r. k (d.0 ∷ r.0, r.1)) us ≡ run kind (read (Item.suffixes Target (e.Name x.pos n x.text) (n + 1)) λ a. read (Item.operations 1 unary_level a.1 a.2 true) (item_then k)) us
  entries_named n x k [] h = refl
  entries_named n x k (y ∷ us) h = named_item x n (λ d. read (Item.behind_entry d.1) λ r. k (d.0 ∷ r.0, r.1)) y us (no_assign y.kind y.pos h)

  entries_other : (n : ℕ) (k : List Entry × ℕ → Plan A) (o : Pos) {c : WordKind} (us : Words) → Starter c → ((x : List ℕ) → c ≡ WordKind.name x → ⊥)
      → run kind (read (Item.entries n) k) (record { kind = c; pos = o } ∷ us) ≡ run kind (read (Item.an_expr 1 n) (item_then k)) (record { kind = c; pos = o } ∷ us)
  entries_other n k o {c = c} us f h = begins_as kind (Item.entries n) (Item.an_expr 1 n) (record { kind = c; pos = o }) us (start_expr 1 n o c) (λ a. read (Item.behind_entry a.1) λ r. done (entry.Item a.0 ∷ r.0, r.1)) k refl (entry_start kind n o f h)

  entries_at : (n : ℕ) (k : List Entry × ℕ → Plan A) (o : Pos) {c : WordKind} (us : Words) → Starter c → ((x : List ℕ) → c ≡ WordKind.name x → used_ok us ≡ true)
      → run kind (read (Item.entries n) k) (record { kind = c; pos = o } ∷ us) ≡ run kind (read (Item.an_expr 1 n) (item_then k)) (record { kind = c; pos = o } ∷ us)
  entries_at n k o us (name_begins x) h = entries_named n (name_at o x) k us (h x refl)
  entries_at n k o us nil_begins h = entries_other n k o us nil_begins (λ x d. cc)
  entries_at n k o us false_begins h = entries_other n k o us false_begins (λ x d. cc)
  entries_at n k o us true_begins h = entries_other n k o us true_begins (λ x d. cc)
  entries_at n k o us dots_begins h = entries_other n k o us dots_begins (λ x d. cc)
  entries_at n k o us function_begins h = entries_other n k o us function_begins (λ x d. cc)
  entries_at n k o us open_begins h = entries_other n k o us open_begins (λ x d. cc)
  entries_at n k o us brace_begins h = entries_other n k o us brace_begins (λ x d. cc)
  entries_at n k o us (number_begins i) h = entries_other n k o us (number_begins i) (λ x d. cc)
  entries_at n k o us (text_begins i) h = entries_other n k o us (text_begins i) (λ x d. cc)
  entries_at n k o us (unary_begins i) h = entries_other n k o us (unary_begins i) (λ x d. cc)

  pub entries_unfold : (n : ℕ) (k : List Entry × ℕ → Plan A) (ts : Words) (y : Word) (us : Words) → FirstExpr ts → after_use y.kind ≡ true
      → run kind (read (Item.entries n) k) (ts ++ y ∷ us) ≡ run kind (read (Item.an_expr 1 n) λ a. read (Item.behind_entry a.1) λ r. k (entry.Item a.0 ∷ r.0, r.1)) (ts ++ y ∷ us)
  entries_unfold n k ts y us f h =
      let d = ap (λ z. z ++ y ∷ us) f.2 in
      ap (run kind (read (Item.entries n) k)) d ∙ entries_at n k f.0.pos (f.1 ++ y ∷ us) f.3 (λ x g. used_append f.1 (y ∷ us) (f.4 x g) h) ∙ sym (ap (run kind (read (Item.an_expr 1 n) (item_then k))) d)

  -- ---- statements

  abbrev pub next_of : Bool → (List Stat × Option Return × ℕ → Plan A) → Stat × ℕ × Bool → Plan A
  next_of outer k v = read (Item.a_block outer v.1 v.2) λ r. k (v.0 ∷ r.0, r.1, r.2)

  pub block_at : (outer : Bool) (n : ℕ) (c : Bool) (k : List Stat × Option Return × ℕ → Plan A) (x : Word) (us : Words) (q : Plan (Stat × ℕ × Bool)) → is_key w.Return x.kind ≡ false → (c && opens x.kind) ≡ false → start_stat outer n x.pos x.kind ≡ Some q
      → run kind (read (Item.a_block outer n c) k) (x ∷ us) ≡ run kind (onward q (next_of outer k)) us
  block_at outer n c k x us q f g h =
      read_on kind (Item.a_block outer n c) k x us
      ∙ ap (λ r. on kind x us r k) (if_false _ _ _ f ∙ if_false _ _ (or_ends (going (start_stat outer n x.pos x.kind) (λ v. read (Item.a_block outer v.1 v.2) λ r. done (v.0 ∷ r.0, r.1, r.2))) ([], None, n)) g)
      ∙ ap (λ o. on kind x us (or_ends (going o (λ v. read (Item.a_block outer v.1 v.2) λ r. done (v.0 ∷ r.0, r.1, r.2))) ([], None, n)) k) h
      ∙ ap (λ z. run kind z us) (onward_assoc q (λ v. read (Item.a_block outer v.1 v.2) λ r. done (v.0 ∷ r.0, r.1, r.2)) k)

  pub block_end : (outer : Bool) (n : ℕ) (c : Bool) (k : List Stat × Option Return × ℕ → Plan A) (x : Word) (us : Words) → EndsBlock x.kind → run kind (read (Item.a_block outer n c) k) (x ∷ us) ≡ run kind (k ([], None, n)) (x ∷ us)
  block_end outer n c k x us h =
      read_on kind (Item.a_block outer n c) k x us
      ∙ ap (λ r. on kind x us r k) (if_false _ _ _ (ends_no_return h) ∙ if_false _ _ (or_ends (going (start_stat outer n x.pos x.kind) (λ v. read (Item.a_block outer v.1 v.2) λ r. done (v.0 ∷ r.0, r.1, r.2))) ([], None, n)) (and_false c (opens x.kind) (λ d. ends_no_open h)))
      ∙ ap (λ o. on kind x us (or_ends (going o (λ v. read (Item.a_block outer v.1 v.2) λ r. done (v.0 ∷ r.0, r.1, r.2))) ([], None, n)) k) (ends_no_stat h outer n x.pos)

  pub suffix_loops : (k : Form × Expr × ℕ → Plan A) (f : Form) (a : Expr) (n : ℕ) (x : Word) (us : Words) (p : Plan (Form × Expr × ℕ)) → suffix a n x.pos x.kind ≡ Some p
      → run kind (read (Item.suffixes f a n) k) (x ∷ us) ≡ run kind (onward p (λ v. read (Item.suffixes v.0 v.1 v.2) k)) us
  suffix_loops k f a n x us p h =
      read_on kind (Item.suffixes f a n) k x us ∙ ap (λ o. on kind x us (or_ends (going o (λ v. read (Item.suffixes v.0 v.1 v.2) done)) (f, a, n)) k) h ∙ ap (λ z. run kind z us) (onward_assoc p (λ v. read (Item.suffixes v.0 v.1 v.2) done) k)

  pub stat_loops : (k : Stat × ℕ × Bool → Plan A) (f : Form) (a : Expr) (n : ℕ) (x : Word) (us : Words) (p : Plan (Form × Expr × ℕ)) → suffix a n x.pos x.kind ≡ Some p
      → run kind (read (Item.rest_of_stat f a n) k) (x ∷ us) ≡ run kind (onward p (λ v. read (Item.rest_of_stat v.0 v.1 v.2) k)) us
  stat_loops k f a n x us p h =
      read_on kind (Item.rest_of_stat f a n) k x us ∙ ap (λ o. on kind x us (or_else (going o (λ v. read (Item.rest_of_stat v.0 v.1 v.2) done)) (end_of_stat f a n x.kind)) k) h ∙ ap (λ z. run kind z us) (onward_assoc p (λ v. read (Item.rest_of_stat v.0 v.1 v.2) done) k)

  pub targets_loops : (k : Expr × List Expr × List Expr × ℕ × Bool → Plan A) (f : Form) (a : Expr) (n : ℕ) (x : Word) (us : Words) (p : Plan (Form × Expr × ℕ)) → suffix a n x.pos x.kind ≡ Some p
      → run kind (read (Item.targets f a n) k) (x ∷ us) ≡ run kind (onward p (λ v. read (Item.targets v.0 v.1 v.2) k)) us
  targets_loops k f a n x us p h =
      read_on kind (Item.targets f a n) k x us ∙ ap (λ o. on kind x us (or_else (going o (λ v. read (Item.targets v.0 v.1 v.2) done)) (values_step f a n x.kind)) k) h ∙ ap (λ z. run kind z us) (onward_assoc p (λ v. read (Item.targets v.0 v.1 v.2) done) k)

  pub call_ends : (k : Stat × ℕ × Bool → Plan A) (a : Expr) (n : ℕ) (y : Word) (us : Words) → suffix a n y.pos y.kind ≡ None → run kind (read (Item.rest_of_stat Called a n) k) (y ∷ us) ≡ run kind (k (stat.Call (place a) a, n, true)) (y ∷ us)
  call_ends k a n y us h = read_on kind (Item.rest_of_stat Called a n) k y us ∙ ap (λ o. on kind y us (or_else (going o (λ v. read (Item.rest_of_stat v.0 v.1 v.2) done)) (end_of_stat Called a n y.kind)) k) h

  pub behind_plain : (outer : Bool) (x : Name) (n : ℕ) (k : Stat × ℕ × Bool → Plan A) (us : Words) → no_name us ≡ true
      → run kind (read (Item.behind_name outer x n) k) us ≡ run kind (read (Item.rest_of_stat Target (e.Name x.pos n x.text) (n + 1)) k) us
  behind_plain outer x n k [] h = refl
  behind_plain outer x n k (y ∷ us) h =
      read_on kind (Item.behind_name outer x n) k y us ∙ ap (λ r. on kind y us r k) (if_same _ _ (rest_of_stat_step Target (e.Name x.pos n x.text) (n + 1) y.pos y.kind) (if_no_name y.kind _ _ h))
      ∙ sym (read_on kind (Item.rest_of_stat Target (e.Name x.pos n x.text) (n + 1)) k y us)

  -- the words `interface` and `typealias` in the outermost block of a typed module
  pub interface_at : (p : Pos) (x : Name) (n : ℕ) (k : Stat × ℕ × Bool → Plan A) (us : Words) → kind ≡ module_kind.Typed
      → run kind (read (Item.behind_name true (name_at p (codes "interface")) n) k) (named x ∷ us) ≡ run kind (read Item.fields_of_interface λ fs. k (stat.Interface p x fs, n, true)) us
  interface_at p x n k us h = read_on kind (Item.behind_name true (name_at p (codes "interface")) n) k (named x) us ∙ ap (λ r. on kind (named x) us r k) (if_true _ _ _ (typed_test kind h))

  pub alias_at : (p : Pos) (x : Name) (n : ℕ) (k : Stat × ℕ × Bool → Plan A) (us : Words) → kind ≡ module_kind.Typed
      → run kind (read (Item.behind_name true (name_at p (codes "typealias")) n) k) (named x ∷ us) ≡ run kind (want (sign s.Assign) λ _. read Item.a_type λ a. k (stat.Alias p x a, n, true)) us
  alias_at p x n k us h = read_on kind (Item.behind_name true (name_at p (codes "typealias")) n) k (named x) us ∙ ap (λ r. on kind (named x) us r k) (if_true _ _ _ (typed_test kind h))

  -- annotations
  pub annotation_at : (q : Pos) (us : Words) (k : Option TypeExpr → Plan A) → kind ≡ module_kind.Typed → run kind (read Item.annotation k) (symbol s.Colon q ∷ us) ≡ run kind (read Item.a_type λ x. k (Some x)) us
  annotation_at q us k h = read_on kind Item.annotation k (symbol s.Colon q) us ∙ ap (λ c. on kind (symbol s.Colon q) us (if c && true then takes (read Item.a_type λ x. done (Some x)) else ends None) k) (typed_test kind h)

  pub no_annotation_at : (y : Word) (us : Words) (k : Option TypeExpr → Plan A) → is_sign s.Colon y.kind ≡ false → run kind (read Item.annotation k) (y ∷ us) ≡ run kind (k None) (y ∷ us)
  no_annotation_at y us k h = read_on kind Item.annotation k y us ∙ ap (λ r. on kind y us r k) (if_false _ _ (ends None) (and_false (is_typed kind) (is_sign s.Colon y.kind) (λ d. h)))

  pub outcome_at : (q : Pos) (us : Words) (k : Option TypeResults → Plan A) → kind ≡ module_kind.Typed → run kind (read Item.outcome k) (symbol s.Colon q ∷ us) ≡ run kind (read Item.body_results λ x. k (Some x)) us
  outcome_at q us k h = read_on kind Item.outcome k (symbol s.Colon q) us ∙ ap (λ c. on kind (symbol s.Colon q) us (if c && true then takes (read Item.body_results λ x. done (Some x)) else ends None) k) (typed_test kind h)

  pub no_outcome_at : (y : Word) (us : Words) (k : Option TypeResults → Plan A) → is_sign s.Colon y.kind ≡ false → run kind (read Item.outcome k) (y ∷ us) ≡ run kind (k None) (y ∷ us)
  no_outcome_at y us k h = read_on kind Item.outcome k y us ∙ ap (λ r. on kind y us r k) (if_false _ _ (ends None) (and_false (is_typed kind) (is_sign s.Colon y.kind) (λ d. h)))

  -- optional parts that aren't there
  pub no_more_typed : (y : Word) (us : Words) (k : List Typed → Plan A) → is_sign s.Comma y.kind ≡ false → run kind (read Item.more_typed k) (y ∷ us) ≡ run kind (k []) (y ∷ us)
  no_more_typed y us k h = read_on kind Item.more_typed k y us ∙ ap (λ r. on kind y us r k) (if_false _ _ (ends []) h)

  pub no_init_at : (n : ℕ) (y : Word) (us : Words) (k : List Expr × ℕ × Bool → Plan A) → is_sign s.Assign y.kind ≡ false → run kind (read (Item.maybe_init n) k) (y ∷ us) ≡ run kind (k ([], n, false)) (y ∷ us)
  no_init_at n y us k h = read_on kind (Item.maybe_init n) k y us ∙ ap (λ r. on kind y us r k) (if_false _ _ (ends ([], n, false)) h)

  pub no_more_names : (y : Word) (us : Words) (k : List Name → Plan A) → is_sign s.Comma y.kind ≡ false → run kind (read Item.more_names k) (y ∷ us) ≡ run kind (k []) (y ∷ us)
  no_more_names y us k h = read_on kind Item.more_names k y us ∙ ap (λ r. on kind y us r k) (if_false _ _ (ends []) h)

-- Where a prefix is read: how it goes on after each of its parts.
pub record Loop (kind : ModuleKind) (A : Type 0) : Type 0 where
  pub next : Form → Expr → ℕ → Plan A
  pub loops : (f : Form) (a : Expr) (n : ℕ) (x : Word) (us : Words) (p : Plan (Form × Expr × ℕ)) → suffix a n x.pos x.kind ≡ Some p → run kind (next f a n) (x ∷ us) ≡ run kind (onward p (λ v. next v.0 v.1 v.2)) us

-- how the first part of a prefix is read
pub record Head (kind : ModuleKind) (A : Type 0) (loop : Loop kind A) (n : ℕ) : Type 0 where
  pub start : Plan A
  pub good : Words → Bool
  pub may_open : Bool
  pub good_used : (x : Word) (us : Words) → after_use x.kind ≡ true → good (x ∷ us) ≡ true
  pub at_name : (x : Name) (us : Words) → good us ≡ true → run kind start (named x ∷ us) ≡ run kind (loop.next Target (e.Name x.pos n x.text) (n + 1)) us
  pub at_open : (p : Pos) (us : Words) → may_open ≡ true → run kind start (symbol s.OpenParen p ∷ us) ≡ run kind (read (Item.an_expr 1 n) λ a. want (sign s.CloseParen) λ _. loop.next Enclosed (e.Paren p a.0) a.1) us
