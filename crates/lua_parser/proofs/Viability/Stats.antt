-- Each step in a statement or a block keeps what the part stands for.
use Rattle.std.proofs.Common.{◌≡◌, ℕ, ◌+◌, Bool, true, false, List, [], ◌∷◌, ◌++◌, Option, None, refl, subst, append_assoc, append-nil}
use Rattle.std.specs.Prelude.{codes, ◌&&◌, if◌then◌else◌}
use Rattle.tl_base.specs.declared.place.Pos.{Pos}
use Rattle.tl_base.specs.declared.place.ModuleKind.{ModuleKind}
use Rattle.tl_base.specs.declared.place.ModuleKind.TheVariants as module_kind
use Rattle.lua_tree.specs.declared.annotation.Name.{Name}
use Rattle.lua_tree.specs.declared.annotation.TypeField.{TypeField}
use Rattle.lua_tree.specs.declared.syntax.Expr.{Expr}
use Rattle.lua_tree.specs.declared.syntax.Expr.TheVariants as e
use Rattle.lua_tree.specs.declared.syntax.Stat.{Stat}
use Rattle.lua_tree.specs.declared.syntax.Stat.TheVariants as stat
use Rattle.lua_tree.specs.declared.syntax.Return.{Return}
use Rattle.lua_lexer.specs.declared.token.Keyword.TheVariants as w
use Rattle.lua_lexer.specs.declared.token.Symbol.TheVariants as s
use Rattle.lua_parser.specs.Words.{Word, Words, WordKind, key, sign, keyword, symbol, named, name_at}
use Rattle.lua_parser.specs.Grammar.Types.{opens, begins_open}
use Rattle.lua_parser.specs.Grammar.Syntax.{Form, Target, Called, Enclosed, place, typed, SpellsPrefix, SpellsTyped, SpellsTypeds, SpellsNames, SpellsPath, SpellsSemicolon, SpellsBlock, SpellsValues, SpellsStat, SpellsTargets, SpellsClauses, SpellsElse, SpellsStep, SpellsInit}
use Rattle.lua_parser.specs.Machine.Plan.{Item, done, want, read, stuck, takes}
use Rattle.lua_parser.specs.Machine.Steps.{is_text, is_typed, start_stat, block_step, targets_step, rest_of_stat_step, values_step, end_of_stat, type_stat_step, step, or_ends, going}
use Rattle.lua_parser.proofs.Viability.Means.{Means, EndedInterface, ended_interface, Assigns, assigns}
use Rattle.lua_parser.proofs.Viability.Plans.{Begins, Meets, begins_with, begins_none, begins_some, meets_stuck, meets_ends, meets_takes, begins_if, begins_name, begins_going, meets_if, meets_name, meets_or_ends, meets_or_else, meets_both, meets_either, meets_as}
use Rattle.lua_parser.proofs.Viability.Types.{at, both_true, typed_kind, text_is}
use Rattle.lua_parser.proofs.Viability.Exprs.{one_fits, exprs_begins, Suffixed, suffix_begins, body_joined, meets_expr}

module _ (kind : ModuleKind) where
  abbrev Statement : Bool → ℕ → Stat × ℕ × Bool → Words → Type 0
  Statement outer n v ts = SpellsStat kind outer n v.1 v.2 v.0 ts

  pub stat_begins : (outer : Bool) (n : ℕ) (p : Pos) (k : WordKind) → Begins kind (Statement outer n) (at p k) (start_stat outer n p k)
  stat_begins outer n p k =
      begins_if kind (Statement outer n) (sign s.Semicolon) p k _ _ (SpellsStat.empty p)
      (begins_if kind (Statement outer n) (key w.Break) p k _ _ (SpellsStat.break_stat p)
      (begins_if kind (Statement outer n) (key w.Do) p k _ _ (λ d ts x z. SpellsStat.do_stat p z x.0)
      (begins_if kind (Statement outer n) (key w.While) p k _ _ (λ a us x q d vs y z. SpellsStat.while_stat p q z (x one_fits) y.0)
      (begins_if kind (Statement outer n) (key w.Repeat) p k _ _ (λ d us x q a vs y. rw append-nil (SpellsStat.repeat_stat p q x.0 (y one_fits)))
      (begins_if kind (Statement outer n) (key w.If) p k _ _ (λ a us x q d vs y r ts z. rw append-nil (SpellsStat.if_stat p (SpellsClauses.next_clause q (x one_fits) y.0 z)))
      (begins_if kind (Statement outer n) (key w.For) p k _ _ (λ x r ts y. rw append-nil (y outer))
      (begins_if kind (Statement outer n) (key w.Function) p k _ _ (λ x r ts y. rw append-nil (y outer n (named x ∷ []) (SpellsPath.path_name n x)))
      (begins_if kind (Statement outer n) (key w.Local) p k _ _ (λ r ts y. rw append-nil (y outer))
      (begins_if kind (Statement outer n) (sign s.OpenParen) p k _ _ (λ a us x q r ts y. rw append-nil (subst (SpellsStat kind outer n r.1 r.2 r.0) (append_assoc (symbol s.OpenParen p ∷ us) (symbol s.CloseParen q ∷ []) ts) (y outer n (symbol s.OpenParen p ∷ us ++ symbol s.CloseParen q ∷ []) (SpellsPrefix.paren p q (x one_fits)))))
      (begins_name kind (Statement outer n) p k _ _ (λ x. begins_some kind (Statement outer n) _ _ (λ r ts y. rw append-nil y)) (begins_none kind _ _)))))))))))

  first_open : (c : Bool) (x : Word) (us : Words) → (c && opens x.kind) ≡ false → c ≡ true → begins_open (x ∷ us) ≡ false
  first_open true x us h d = h
  first_open false x us h d = cc

  pub meets_block : (outer : Bool) (n : ℕ) (c : Bool) (p : Pos) (k : WordKind) → Meets kind (Means kind (Item.a_block outer n c)) (at p k) (block_step outer n c p k)
  meets_block outer n c p k =
      meets_if kind (Means kind (Item.a_block outer n c)) (key w.Return) p k _ _ (λ es us x u ts y. rw append-nil (SpellsBlock.return_stat p x y, λ h. refl))
      (meets_either kind (Means kind (Item.a_block outer n c)) _ _ _ _ (λ h. meets_stuck kind _ _) further)
    where
      joined : (c && opens k) ≡ false → (x : Stat × ℕ × Bool) (us : Words) → SpellsStat kind outer n x.1 x.2 x.0 us × ((vs : Words) × (us ≡ at p k ∷ vs)) → (r : List Stat × Option Return × ℕ) (ts : Words) → Means kind (Item.a_block outer x.1 x.2) r ts
          → Means kind (Item.a_block outer n c) (x.0 ∷ r.0, r.1, r.2) (us ++ ts)
      joined h x us y r ts z = (SpellsBlock.next_stat y.0 z.0 z.1, λ d. rw y.1.1 (first_open c (at p k) (y.1.0 ++ ts) h d))

      further : (c && opens k) ≡ false → Meets kind (Means kind (Item.a_block outer n c)) (at p k) (or_ends (going (start_stat outer n p k) (λ x. read (Item.a_block outer x.1 x.2) λ r. done (x.0 ∷ r.0, r.1, r.2))) ([], None, n))
      further h = meets_or_ends kind (Means kind (Item.a_block outer n c)) _ _ _
          (begins_going kind (Means kind (Item.a_block outer n c)) _ (at p k) _ (λ x. read (Item.a_block outer x.1 x.2) λ r. done (x.0 ∷ r.0, r.1, r.2)) (begins_with kind (Statement outer n) (at p k) (start_stat outer n p k) (stat_begins outer n p k))
          (λ x us y r ts z. rw append-nil (joined h x us y r ts z)))
          (SpellsBlock.no_stats, λ d. refl)

  pub meets_values : (n : ℕ) (p : Pos) (k : WordKind) → Meets kind (Means kind (Item.return_values n)) (at p k) (step kind (Item.return_values n) p k)
  meets_values n p k =
      meets_or_ends kind (Means kind (Item.return_values n)) _ _ _ (begins_going kind (Means kind (Item.return_values n)) (Means kind (Item.exprs n)) (at p k) _ (λ es. done (es.0, es.1)) (exprs_begins kind n p k) (λ es ts x. rw append-nil (SpellsValues.values x))) SpellsValues.no_values

  pub meets_clauses : (n : ℕ) (p : Pos) (k : WordKind) → Meets kind (Means kind (Item.more_clauses n)) (at p k) (step kind (Item.more_clauses n) p k)
  meets_clauses n p k =
      meets_if kind (Means kind (Item.more_clauses n)) (key w.Elseif) p k _ _ (λ a us x q d vs y r ts z. rw append-nil (SpellsElse.else_if p (SpellsClauses.next_clause q (x one_fits) y.0 z)))
      (meets_if kind (Means kind (Item.more_clauses n)) (key w.Else) p k _ _ (λ d ts x z. SpellsElse.else_block p z x.0)
      (meets_if kind (Means kind (Item.more_clauses n)) (key w.End) p k _ _ (SpellsElse.no_else p) (meets_stuck kind _ _)))

  pub meets_for : (o : Pos) (x : Name) (n : ℕ) (p : Pos) (k : WordKind) → Meets kind (Means kind (Item.rest_of_for o x n)) (at p k) (step kind (Item.rest_of_for o x n) p k)
  meets_for o x n p k =
      meets_if kind (Means kind (Item.rest_of_for o x n)) (sign s.Assign) p k _ _ (λ a ts y q b us z i vs j r d ws l end outer. SpellsStat.numeric_for o x p q r end (y one_fits) (z one_fits) j l.0)
      (meets_if kind (Means kind (Item.rest_of_for o x n)) (sign s.Comma) p k _ _ (λ y ys ts l q es us m r d vs b end outer. SpellsStat.generic_for o q r end (SpellsNames.more_names x p (l y)) m b.0)
      (meets_if kind (Means kind (Item.rest_of_for o x n)) (key w.In) p k _ _ (λ es us m r d vs b end outer. SpellsStat.generic_for o p r end (SpellsNames.last_name x) m b.0) (meets_stuck kind _ _)))

  pub meets_step : (n : ℕ) (p : Pos) (k : WordKind) → Meets kind (Means kind (Item.maybe_step n)) (at p k) (step kind (Item.maybe_step n) p k)
  meets_step n p k =
      meets_if kind (Means kind (Item.maybe_step n)) (sign s.Comma) p k _ _ (λ a ts x. rw append-nil (SpellsStep.some_step p (x one_fits))) (meets_ends kind (Means kind (Item.maybe_step n)) _ _ SpellsStep.no_step)

  pub meets_names : (p : Pos) (k : WordKind) → Meets kind (Means kind Item.more_names) (at p k) (step kind Item.more_names p k)
  meets_names p k =
      meets_if kind (Means kind Item.more_names) (sign s.Comma) p k _ _ (λ y ys ts l x. rw append-nil (SpellsNames.more_names x p (l y))) (meets_ends kind (Means kind Item.more_names) _ _ (λ x. SpellsNames.last_name x))

  pub meets_path : (o : Pos) (a : Expr) (n : ℕ) (p : Pos) (k : WordKind) → Meets kind (Means kind (Item.rest_of_function o a n)) (at p k) (step kind (Item.rest_of_function o a n) p k)
  meets_path o a n p k =
      meets_if kind (Means kind (Item.rest_of_function o a n)) (sign s.Dot) p k _ _
      (λ x r ts l outer m us y. rw append-nil (subst (λ z. SpellsStat kind outer m r.1 false r.0 (keyword w.Function o ∷ z)) (append_assoc us (symbol s.Dot p ∷ named x ∷ []) ts) (l outer m (us ++ symbol s.Dot p ∷ named x ∷ []) (SpellsPath.path_field p x y))))
      (meets_if kind (Means kind (Item.rest_of_function o a n)) (sign s.Colon) p k _ _ (λ x d ts z outer m us y. rw append-nil (SpellsStat.method_stat o p x y z))
      (meets_if kind (Means kind (Item.rest_of_function o a n)) (sign s.OpenParen) p k _ _ (λ ps ts x i us y d vs b z outer m ws l. SpellsStat.function_stat o l (body_joined kind n p ps.0 ps.1 i d ts us vs z x y b.0)) (meets_stuck kind _ _)))

  pub meets_local : (o : Pos) (n : ℕ) (p : Pos) (k : WordKind) → Meets kind (Means kind (Item.rest_of_local o n)) (at p k) (step kind (Item.rest_of_local o n) p k)
  meets_local o n p k =
      meets_if kind (Means kind (Item.rest_of_local o n)) (key w.Function) p k _ _ (λ x d ts z outer. rw append-nil (SpellsStat.local_function o p x z))
      (meets_name kind (Means kind (Item.rest_of_local o n)) p k _ _ (λ x. meets_takes kind (Means kind (Item.rest_of_local o n)) _ _
      (λ a ts y r us z i vs l outer. rw append-nil (subst (λ c. SpellsStat kind outer n i.1 i.2 (stat.Local o (typed (name_at p x) a ∷ r) i.0) (keyword w.Local o ∷ named (name_at p x) ∷ c)) (append_assoc ts us vs) (SpellsStat.local_stat o (z (typed (name_at p x) a) (named (name_at p x) ∷ ts) (SpellsTyped.declared (name_at p x) y)) l))))
      (meets_stuck kind _ _))

  pub meets_typed : (p : Pos) (k : WordKind) → Meets kind (Means kind Item.more_typed) (at p k) (step kind Item.more_typed p k)
  meets_typed p k =
      meets_if kind (Means kind Item.more_typed) (sign s.Comma) p k _ _ (λ x a us y r ts z v vs i. rw append-nil (SpellsTypeds.more_typed p i (z (typed x a) (named x ∷ us) (SpellsTyped.declared x y))))
      (meets_ends kind (Means kind Item.more_typed) _ _ (λ v vs i. rw append-nil (SpellsTypeds.last_typed i)))

  pub meets_init : (n : ℕ) (p : Pos) (k : WordKind) → Meets kind (Means kind (Item.maybe_init n)) (at p k) (step kind (Item.maybe_init n) p k)
  meets_init n p k =
      meets_if kind (Means kind (Item.maybe_init n)) (sign s.Assign) p k _ _ (λ es ts x. rw append-nil (SpellsInit.some_init p x)) (meets_ends kind (Means kind (Item.maybe_init n)) _ _ SpellsInit.no_init)

  assigns_joined : (m : ℕ) {i : ℕ} (a : Expr) (us : Words) (p : Pos) {k : ℕ} {c : Bool} {b : Expr} {bs es : List Expr} {ts : Words} → SpellsPrefix kind Target m i a us → Assigns kind i k c b bs es ts
      → Assigns kind m k c a (b ∷ bs) es (us ++ symbol s.Comma p ∷ ts)
  assigns_joined m a us p {k = k} {c = c} {b = b} {bs = bs} {es = es} x (assigns {ts = vs} {us = ws} q y z) =
      subst (Assigns kind m k c a (b ∷ bs) es) (append_assoc us (symbol s.Comma p ∷ vs) (symbol s.Assign q ∷ ws)) (assigns q (SpellsTargets.more_targets p x y) z)

  meets_values_of : (f : Form) (a : Expr) (n : ℕ) (p : Pos) (k : WordKind) → Meets kind (Means kind (Item.targets f a n)) (at p k) (values_step f a n k)
  meets_values_of Target a n p k =
      meets_if kind (Means kind (Item.targets Target a n)) (sign s.Assign) p k _ _ (λ es ts x m us y. rw append-nil (assigns p (SpellsTargets.last_target y) x))
      (meets_if kind (Means kind (Item.targets Target a n)) (sign s.Comma) p k _ _ (λ r ts x m us y. rw append-nil (assigns_joined m a us p y x)) (meets_stuck kind _ _))
  meets_values_of Called a n p k = meets_stuck kind _ _
  meets_values_of Enclosed a n p k = meets_stuck kind _ _

  pub meets_targets : (f : Form) (a : Expr) (n : ℕ) (p : Pos) (k : WordKind) → Meets kind (Means kind (Item.targets f a n)) (at p k) (targets_step f a n p k)
  meets_targets f a n p k =
      meets_or_else kind (Means kind (Item.targets f a n)) _ _ _
      (begins_going kind (Means kind (Item.targets f a n)) (Suffixed kind a n) (at p k) _ (λ v. read (Item.targets v.0 v.1 v.2) done) (suffix_begins kind a n p k)
      (λ v ts x r us y m vs z. rw append-nil (subst (Assigns kind m r.3 r.4 r.0 r.1 r.2) (append_assoc vs ts us) (y m (vs ++ ts) (x f m vs z)))))
      (meets_values_of f a n p k)

  assigned_spelled : (outer : Bool) (m k : ℕ) (c : Bool) (x : Expr) (xs es : List Expr) (ts : Words) → Assigns kind m k c x xs es ts → SpellsStat kind outer m k c (stat.Assign (place x) (x ∷ xs) es) ts
  assigned_spelled outer m k c x xs es ts (assigns q y z) = SpellsStat.assign q y z

  meets_end_of_stat : (f : Form) (a : Expr) (n : ℕ) (p : Pos) (k : WordKind) → Meets kind (Means kind (Item.rest_of_stat f a n)) (at p k) (end_of_stat f a n k)
  meets_end_of_stat Called a n p k = meets_ends kind (Means kind (Item.rest_of_stat Called a n)) _ _ (λ outer m us x. rw append-nil (SpellsStat.call_stat x))
  meets_end_of_stat Target a n p k =
      meets_both kind (Means kind (Item.rest_of_stat Target a n)) (Means kind (Item.targets Target a n)) (at p k) _ _ _ (meets_values_of Target a n p k) (λ r x. meets_stuck kind _ _)
      (λ r ts x outer m us y. rw append-nil (assigned_spelled outer m r.3 r.4 r.0 r.1 r.2 _ (x m us y)))
  meets_end_of_stat Enclosed a n p k = meets_stuck kind _ _

  pub meets_rest_of_stat : (f : Form) (a : Expr) (n : ℕ) (p : Pos) (k : WordKind) → Meets kind (Means kind (Item.rest_of_stat f a n)) (at p k) (rest_of_stat_step f a n p k)
  meets_rest_of_stat f a n p k =
      meets_or_else kind (Means kind (Item.rest_of_stat f a n)) _ _ _
      (begins_going kind (Means kind (Item.rest_of_stat f a n)) (Suffixed kind a n) (at p k) _ (λ v. read (Item.rest_of_stat v.0 v.1 v.2) done) (suffix_begins kind a n p k)
      (λ v ts x r us y outer m vs z. rw append-nil (subst (SpellsStat kind outer m r.1 r.2 r.0) (append_assoc vs ts us) (y outer m (vs ++ ts) (x f m vs z)))))
      (meets_end_of_stat f a n p k)

  pub meets_next_target : (n : ℕ) (p : Pos) (k : WordKind) → Meets kind (Means kind (Item.next_target n)) (at p k) (step kind (Item.next_target n) p k)
  meets_next_target n p k =
      meets_if kind (Means kind (Item.next_target n)) (sign s.OpenParen) p k _ _
      (λ a us x q r ts y. rw append-nil (subst (Assigns kind n r.3 r.4 r.0 r.1 r.2) (append_assoc (symbol s.OpenParen p ∷ us) (symbol s.CloseParen q ∷ []) ts) (y n (symbol s.OpenParen p ∷ us ++ symbol s.CloseParen q ∷ []) (SpellsPrefix.paren p q (x one_fits)))))
      (meets_name kind (Means kind (Item.next_target n)) p k _ _ (λ x. meets_takes kind (Means kind (Item.next_target n)) _ _ (λ r ts y. rw append-nil (y n (named (name_at p x) ∷ []) (SpellsPrefix.name n (name_at p x))))) (meets_stuck kind _ _))

  interface_spelled : (n : ℕ) (p : Pos) (x : Name) (fs : List TypeField) (ts : Words) → kind ≡ module_kind.Typed → EndedInterface fs ts → SpellsStat kind true n n true (stat.Interface p x fs) (named (name_at p (codes "interface")) ∷ named x ∷ ts)
  interface_spelled n p x fs ts h (ended_interface z y) = SpellsStat.interface_stat p x z h y

  meets_type_stat : (outer : Bool) (x : Name) (n : ℕ) (p : Pos) (y : List ℕ) → outer ≡ true → kind ≡ module_kind.Typed → Meets kind (Means kind (Item.behind_name outer x n)) (named (name_at p y)) (type_stat_step x n p y)
  meets_type_stat outer x n p y f g =
      meets_either kind (Means kind (Item.behind_name outer x n)) _ _ _ _
      (λ h. meets_takes kind (Means kind (Item.behind_name outer x n)) _ _ (λ fs ts z. rw (append-nil, text_is x (codes "interface") h, f) (interface_spelled n x.pos (name_at p y) fs ts g z)))
      (λ d. other)
    where
      other : Meets kind (Means kind (Item.behind_name outer x n)) (named (name_at p y)) (if is_text x.text (codes "typealias") then takes (want (sign s.Assign) λ _. read Item.a_type λ a. done (stat.Alias x.pos (name_at p y) a, n, true)) else stuck)
      other = meets_either kind (Means kind (Item.behind_name outer x n)) _ _ _ _
          (λ h. meets_takes kind (Means kind (Item.behind_name outer x n)) _ _ (λ q a ts z. rw (append-nil, text_is x (codes "typealias") h, f) (SpellsStat.alias_stat x.pos (name_at p y) q g z)))
          (λ h. meets_stuck kind _ _)

  pub meets_behind_name : (outer : Bool) (x : Name) (n : ℕ) (p : Pos) (k : WordKind) → Meets kind (Means kind (Item.behind_name outer x n)) (at p k) (step kind (Item.behind_name outer x n) p k)
  meets_behind_name outer x n p k =
      meets_either kind (Means kind (Item.behind_name outer x n)) _ _ _ _
      (λ h. let b = both_true kind outer (is_typed kind) h in meets_name kind (Means kind (Item.behind_name outer x n)) p k _ _ (λ y. meets_type_stat outer x n p y b.0 (typed_kind kind kind b.1)) plain)
      (λ h. plain)
    where
      plain : Meets kind (Means kind (Item.behind_name outer x n)) (at p k) (rest_of_stat_step Target (e.Name x.pos n x.text) (n + 1) p k)
      plain = meets_as kind (Means kind (Item.rest_of_stat Target (e.Name x.pos n x.text) (n + 1))) (Means kind (Item.behind_name outer x n)) _ _ (λ v ts y. y outer n (named x ∷ []) (SpellsPrefix.name n x)) (meets_rest_of_stat Target (e.Name x.pos n x.text) (n + 1) p k)

  pub meets : (j : Item) (p : Pos) (k : WordKind) → Meets kind (Means kind j) (at p k) (step kind j p k)
  meets (Item.a_block outer n c) p k = meets_block outer n c p k
  meets (Item.return_values n) p k = meets_values n p k
  meets Item.maybe_semicolon p k =
      meets_if kind (Means kind Item.maybe_semicolon) (sign s.Semicolon) p k _ _ (SpellsSemicolon.semicolon_after p) (meets_ends kind (Means kind Item.maybe_semicolon) _ _ SpellsSemicolon.no_semicolon)
  meets (Item.more_clauses n) p k = meets_clauses n p k
  meets (Item.rest_of_for o x n) p k = meets_for o x n p k
  meets (Item.maybe_step n) p k = meets_step n p k
  meets Item.more_names p k = meets_names p k
  meets (Item.rest_of_function o a n) p k = meets_path o a n p k
  meets (Item.rest_of_local o n) p k = meets_local o n p k
  meets Item.more_typed p k = meets_typed p k
  meets (Item.maybe_init n) p k = meets_init n p k
  meets (Item.behind_name outer x n) p k = meets_behind_name outer x n p k
  meets (Item.rest_of_stat f a n) p k = meets_rest_of_stat f a n p k
  meets (Item.targets f a n) p k = meets_targets f a n p k
  meets (Item.next_target n) p k = meets_next_target n p k
  meets j p k = meets_expr kind j p k
