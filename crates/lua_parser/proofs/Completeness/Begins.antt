-- The first words of expressions, statements and blocks.
use Rattle.std.proofs.Common.{◌≡◌, ℕ, Bool, true, List, [], ◌∷◌, ◌++◌, Option, refl, ap}
use Rattle.tl_base.specs.declared.place.ModuleKind.{ModuleKind}
use Rattle.lua_tree.specs.declared.syntax.Expr.{Expr}
use Rattle.lua_tree.specs.declared.syntax.Stat.{Stat}
use Rattle.lua_tree.specs.declared.syntax.Clause.{Clause}
use Rattle.lua_tree.specs.declared.syntax.Block.{Block}
use Rattle.lua_tree.specs.declared.syntax.Return.{Return}
use Rattle.lua_parser.specs.Words.{Word, Words, WordKind, Mark, mark}
use Rattle.lua_parser.specs.Grammar.Levels.{unary_mark}
use Rattle.lua_parser.specs.Grammar.Types.{begins_open}
use Rattle.lua_parser.specs.Grammar.Syntax.{Form, Spells, SpellsPrefix, SpellsArguments, SpellsList, SpellsBlock, SpellsStat, SpellsTargets, SpellsElse}
use Rattle.lua_parser.proofs.Completeness.Ends.{Follow, EndsBlock, Starter, ends_follows, after_use, operator_after_use, semicolon_follows, break_follows, do_follows, while_follows, repeat_follows, if_follows, for_follows, function_follows, local_follows, open_follows, return_follows, name_follows, end_ends, else_ends, elseif_ends, nil_begins, false_begins, true_begins, dots_begins, function_begins, open_begins, brace_begins, number_begins, text_begins, name_begins, unary_begins}

-- what may follow a name that begins an entry
abbrev pub used_ok : Words → Bool
used_ok [] = true
used_ok (x ∷ ts) = after_use x.kind

-- There is a first word, which may begin an expression, and where it is a name neither a name nor `=` follows it.
abbrev pub FirstExpr : Words → Type 0
FirstExpr ts = (x : Word) × (us : Words) × (ts ≡ x ∷ us) × Starter x.kind × ((n : List ℕ) → x.kind ≡ WordKind.name n → used_ok us ≡ true)

pub used_append : (ts us : Words) → used_ok ts ≡ true → used_ok us ≡ true → used_ok (ts ++ us) ≡ true
used_append [] us a b = b
used_append (x ∷ ts) us a b = a

first_more : (ts us : Words) → FirstExpr ts → used_ok us ≡ true → FirstExpr (ts ++ us)
first_more ts us f h = (f.0, f.1 ++ us, ap (λ z. z ++ us) f.2, f.3, λ n e. used_append f.1 us (f.4 n e) h)

pub open_append : (ts us : Words) → begins_open ts ≡ true → begins_open (ts ++ us) ≡ true
open_append [] us h = cc
open_append (x ∷ ts) us h = h

module _ (kind : ModuleKind) where
  arguments_used : {n m : ℕ} {es : List Expr} {ts : Words} → SpellsArguments kind n m es ts → used_ok ts ≡ true
  arguments_used (SpellsArguments.no_arguments p q) = refl
  arguments_used (SpellsArguments.arguments p q d) = refl
  arguments_used (SpellsArguments.table_argument p d) = refl
  arguments_used (SpellsArguments.string_argument p x) = refl

  pub prefix_first : {f : Form} {n m : ℕ} {a : Expr} {ts : Words} → SpellsPrefix kind f n m a ts → FirstExpr ts
  prefix_first (SpellsPrefix.name n x) = (_, _, refl, name_begins x.text, λ n e. refl)
  prefix_first (SpellsPrefix.paren p q d) = (_, _, refl, open_begins, λ n e. cc)
  prefix_first (SpellsPrefix.field q x d) = first_more _ _ (prefix_first d) refl
  prefix_first (SpellsPrefix.index p q d f) = first_more _ _ (prefix_first d) refl
  prefix_first (SpellsPrefix.call d f) = first_more _ _ (prefix_first d) (arguments_used f)
  prefix_first (SpellsPrefix.method q x d f) = first_more _ _ (prefix_first d) refl

  no_mark_name : (o : Mark) (n : List ℕ) → mark o ≡ WordKind.name n → ⊥
  no_mark_name o n e = cc

  pub expr_first : {l n m : ℕ} {c : Bool} {a : Expr} {ts : Words} → Spells kind l n m c a ts → FirstExpr ts
  expr_first (Spells.nil p) = (_, _, refl, nil_begins, λ n e. cc)
  expr_first (Spells.false_word p) = (_, _, refl, false_begins, λ n e. cc)
  expr_first (Spells.true_word p) = (_, _, refl, true_begins, λ n e. cc)
  expr_first (Spells.integer p i) = (_, _, refl, number_begins i, λ n e. cc)
  expr_first (Spells.string p x) = (_, _, refl, text_begins x, λ n e. cc)
  expr_first (Spells.vararg p) = (_, _, refl, dots_begins, λ n e. cc)
  expr_first (Spells.function p d) = (_, _, refl, function_begins, λ n e. cc)
  expr_first (Spells.prefix d) = prefix_first d
  expr_first (Spells.table p d) = (_, _, refl, brace_begins, λ n e. cc)
  expr_first (Spells.unary p o d) = (_, _, refl, unary_begins o, λ n e. absurd (no_mark_name (unary_mark o) n e))
  expr_first (Spells.binary q o l d f) = first_more _ _ (expr_first d) (operator_after_use o)

  pub list_first : {n m : ℕ} {c : Bool} {es : List Expr} {ts : Words} → SpellsList kind n m c es ts → FirstExpr ts
  list_first (SpellsList.last d) = expr_first d
  list_first (SpellsList.more q d f) = first_more _ _ (expr_first d) refl

  -- There is a first word, which may follow a statement.
  abbrev pub FirstStat : Words → Type 0
  FirstStat ts = (x : Word) × (us : Words) × (ts ≡ x ∷ us) × Follow x.kind

  more_stat : (ts us : Words) → FirstStat ts → FirstStat (ts ++ us)
  more_stat ts us f = (f.0, f.1 ++ us, ap (λ z. z ++ us) f.2, f.3)

  prefix_stat : {f : Form} {n m : ℕ} {a : Expr} {ts : Words} → SpellsPrefix kind f n m a ts → FirstStat ts
  prefix_stat (SpellsPrefix.name n x) = (_, _, refl, name_follows x.text)
  prefix_stat (SpellsPrefix.paren p q d) = (_, _, refl, open_follows)
  prefix_stat (SpellsPrefix.field q x d) = more_stat _ _ (prefix_stat d)
  prefix_stat (SpellsPrefix.index p q d f) = more_stat _ _ (prefix_stat d)
  prefix_stat (SpellsPrefix.call d f) = more_stat _ _ (prefix_stat d)
  prefix_stat (SpellsPrefix.method q x d f) = more_stat _ _ (prefix_stat d)

  targets_stat : {n m : ℕ} {a : Expr} {bs : List Expr} {ts : Words} → SpellsTargets kind n m a bs ts → FirstStat ts
  targets_stat (SpellsTargets.last_target d) = prefix_stat d
  targets_stat (SpellsTargets.more_targets q d f) = more_stat _ _ (prefix_stat d)

  stat_first : {outer : Bool} {n m : ℕ} {c : Bool} {x : Stat} {ts : Words} → SpellsStat kind outer n m c x ts → FirstStat ts
  stat_first (SpellsStat.empty p) = (_, _, refl, semicolon_follows)
  stat_first (SpellsStat.assign q d f) = more_stat _ _ (targets_stat d)
  stat_first (SpellsStat.call_stat d) = prefix_stat d
  stat_first (SpellsStat.break_stat p) = (_, _, refl, break_follows)
  stat_first (SpellsStat.do_stat p z d) = (_, _, refl, do_follows)
  stat_first (SpellsStat.while_stat p q z d f) = (_, _, refl, while_follows)
  stat_first (SpellsStat.repeat_stat p q d f) = (_, _, refl, repeat_follows)
  stat_first (SpellsStat.if_stat p d) = (_, _, refl, if_follows)
  stat_first (SpellsStat.numeric_for p x q o y z d f g h) = (_, _, refl, for_follows)
  stat_first (SpellsStat.generic_for p q y z d f g) = (_, _, refl, for_follows)
  stat_first (SpellsStat.function_stat p d f) = (_, _, refl, function_follows)
  stat_first (SpellsStat.method_stat p q x d f) = (_, _, refl, function_follows)
  stat_first (SpellsStat.local_function p q x d) = (_, _, refl, local_follows)
  stat_first (SpellsStat.local_stat p d f) = (_, _, refl, local_follows)
  stat_first (SpellsStat.interface_stat p x z h d) = (_, _, refl, name_follows _)
  stat_first (SpellsStat.alias_stat p x q h d) = (_, _, refl, name_follows _)

  pub block_first : {outer : Bool} {n m : ℕ} {ss : List Stat} {r : Option Return} {ts : Words} → SpellsBlock kind outer n m ss r ts → (z : Word) (us : Words) → EndsBlock z.kind → FirstStat (ts ++ z ∷ us)
  block_first SpellsBlock.no_stats z us h = (z, us, refl, ends_follows h)
  block_first (SpellsBlock.return_stat p d f) z us h = (_, _, refl, return_follows)
  block_first (SpellsBlock.next_stat {ts = ts} {us = vs} d f j) z us h = let e = stat_first d in (e.0, e.1 ++ vs ++ z ∷ us, ap (λ x. x ++ vs ++ z ∷ us) e.2, e.3)

  pub else_first : {n m : ℕ} {cs : List Clause} {d : Option Block} {ts : Words} → SpellsElse kind n m cs d ts → (x : Word) × (us : Words) × (ts ≡ x ∷ us) × EndsBlock x.kind
  else_first (SpellsElse.no_else z) = (_, _, refl, end_ends)
  else_first (SpellsElse.else_block q z d) = (_, _, refl, else_ends)
  else_first (SpellsElse.else_if q d) = (_, _, refl, elseif_ends)
