-- Single steps of the counting in expressions and statements.
use Rattle.std.proofs.Common.{◌≡◌, ℕ, ◌<◌, ◌≤◌, max, Bool, true, false, List, [], ◌∷◌, ◌++◌, Option, Some, None, refl, sym, ap, ◌∙◌}
use Rattle.std.specs.Prelude.{if◌then◌else◌, nat_le}
use Rattle.tl_base.specs.declared.place.Pos.{Pos}
use Rattle.lua_tree.specs.declared.annotation.Name.{Name}
use Rattle.lua_tree.specs.declared.syntax.UnaryOperator.{UnaryOperator}
use Rattle.lua_tree.specs.declared.syntax.UnaryOperator.TheVariants as u
use Rattle.lua_tree.specs.declared.syntax.BinaryOperator.{BinaryOperator}
use Rattle.lua_tree.specs.declared.syntax.Expr.{Expr}
use Rattle.lua_lexer.specs.declared.token.Symbol.TheVariants as s
use Rattle.lua_parser.specs.Words.{Word, Words, WordKind, mark, symbol, marked, named, quoted}
use Rattle.lua_parser.specs.Grammar.Levels.{unary_mark, binary_mark, level, unary_level, right_level}
use Rattle.lua_parser.specs.Grammar.Depth.{Reached, word, begins, reaches}
use Rattle.lua_parser.specs.Machine.Steps as machine
use Rattle.lua_parser.specs.Machine.Steps.{is_sign, is_key, if_name, if_text, if_binary, binary_at}
use Rattle.lua_parser.specs.declared.signs.Sign.{Sign}
use Rattle.lua_parser.specs.declared.signs.Sign.TheVariants.{Pass as pass, Begin as begin, Leave as leave, Grow as grow, Up as up, Expr as expr, Operations as operations, Suffixes as suffixes, RestOfArguments as rest_of_arguments, SomeArguments as some_arguments, MoreExprs as more_exprs, ReturnValues as return_values, Entries as entries, BehindNameIn as behind_name_in, ValueOfKey as value_of_key, BehindEntry as behind_entry, Outcome as outcome, ABlock as a_block, RestOfStat as rest_of_stat, NextTarget as next_target, MoreNames as more_names, MaybeSemicolon as maybe_semicolon}
use Rattle.lua_parser.specs.Counting.Count.{Count, at, operand, suffix, assignment, statement, begins_expr, meet, count}
use Rattle.lua_parser.proofs.Marks.{binary_at_mark}
use Rattle.lua_parser.proofs.Completeness.Plans.{if_false, if_true}
use Rattle.lua_parser.proofs.Completeness.Steps.{nat_le_true, nat_le_false, no_assign, if_no_name}
use Rattle.lua_parser.proofs.Completeness.Ends.{EndsBlock, Follow, Starter, starter_no_close, after_use, nil_begins, false_begins, true_begins, dots_begins, function_begins, open_begins, brace_begins, number_begins, text_begins, name_begins, unary_begins, end_ends, else_ends, elseif_ends, until_ends, finish_ends, follow_no_comma, follow_no_colon, follow_no_assign}
use Rattle.lua_parser.proofs.Completeness.Begins.{FirstExpr, used_ok}
use Rattle.lua_parser.proofs.Counting.Types.{met, over}

-- ---- operators

pub operations_end : (l : ℕ) (ss : List Sign) (h : ℕ) (r : Reached) (y : Word) (us : Words) → ((o : BinaryOperator) → binary_at y.kind ≡ Some o → level o < l) → count (y ∷ us) (at (operations l ∷ ss) h r) ≡ count (y ∷ us) (at ss h (reaches h r))
operations_end l ss h r y us f = met y us (go (binary_at y.kind) refl)
  where
    go : (z : Option BinaryOperator) → binary_at y.kind ≡ z
        → if_binary z (λ o. if nat_le l (level o) then at (begin ∷ expr (right_level o) ∷ leave ∷ grow h ∷ operations l ∷ ss) h (reaches h r) else meet ss h y.kind (reaches h r)) (meet ss h y.kind (reaches h r)) ≡ meet ss h y.kind (reaches h r)
    go (Some o) e = if_false (nat_le l (level o)) _ _ (nat_le_false l (level o) (f o e))
    go None e = refl

pub no_operations : (l : ℕ) (ss : List Sign) (h : ℕ) (r : Reached) (y : Word) (us : Words) → binary_at y.kind ≡ None → count (y ∷ us) (at (operations l ∷ ss) h r) ≡ count (y ∷ us) (at ss h (reaches h r))
no_operations l ss h r y us e = operations_end l ss h r y us (λ o f. absurd (no_operator o (sym f ∙ e)))
  where
    no_operator : (o : BinaryOperator) → ◌≡◌ {A = Option BinaryOperator} (Some o) None → ⊥
    no_operator o e = cc

pub operations_take : (l : ℕ) (ss : List Sign) (h : ℕ) (r : Reached) (q : Pos) (o : BinaryOperator) (us : Words) → l ≤ level o
    → count (marked (binary_mark o) q ∷ us) (at (operations l ∷ ss) h r) ≡ count us (at (begin ∷ expr (right_level o) ∷ leave ∷ grow h ∷ operations l ∷ ss) h (word (marked (binary_mark o) q) (reaches h r)))
operations_take l ss h r q o us f =
    met (marked (binary_mark o) q) us
    (ap (λ z. if_binary z (λ i. if nat_le l (level i) then at (begin ∷ expr (right_level i) ∷ leave ∷ grow h ∷ operations l ∷ ss) h (reaches h r) else meet ss h (mark (binary_mark o)) (reaches h r)) (meet ss h (mark (binary_mark o)) (reaches h r))) (binary_at_mark o)
    ∙ if_true (nat_le l (level o)) _ _ (nat_le_true l (level o) f))

pub enters : (ts : Words) (y : Word) (us : Words) (ss : List Sign) (h : ℕ) (r : Reached) → count (ts ++ y ∷ us) (at (begin ∷ ss) h r) ≡ count (ts ++ y ∷ us) (at ss h (begins r))
enters [] y us ss h r = refl
enters (x ∷ ts) y us ss h r = refl

pub unary_take : (l : ℕ) (ss : List Sign) (h : ℕ) (r : Reached) (p : Pos) (o : UnaryOperator) (us : Words)
    → count (marked (unary_mark o) p ∷ us) (at (expr l ∷ ss) h r) ≡ count us (at (expr unary_level ∷ leave ∷ up ∷ operations l ∷ ss) h (word (marked (unary_mark o) p) (begins r)))
unary_take l ss h r p u.Not us = refl
unary_take l ss h r p u.Length us = refl
unary_take l ss h r p u.Negate us = refl
unary_take l ss h r p u.BitNot us = refl

-- ---- parts of prefixes

-- the two places where a prefix is read on: in an expression, and at the beginning of a statement
abbrev pub loop : Bool → Sign
loop true = suffixes
loop false = rest_of_stat

pub loop_dot : (b : Bool) (q : Pos) (us : Words) (ss : List Sign) (h : ℕ) (r : Reached) → count (symbol s.Dot q ∷ us) (at (loop b ∷ ss) h r) ≡ count us (at (pass ∷ up ∷ loop b ∷ ss) h (word (symbol s.Dot q) (reaches h r)))
loop_dot true q us ss h r = refl
loop_dot false q us ss h r = refl

pub loop_bracket : (b : Bool) (q : Pos) (us : Words) (ss : List Sign) (h : ℕ) (r : Reached)
    → count (symbol s.OpenBracket q ∷ us) (at (loop b ∷ ss) h r) ≡ count us (at (expr 1 ∷ pass ∷ grow h ∷ loop b ∷ ss) h (word (symbol s.OpenBracket q) (reaches h r)))
loop_bracket true q us ss h r = refl
loop_bracket false q us ss h r = refl

pub loop_colon : (b : Bool) (q : Pos) (us : Words) (ss : List Sign) (h : ℕ) (r : Reached)
    → count (symbol s.Colon q ∷ us) (at (loop b ∷ ss) h r) ≡ count us (at (pass ∷ some_arguments ∷ grow h ∷ loop b ∷ ss) h (word (symbol s.Colon q) (reaches h r)))
loop_colon true q us ss h r = refl
loop_colon false q us ss h r = refl

pub loop_open : (b : Bool) (q : Pos) (us : Words) (ss : List Sign) (h : ℕ) (r : Reached)
    → count (symbol s.OpenParen q ∷ us) (at (loop b ∷ ss) h r) ≡ count us (at (rest_of_arguments ∷ grow h ∷ loop b ∷ ss) h (word (symbol s.OpenParen q) (reaches h r)))
loop_open true q us ss h r = refl
loop_open false q us ss h r = refl

pub loop_brace : (b : Bool) (q : Pos) (us : Words) (ss : List Sign) (h : ℕ) (r : Reached)
    → count (symbol s.OpenBrace q ∷ us) (at (loop b ∷ ss) h r) ≡ count us (at (entries 0 ∷ up ∷ grow h ∷ loop b ∷ ss) h (word (symbol s.OpenBrace q) (reaches h r)))
loop_brace true q us ss h r = refl
loop_brace false q us ss h r = refl

pub loop_text : (b : Bool) (x : List ℕ) (q : Pos) (us : Words) (ss : List Sign) (h : ℕ) (r : Reached) → count (quoted x q ∷ us) (at (loop b ∷ ss) h r) ≡ count us (at (grow h ∷ loop b ∷ ss) 1 (word (quoted x q) (reaches h r)))
loop_text true x q us ss h r = refl
loop_text false x q us ss h r = refl

no_some : {A : Type 0} (a : A) → ◌≡◌ {A = Option A} (Some a) None → ⊥
no_some a e = cc

no_text : {A : Type 0} (k : WordKind) (f : List ℕ → A) (g : List ℕ → Count) (other : Count) → if_text k (λ x. Some (f x)) None ≡ None → if_text k g other ≡ other
no_text (WordKind.text x) f g other d = absurd (no_some (f x) d)
no_text (WordKind.name x) f g other d = refl
no_text (WordKind.number x) f g other d = refl
no_text (mark x) f g other d = refl

-- where none of five tests holds and no text stands
none_holds : {A : Type 0} (c1 c2 c3 c4 c5 : Count) (a1 a2 a3 a4 a5 : A) (f : List ℕ → A) (g : List ℕ → Count) (other : Count) (k : WordKind) (b1 b2 b3 b4 b5 : Bool)
    → (if b1 then Some a1 else (if b2 then Some a2 else (if b3 then Some a3 else (if b4 then Some a4 else (if b5 then Some a5 else if_text k (λ x. Some (f x)) None))))) ≡ None
    → (if b1 then c1 else (if b2 then c2 else (if b3 then c3 else (if b4 then c4 else (if b5 then c5 else if_text k g other))))) ≡ other
none_holds c1 c2 c3 c4 c5 a1 a2 a3 a4 a5 f g other k true b2 b3 b4 b5 d = absurd (no_some a1 d)
none_holds c1 c2 c3 c4 c5 a1 a2 a3 a4 a5 f g other k false true b3 b4 b5 d = absurd (no_some a2 d)
none_holds c1 c2 c3 c4 c5 a1 a2 a3 a4 a5 f g other k false false true b4 b5 d = absurd (no_some a3 d)
none_holds c1 c2 c3 c4 c5 a1 a2 a3 a4 a5 f g other k false false false true b5 d = absurd (no_some a4 d)
none_holds c1 c2 c3 c4 c5 a1 a2 a3 a4 a5 f g other k false false false false true d = absurd (no_some a5 d)
none_holds c1 c2 c3 c4 c5 a1 a2 a3 a4 a5 f g other k false false false false false d = no_text k f g other d

-- a word that goes on with no prefix
pub no_suffix : (next : Sign) (ss : List Sign) (h : ℕ) (k : WordKind) (r : Reached) (other : Count) (a : Expr) (n : ℕ) (p : Pos) → machine.suffix a n p k ≡ None → suffix next ss h k r other ≡ other
no_suffix next ss h k r other a n p e =
    none_holds (at (pass ∷ up ∷ next ∷ ss) h (reaches h r)) (at (expr 1 ∷ pass ∷ grow h ∷ next ∷ ss) h (reaches h r)) (at (pass ∷ some_arguments ∷ grow h ∷ next ∷ ss) h (reaches h r)) (at (rest_of_arguments ∷ grow h ∷ next ∷ ss) h (reaches h r))
    (at (entries 0 ∷ up ∷ grow h ∷ next ∷ ss) h (reaches h r)) _ _ _ _ _ _ (λ x. at (grow h ∷ next ∷ ss) 1 (reaches h r)) other k (is_sign s.Dot k) (is_sign s.OpenBracket k) (is_sign s.Colon k) (is_sign s.OpenParen k) (is_sign s.OpenBrace k) e

pub suffixes_end : (ss : List Sign) (h : ℕ) (r : Reached) (y : Word) (us : Words) → ((a : Expr) (n : ℕ) (p : Pos) → machine.suffix a n p y.kind ≡ None) → (a : Expr) → count (y ∷ us) (at (suffixes ∷ ss) h r) ≡ count (y ∷ us) (at ss h r)
suffixes_end ss h r y us f a = met y us (no_suffix suffixes ss h y.kind r (meet ss h y.kind r) a 0 y.pos (f a 0 y.pos))

-- the end of a call that stands as a statement
pub call_end : (ss : List Sign) (h : ℕ) (r : Reached) (y : Word) (us : Words) → ((a : Expr) (n : ℕ) (p : Pos) → machine.suffix a n p y.kind ≡ None) → (a : Expr) → Follow y.kind → count (y ∷ us) (at (rest_of_stat ∷ ss) h r) ≡ count (y ∷ us) (at ss h (reaches h r))
call_end ss h r y us f a g =
    met y us (no_suffix rest_of_stat ss h y.kind r (assignment ss h y.kind r (meet ss h y.kind (reaches h r))) a 0 y.pos (f a 0 y.pos)
    ∙ if_false (is_sign s.Assign y.kind) _ _ (follow_no_assign g) ∙ if_false (is_sign s.Comma y.kind) _ _ (follow_no_comma g))

-- ---- lists of expressions

pub more_end : (ss : List Sign) (m h : ℕ) (r : Reached) (y : Word) (us : Words) → is_sign s.Comma y.kind ≡ false → count (y ∷ us) (at (more_exprs m ∷ ss) h r) ≡ count (y ∷ us) (at ss (max m h) r)
more_end ss m h r y us e = met y us (if_false (is_sign s.Comma y.kind) _ _ e)

pub arguments_as : (ts us : Words) (ss : List Sign) (h : ℕ) (r : Reached) → FirstExpr ts → count (ts ++ us) (at (rest_of_arguments ∷ ss) h r) ≡ count (ts ++ us) (at (expr 1 ∷ more_exprs 0 ∷ pass ∷ ss) h r)
arguments_as ts us ss h r f =
    let d = ap (λ z. z ++ us) f.2 in
    over (rest_of_arguments ∷ ss) h r d ∙ met f.0 (f.1 ++ us) (if_false (is_sign s.CloseParen f.0.kind) _ (operand f.0.kind (operations 1 ∷ more_exprs 0 ∷ pass ∷ ss) h r) (starter_no_close f.3)) ∙ sym (over (expr 1 ∷ more_exprs 0 ∷ pass ∷ ss) h r d)

starter_begins : {k : WordKind} → Starter k → begins_expr k ≡ true
starter_begins nil_begins = refl
starter_begins false_begins = refl
starter_begins true_begins = refl
starter_begins dots_begins = refl
starter_begins function_begins = refl
starter_begins open_begins = refl
starter_begins brace_begins = refl
starter_begins (number_begins i) = refl
starter_begins (text_begins x) = refl
starter_begins (name_begins x) = refl
starter_begins (unary_begins u.Not) = refl
starter_begins (unary_begins u.Length) = refl
starter_begins (unary_begins u.Negate) = refl
starter_begins (unary_begins u.BitNot) = refl

pub values_as : (ts us : Words) (ss : List Sign) (h : ℕ) (r : Reached) → FirstExpr ts → count (ts ++ us) (at (return_values ∷ ss) h r) ≡ count (ts ++ us) (at (expr 1 ∷ more_exprs 0 ∷ ss) h r)
values_as ts us ss h r f =
    let d = ap (λ z. z ++ us) f.2 in
    over (return_values ∷ ss) h r d ∙ met f.0 (f.1 ++ us) (if_true (begins_expr f.0.kind) (operand f.0.kind (operations 1 ∷ more_exprs 0 ∷ ss) h r) _ (starter_begins f.3)) ∙ sym (over (expr 1 ∷ more_exprs 0 ∷ ss) h r d)

pub no_values : (ss : List Sign) (h : ℕ) (r : Reached) (y : Word) (us : Words) → begins_expr y.kind ≡ false → count (y ∷ us) (at (return_values ∷ ss) h r) ≡ count (y ∷ us) (at ss h r)
no_values ss h r y us e = met y us (if_false (begins_expr y.kind) _ _ e)

pub ends_no_values : {k : WordKind} → EndsBlock k → begins_expr k ≡ false
ends_no_values end_ends = refl
ends_no_values else_ends = refl
ends_no_values elseif_ends = refl
ends_no_values until_ends = refl
ends_no_values finish_ends = refl

pub ends_no_statement : {k : WordKind} → EndsBlock k → (ss : List Sign) (h : ℕ) (r : Reached) (other : Count) → statement k ss h r other ≡ other
ends_no_statement end_ends ss h r other = refl
ends_no_statement else_ends ss h r other = refl
ends_no_statement elseif_ends ss h r other = refl
ends_no_statement until_ends ss h r other = refl
ends_no_statement finish_ends ss h r other = refl

pub block_end : (ss : List Sign) (h : ℕ) (r : Reached) (y : Word) (us : Words) → EndsBlock y.kind → count (y ∷ us) (at (a_block ∷ ss) h r) ≡ count (y ∷ us) (at ss 0 r)
block_end ss h r y us f = met y us (ends_no_statement f ss 0 r (meet ss 0 y.kind r))

pub no_semicolon : (ss : List Sign) (h : ℕ) (r : Reached) (y : Word) (us : Words) → is_sign s.Semicolon y.kind ≡ false → count (y ∷ us) (at (maybe_semicolon ∷ ss) h r) ≡ count (y ∷ us) (at ss 0 r)
no_semicolon ss h r y us e = met y us (if_false (is_sign s.Semicolon y.kind) _ _ e)

pub names_end : (ss : List Sign) (h : ℕ) (r : Reached) (y : Word) (us : Words) → Follow y.kind → count (y ∷ us) (at (more_names ∷ ss) h r) ≡ count (y ∷ us) (at ss h r)
names_end ss h r y us f = met y us (if_false (is_sign s.Comma y.kind) _ _ (follow_no_comma f) ∙ if_false (is_sign s.Colon y.kind) _ _ (follow_no_colon f) ∙ if_false (is_sign s.Assign y.kind) _ _ (follow_no_assign f))

pub no_outcome : (ss : List Sign) (h : ℕ) (r : Reached) (y : Word) (us : Words) → is_sign s.Colon y.kind ≡ false → count (y ∷ us) (at (outcome ∷ ss) h r) ≡ count (y ∷ us) (at ss h r)
no_outcome ss h r y us e = met y us (if_false (is_sign s.Colon y.kind) _ _ e)

-- ---- entries

named_item : (m : ℕ) (ss : List Sign) (h : ℕ) (r : Reached) (y : Word) (us : Words) → after_use y.kind ≡ true → count (y ∷ us) (at (behind_name_in m ∷ ss) h r) ≡ count (y ∷ us) (at (suffixes ∷ operations 1 ∷ behind_entry m ∷ ss) h r)
named_item m ss h r y us e = met y us (if_false (is_sign s.Assign y.kind) _ _ (no_assign y.kind y.pos e))

named_before : (m : ℕ) (ss : List Sign) (h : ℕ) (r : Reached) (vs : Words) (y : Word) (us : Words) → used_ok vs ≡ true → after_use y.kind ≡ true
    → count (vs ++ y ∷ us) (at (behind_name_in m ∷ ss) h r) ≡ count (vs ++ y ∷ us) (at (suffixes ∷ operations 1 ∷ behind_entry m ∷ ss) h r)
named_before m ss h r [] y us d e = named_item m ss h r y us e
named_before m ss h r (z ∷ vs) y us d e = named_item m ss h r z (vs ++ y ∷ us) d

item_at : {k : WordKind} (p : Pos) (m : ℕ) (ss : List Sign) (h : ℕ) (r : Reached) (vs : Words) (y : Word) (us : Words) → Starter k → ((x : List ℕ) → k ≡ WordKind.name x → used_ok vs ≡ true) → after_use y.kind ≡ true
    → count (record { kind = k; pos = p } ∷ vs ++ y ∷ us) (at (entries m ∷ ss) h r) ≡ count (record { kind = k; pos = p } ∷ vs ++ y ∷ us) (at (expr 1 ∷ behind_entry m ∷ ss) h r)
item_at p m ss h r vs y us nil_begins f g = refl
item_at p m ss h r vs y us false_begins f g = refl
item_at p m ss h r vs y us true_begins f g = refl
item_at p m ss h r vs y us dots_begins f g = refl
item_at p m ss h r vs y us function_begins f g = refl
item_at p m ss h r vs y us open_begins f g = refl
item_at p m ss h r vs y us brace_begins f g = refl
item_at p m ss h r vs y us (number_begins i) f g = refl
item_at p m ss h r vs y us (text_begins x) f g = refl
item_at p m ss h r vs y us (name_begins x) f g = named_before m ss 1 _ vs y us (f x refl) g
item_at p m ss h r vs y us (unary_begins u.Not) f g = refl
item_at p m ss h r vs y us (unary_begins u.Length) f g = refl
item_at p m ss h r vs y us (unary_begins u.Negate) f g = refl
item_at p m ss h r vs y us (unary_begins u.BitNot) f g = refl

pub item_as : (m : ℕ) (ts : Words) (y : Word) (us : Words) (ss : List Sign) (h : ℕ) (r : Reached) → FirstExpr ts → after_use y.kind ≡ true → count (ts ++ y ∷ us) (at (entries m ∷ ss) h r) ≡ count (ts ++ y ∷ us) (at (expr 1 ∷ behind_entry m ∷ ss) h r)
item_as m ts y us ss h r f g =
    let d = ap (λ z. z ++ y ∷ us) f.2 in
    over (entries m ∷ ss) h r d ∙ item_at f.0.pos m ss h r f.1 y us f.3 f.4 g ∙ sym (over (expr 1 ∷ behind_entry m ∷ ss) h r d)

pub value_as : (m : ℕ) (ts : Words) (y : Word) (us : Words) (ss : List Sign) (h : ℕ) (r : Reached) → count (ts ++ y ∷ us) (at (value_of_key m ∷ ss) h r) ≡ count (ts ++ y ∷ us) (at (expr 1 ∷ behind_entry (max m h) ∷ ss) h r)
value_as m [] y us ss h r = refl
value_as m (x ∷ ts) y us ss h r = refl

-- ---- where prefixes begin

pub record Head (b : Bool) (ss : List Sign) : Type 0 where
  pub first : List Sign
  pub good : Word → Bool
  pub good_used : (z : Word) → after_use z.kind ≡ true → good z ≡ true
  pub opened : ℕ → ℕ
  pub at_name : (h : ℕ) (r : Reached) (x : Name) (z : Word) (us : Words) → good z ≡ true → count (named x ∷ z ∷ us) (at first h r) ≡ count (z ∷ us) (at (loop b ∷ ss) 1 (word (named x) r))
  pub at_open : (h : ℕ) (r : Reached) (p : Pos) (us : Words) → count (symbol s.OpenParen p ∷ us) (at first h r) ≡ count us (at (expr 1 ∷ pass ∷ up ∷ loop b ∷ ss) (opened h) (word (symbol s.OpenParen p) r))

abbrev pub expr_head : (l : ℕ) (ss : List Sign) → Head true (operations l ∷ ss)
expr_head l ss = record { first = expr l ∷ ss; good = λ z. true; good_used = λ z e. refl; opened = λ h. h; at_name = λ h r x z us e. refl; at_open = λ h r p us. refl }

abbrev pub target_head : (ss : List Sign) → Head false ss
target_head ss = record { first = next_target ∷ ss; good = λ z. true; good_used = λ z e. refl; opened = λ h. h; at_name = λ h r x z us e. refl; at_open = λ h r p us. refl }

abbrev pub is_no_name : Word → Bool
is_no_name z = if_name z.kind (λ n. false) true

pub used_no_name : (k : WordKind) → after_use k ≡ true → if_name k (λ n. false) true ≡ true
used_no_name (WordKind.name x) e = cc
used_no_name (mark x) e = refl
used_no_name (WordKind.number x) e = refl
used_no_name (WordKind.text x) e = refl

abbrev pub stat_head : (ss : List Sign) → Head false (a_block ∷ ss)
stat_head ss = record {
  first = a_block ∷ ss;
  good = is_no_name;
  good_used = λ z e. used_no_name z.kind e;
  opened = λ h. 0;
  at_name = λ h r x z us e. met z us (if_no_name z.kind _ (meet (rest_of_stat ∷ a_block ∷ ss) 1 z.kind (word (named x) r)) e);
  at_open = λ h r p us. refl;
}
