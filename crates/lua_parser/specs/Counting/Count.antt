-- The counting of depth over the words of a module, one word at a time: how many constructs each word is inside of, and the height of the highest
-- expression or type that ends with it. Words that no module begins with are counted somehow.
use Rattle.std.specs.Prelude.{ℕ, ◌+◌, max, Bool, List, [], ◌∷◌, nat_le, if◌then◌else◌, codes}
use Rattle.lua_lexer.specs.declared.token.Keyword.TheVariants as w
use Rattle.lua_lexer.specs.declared.token.Symbol.TheVariants as s
use Rattle.lua_parser.specs.Words.{Word, Words, WordKind}
use Rattle.lua_parser.specs.Grammar.Levels.{level, unary_level, right_level}
use Rattle.lua_parser.specs.Grammar.Depth.{Label, Reached, at_last, at_start, word, begins, ends, reaches}
use Rattle.lua_parser.specs.Machine.Steps.{is_sign, is_key, is_text, if_name, if_text, if_binary, binary_at}
use Rattle.lua_parser.specs.Outcomes.{starter_of, is_starter, opener_of}
use Rattle.lua_parser.specs.declared.starters.Starter.{Starter}
use Rattle.lua_parser.specs.declared.starters.Starter.TheVariants as starts
use Rattle.lua_parser.specs.declared.starters.Opener.{Opener}
use Rattle.lua_parser.specs.declared.starters.Opener.TheVariants as openers
use Rattle.lua_parser.specs.declared.starters.Start.TheVariants as start_of
use Rattle.lua_parser.specs.declared.signs.Declares.{Declares}
use Rattle.lua_parser.specs.declared.signs.Declares.TheVariants.{Nothing as nothing, AnInterface as an_interface, AnAlias as an_alias}
use Rattle.lua_parser.specs.declared.signs.Tuple.TheVariants.{OfMember as of_member, OfResults as of_results, OfBody as of_body}
use Rattle.lua_parser.specs.declared.signs.Sign.{Sign}
use Rattle.lua_parser.specs.declared.signs.Sign.TheVariants.{Pass as pass, Begin as begin, Leave as leave, LeaveBody as leave_body, Grow as grow, Up as up, Note as note, Expr as expr, Operations as operations, Suffixes as suffixes, RestOfArguments as rest_of_arguments, SomeArguments as some_arguments, MoreExprs as more_exprs, ReturnValues as return_values, Entries as entries, BehindNameIn as behind_name_in, ValueOfKey as value_of_key, BehindEntry as behind_entry, ABody as a_body, Params as params, Outcome as outcome, ABlock as a_block, Clauses as clauses, ForNames as for_names, Path as path, RestOfLocal as rest_of_local, MoreNames as more_names, MaybeSemicolon as maybe_semicolon, BehindName as behind_name, RestOfStat as rest_of_stat, NextTarget as next_target, AType as a_type, AMember as a_member, Bar as bar, MoreBars as more_bars, MaybeMark as maybe_mark, Dots as dots, InBraces as in_braces, MapValue as map_value, NamedInBraces as named_in_braces, BehindField as behind_field, NextField as next_field, RestOfField as rest_of_field, InterfaceFields as interface_fields, Items as items, BehindItem as behind_item, BehindItems as behind_items, Results as results, EndOfFunction as end_of_function, BehindBar as behind_bar, BodyResults as body_results}

-- what is expected, what is next standing first; the height of the expression or type that was read last; and what is reached
pub record Count : Type 0 where
  pub expected : List Sign
  pub height : ℕ
  pub reached : Reached

abbrev pub at : List Sign → ℕ → Reached → Count
at ss h r = record { expected = ss; height = h; reached = r }

-- A type of this height ended with the word before the last.
abbrev pub before_last : ℕ → List Label → List Label
before_last h [] = []
before_last h (l ∷ ls) = l ∷ at_last h ls

abbrev pub reaches_before : ℕ → Reached → Reached
reaches_before h r = record { begun = r.begun; starting = r.starting; labels = before_last h r.labels }

-- ---- expressions

-- an operand that begins so, behind which these are expected
abbrev pub operand_by : Starter → List Sign → ℕ → Reached → Count
operand_by starts.Function ss h r = at (a_body ∷ ss) h r
operand_by starts.OpenParen ss h r = at (expr 1 ∷ pass ∷ up ∷ suffixes ∷ ss) h r
operand_by starts.OpenBrace ss h r = at (entries 0 ∷ up ∷ ss) h r
operand_by (starts.Unary o) ss h r = at (expr unary_level ∷ leave ∷ up ∷ ss) h (begins r)
operand_by starts.Name ss h r = at (suffixes ∷ ss) 1 r
operand_by x ss h r = at ss 1 r

abbrev pub operand : WordKind → List Sign → ℕ → Reached → Count
operand k ss h r = operand_by (starter_of k) ss h r

-- an operator of at least this level behind an operand, or what comes where none goes on
abbrev pub operation : ℕ → List Sign → ℕ → WordKind → Reached → Count → Count
operation l ss h k r other = if_binary (binary_at k) (λ o. if nat_le l (level o) then at (begin ∷ expr (right_level o) ∷ leave ∷ grow h ∷ operations l ∷ ss) h (reaches h r) else other) other

-- one more part of a prefix, behind which the first is expected, or what comes where none goes on
abbrev pub suffix : Sign → List Sign → ℕ → WordKind → Reached → Count → Count
suffix next ss h k r other =
    if is_sign s.Dot k then at (pass ∷ up ∷ next ∷ ss) h (reaches h r)
    else (if is_sign s.OpenBracket k then at (expr 1 ∷ pass ∷ grow h ∷ next ∷ ss) h (reaches h r)
    else (if is_sign s.Colon k then at (pass ∷ some_arguments ∷ grow h ∷ next ∷ ss) h (reaches h r)
    else (if is_sign s.OpenParen k then at (rest_of_arguments ∷ grow h ∷ next ∷ ss) h (reaches h r)
    else (if is_sign s.OpenBrace k then at (entries 0 ∷ up ∷ grow h ∷ next ∷ ss) h (reaches h r)
    else if_text k (λ x. at (grow h ∷ next ∷ ss) 1 (reaches h r)) other))))

-- what ends an entry
abbrev pub entry_end : ℕ → List Sign → ℕ → WordKind → Reached → Count
entry_end m ss h k r = if is_sign s.CloseBrace k then at ss (max m h) r else at (entries (max m h) ∷ ss) h r

-- whether an expression begins with a word of this kind
abbrev pub begins_expr : WordKind → Bool
begins_expr k = is_starter (starter_of k)

-- ---- types

-- the first word of a member of a union, behind which these are expected
abbrev pub member : WordKind → List Sign → ℕ → Reached → Count
member k ss h r =
    if is_sign s.OpenParen k then at (items of_member 0 ∷ ss) h r
    else (if is_sign s.OpenBrace k then at (in_braces ∷ maybe_mark ∷ ss) h r
    else (if is_sign s.Minus k then at (pass ∷ maybe_mark ∷ ss) 1 r
    else if_name k (λ x. at (dots ∷ maybe_mark ∷ ss) 1 r) (at (maybe_mark ∷ ss) 1 r)))

-- behind a simple type of this height, before these: a mark, or what comes where none goes on
abbrev pub marked_at : List Sign → ℕ → WordKind → Reached → Count → Count
marked_at ss h k r other = if is_sign s.Question k then at (up ∷ note ∷ ss) h (reaches h r) else other

-- behind the first member of a union, before these
abbrev pub bar_at : List Sign → ℕ → WordKind → Reached → Count → Count
bar_at ss h k r other = if is_sign s.Pipe k then at (a_member ∷ more_bars h ∷ ss) h r else other

-- where `|` was read behind a function type, before its next member
abbrev pub barred : List Sign → ℕ → WordKind → Reached → Count
barred (bar ∷ ss) h k r = member k (more_bars h ∷ ss) h r
barred (more_bars m ∷ ss) h k r = member k (more_bars (max m h) ∷ ss) h r
barred ss h k r = at ss h r

-- ---- statements

abbrev pub declares : List ℕ → Declares
declares x = if is_text x (codes "interface") then an_interface else (if is_text x (codes "typealias") then an_alias else nothing)

abbrev pub declared : Declares → List Sign → ℕ → Reached → Count
declared an_interface ss h r = at (interface_fields ∷ ss) h r
declared an_alias ss h r = at (pass ∷ a_type ∷ ss) h r
declared nothing ss h r = at ss h r

-- a statement that begins so, behind which these are expected, or what comes where none begins
abbrev pub statement_by : Opener → List ℕ → List Sign → ℕ → Reached → Count → Count
statement_by (openers.Plain start_of.Semicolon) x ss h r other = at (a_block ∷ ss) h r
statement_by (openers.Plain start_of.Break) x ss h r other = at (a_block ∷ ss) h r
statement_by (openers.Plain start_of.Do) x ss h r other = at (a_block ∷ pass ∷ leave ∷ a_block ∷ ss) h (begins r)
statement_by (openers.Plain start_of.While) x ss h r other = at (expr 1 ∷ pass ∷ a_block ∷ pass ∷ leave ∷ a_block ∷ ss) h (begins r)
statement_by (openers.Plain start_of.Repeat) x ss h r other = at (a_block ∷ pass ∷ expr 1 ∷ leave ∷ a_block ∷ ss) h (begins r)
statement_by (openers.Plain start_of.If) x ss h r other = at (expr 1 ∷ pass ∷ a_block ∷ clauses ∷ leave ∷ a_block ∷ ss) h (begins r)
statement_by (openers.Plain start_of.For) x ss h r other = at (for_names ∷ leave ∷ a_block ∷ ss) h (begins r)
statement_by (openers.Plain start_of.Function) x ss h r other = at (pass ∷ path ∷ note ∷ a_block ∷ ss) 1 r
statement_by (openers.Plain start_of.Local) x ss h r other = at (rest_of_local ∷ a_block ∷ ss) h r
statement_by openers.Return x ss h r other = at (return_values ∷ maybe_semicolon ∷ ss) h r
statement_by openers.OpenParen x ss h r other = at (expr 1 ∷ pass ∷ up ∷ rest_of_stat ∷ a_block ∷ ss) h r
statement_by openers.Name x ss h r other = at (behind_name (declares x) ∷ a_block ∷ ss) 1 r
statement_by openers.Other x ss h r other = other

abbrev pub statement : WordKind → List Sign → ℕ → Reached → Count → Count
statement k ss h r other = statement_by (opener_of k) (if_name k (λ x. x) []) ss h r other

-- behind a target or a call that stands as a statement
abbrev pub assignment : List Sign → ℕ → WordKind → Reached → Count → Count
assignment ss h k r other =
    if is_sign s.Assign k then at (expr 1 ∷ more_exprs 0 ∷ ss) h (reaches h r) else (if is_sign s.Comma k then at (next_target ∷ ss) h (reaches h r) else other)

-- ---- the whole

-- what is expected behind a word of this kind, and what is reached before it
abbrev pub meet : List Sign → ℕ → WordKind → Reached → Count
meet [] h k r = at [] h r
meet (pass ∷ ss) h k r = at ss h r
meet (begin ∷ ss) h k r = meet ss h k (begins r)
meet (leave ∷ ss) h k r = meet ss h k (ends r)
meet (leave_body ∷ ss) h k r = meet ss 1 k (ends r)
meet (grow m ∷ ss) h k r = meet ss (max m h + 1) k r
meet (up ∷ ss) h k r = meet ss (h + 1) k r
meet (note ∷ ss) h k r = meet ss h k (reaches h r)
meet (expr l ∷ ss) h k r = operand k (operations l ∷ ss) h r
meet (operations l ∷ ss) h k r = operation l ss h k r (meet ss h k (reaches h r))
meet (suffixes ∷ ss) h k r = suffix suffixes ss h k r (meet ss h k r)
meet (rest_of_arguments ∷ ss) h k r = if is_sign s.CloseParen k then at ss 0 r else operand k (operations 1 ∷ more_exprs 0 ∷ pass ∷ ss) h r
meet (some_arguments ∷ ss) h k r =
    if is_sign s.OpenParen k then at (rest_of_arguments ∷ ss) h r else (if is_sign s.OpenBrace k then at (entries 0 ∷ up ∷ ss) h r else at ss 1 r)
meet (more_exprs m ∷ ss) h k r = if is_sign s.Comma k then at (expr 1 ∷ more_exprs (max m h) ∷ ss) h r else meet ss (max m h) k r
meet (return_values ∷ ss) h k r = if begins_expr k then operand k (operations 1 ∷ more_exprs 0 ∷ ss) h r else meet ss h k r
meet (entries m ∷ ss) h k r =
    if is_sign s.CloseBrace k then at ss m r
    else (if is_sign s.OpenBracket k then at (expr 1 ∷ pass ∷ pass ∷ value_of_key m ∷ ss) h r
    else if_name k (λ x. at (behind_name_in m ∷ ss) 1 r) (operand k (operations 1 ∷ behind_entry m ∷ ss) h r))
meet (behind_name_in m ∷ ss) h k r =
    if is_sign s.Assign k then at (expr 1 ∷ behind_entry m ∷ ss) h r
    else suffix suffixes (operations 1 ∷ behind_entry m ∷ ss) h k r (operation 1 (behind_entry m ∷ ss) h k r (entry_end m ss h k (reaches h r)))
meet (value_of_key m ∷ ss) h k r = operand k (operations 1 ∷ behind_entry (max m h) ∷ ss) h r
meet (behind_entry m ∷ ss) h k r = entry_end m ss h k r
meet (a_body ∷ ss) h k r = at (params ∷ outcome ∷ a_block ∷ pass ∷ leave_body ∷ ss) h (begins r)
meet (params ∷ ss) h k r = if is_sign s.CloseParen k then at ss 0 r else (if is_sign s.Colon k then at (a_type ∷ params ∷ ss) h r else at (params ∷ ss) h r)
meet (outcome ∷ ss) h k r = if is_sign s.Colon k then at (body_results ∷ ss) h r else meet ss h k r
meet (a_block ∷ ss) h k r = statement k ss 0 r (meet ss 0 k r)
meet (clauses ∷ ss) h k r =
    if is_key w.Elseif k then at (expr 1 ∷ pass ∷ a_block ∷ clauses ∷ ss) h r else (if is_key w.Else k then at (a_block ∷ pass ∷ ss) h r else at ss h r)
meet (for_names ∷ ss) h k r =
    if is_sign s.Assign k then at (expr 1 ∷ more_exprs 0 ∷ pass ∷ a_block ∷ pass ∷ ss) h r
    else (if is_key w.In k then at (expr 1 ∷ more_exprs 0 ∷ pass ∷ a_block ∷ pass ∷ ss) h r else at (for_names ∷ ss) h r)
meet (path ∷ ss) h k r =
    if is_sign s.Dot k then at (pass ∷ up ∷ path ∷ ss) h (reaches h r)
    else (if is_sign s.Colon k then at (pass ∷ a_body ∷ ss) h (reaches h r)
    else at (params ∷ outcome ∷ a_block ∷ pass ∷ leave_body ∷ ss) h (begins (reaches h r)))
meet (rest_of_local ∷ ss) h k r = if is_key w.Function k then at (pass ∷ a_body ∷ note ∷ ss) h r else at (more_names ∷ ss) h r
meet (more_names ∷ ss) h k r =
    if is_sign s.Comma k then at (pass ∷ more_names ∷ ss) h r
    else (if is_sign s.Colon k then at (a_type ∷ more_names ∷ ss) h r
    else (if is_sign s.Assign k then at (expr 1 ∷ more_exprs 0 ∷ ss) h r else meet ss h k r))
meet (maybe_semicolon ∷ ss) h k r = if is_sign s.Semicolon k then at ss 0 r else meet ss 0 k r
meet (behind_name d ∷ ss) h k r = if_name k (λ x. declared d ss h r) (suffix rest_of_stat ss h k r (assignment ss h k r (meet ss h k (reaches h r))))
meet (rest_of_stat ∷ ss) h k r = suffix rest_of_stat ss h k r (assignment ss h k r (meet ss h k (reaches h r)))
meet (next_target ∷ ss) h k r = if_name k (λ x. at (rest_of_stat ∷ ss) 1 r) (at (expr 1 ∷ pass ∷ up ∷ rest_of_stat ∷ ss) h r)
meet (a_type ∷ ss) h k r = member k (bar ∷ ss) h r
meet (a_member ∷ ss) h k r = member k ss h r
meet (bar ∷ ss) h k r = bar_at ss h k r (meet ss h k r)
meet (more_bars m ∷ ss) h k r = if is_sign s.Pipe k then at (a_member ∷ more_bars (max m h) ∷ ss) h r else meet ss (max m h + 1) k (reaches (max m h + 1) r)
meet (maybe_mark ∷ ss) h k r = marked_at ss h k r (meet ss h k (reaches h r))
meet (dots ∷ ss) h k r = if is_sign s.Dot k then at (pass ∷ dots ∷ ss) h r else meet ss h k r
meet (in_braces ∷ ss) h k r =
    if is_sign s.CloseBrace k then at ss 1 r
    else (if is_sign s.OpenBracket k then at (a_type ∷ pass ∷ pass ∷ map_value ∷ ss) h r
    else if_name k (λ x. at (named_in_braces ∷ ss) 1 r) (member k (bar ∷ pass ∷ up ∷ ss) h r))
meet (map_value ∷ ss) h k r = member k (bar ∷ pass ∷ grow h ∷ ss) h r
meet (named_in_braces ∷ ss) h k r =
    if is_sign s.Colon k then at (a_type ∷ behind_field 0 ∷ ss) h r
    else if_name k (λ x. at (pass ∷ a_type ∷ behind_field 0 ∷ ss) h r)
    (if is_sign s.Dot k then at (pass ∷ dots ∷ maybe_mark ∷ bar ∷ pass ∷ up ∷ ss) h r
    else marked_at (bar ∷ pass ∷ up ∷ ss) h k r (bar_at (pass ∷ up ∷ ss) h k (reaches h r) (at (up ∷ ss) h (reaches h r))))
meet (behind_field m ∷ ss) h k r = if is_sign s.Comma k then at (next_field (max m h) ∷ ss) h r else at ss (max m h + 1) r
meet (next_field m ∷ ss) h k r = if is_sign s.CloseBrace k then at ss (m + 1) r else at (rest_of_field m ∷ ss) h r
meet (rest_of_field m ∷ ss) h k r = if is_sign s.Colon k then at (a_type ∷ behind_field m ∷ ss) h r else at (pass ∷ a_type ∷ behind_field m ∷ ss) h r
meet (interface_fields ∷ ss) h k r = if is_key w.End k then at ss 0 r else (if is_sign s.Colon k then at (a_type ∷ interface_fields ∷ ss) h r else at (interface_fields ∷ ss) h r)
meet (items t m ∷ ss) h k r = if is_sign s.CloseParen k then at (behind_items t m ∷ ss) 0 r else member k (bar ∷ behind_item t m ∷ ss) h r
meet (behind_item t m ∷ ss) h k r =
    if is_sign s.Comma k then at (a_type ∷ behind_item t (max m h) ∷ ss) h r else (if is_sign s.Star k then at (behind_item t m ∷ ss) h r else at (behind_items t (max m h) ∷ ss) 0 r)
meet (behind_items of_member m ∷ ss) h k r = if is_sign s.Arrow k then at (results m ∷ ss) h r else marked_at ss (m + 1) k r (meet ss (m + 1) k (reaches (m + 1) r))
meet (behind_items (of_results p) m ∷ ss) h k r = if is_sign s.Pipe k then at (behind_bar p m ∷ ss) 0 r else meet ss (max p m + 1) k (reaches (max p m + 1) r)
meet (behind_items of_body m ∷ ss) h k r = if is_sign s.Pipe k then at (pass ∷ items of_body m ∷ ss) 0 r else meet ss h k r
meet (results p ∷ ss) h k r = if is_sign s.OpenParen k then at (items (of_results p) 0 ∷ ss) 0 r else member k (bar ∷ end_of_function p ∷ ss) h r
meet (end_of_function p ∷ ss) h k r = meet ss (max p h + 1) k (reaches (max p h + 1) r)
meet (behind_bar p m ∷ ss) h k r = if is_sign s.OpenParen k then at (items (of_results p) m ∷ ss) 0 r else barred ss (max p m + 1) k (reaches_before (max p m + 1) r)
meet (body_results ∷ ss) h k r = if is_sign s.OpenParen k then at (items of_body 0 ∷ ss) 0 r else member k (bar ∷ ss) h r

-- A word is taken.
abbrev pub take : Word → Count → Count
take x c = at c.expected c.height (word x c.reached)

abbrev pub count : Words → Count → Count
count [] c = c
count (x ∷ ts) c = count ts (take x (meet c.expected c.height x.kind c.reached))

-- at a module's beginning
abbrev pub start : Count
start = at (a_block ∷ pass ∷ []) 0 at_start
