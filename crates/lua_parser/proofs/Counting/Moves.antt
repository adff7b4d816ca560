-- What a word changes of the labels of the words before it.
use Rattle.std.proofs.Common.{ℕ, ◌+◌, ◌≤◌, max, Bool, true, false, List, [], ◌∷◌, Option, Some, None, arith}
use Rattle.std.specs.Prelude.{if◌then◌else◌, nat_le}
use Rattle.lua_tree.specs.declared.syntax.BinaryOperator.{BinaryOperator}
use Rattle.lua_lexer.specs.declared.token.Keyword.TheVariants as w
use Rattle.lua_lexer.specs.declared.token.Symbol.TheVariants as s
use Rattle.lua_parser.specs.Words.{WordKind, mark}
use Rattle.lua_parser.specs.Grammar.Levels.{level}
use Rattle.lua_parser.specs.Grammar.Depth.{Reached, begins, ends, reaches}
use Rattle.lua_parser.specs.Machine.Steps.{is_sign, is_key, if_name, if_text, if_binary, binary_at}
use Rattle.lua_parser.specs.declared.signs.Declares.{Declares}
use Rattle.lua_parser.specs.declared.signs.Declares.TheVariants.{Nothing as nothing, AnInterface as an_interface, AnAlias as an_alias}
use Rattle.lua_parser.specs.declared.signs.Tuple.TheVariants.{OfMember as of_member, OfResults as of_results, OfBody as of_body}
use Rattle.lua_parser.specs.declared.signs.Sign.{Sign}
use Rattle.lua_parser.specs.declared.signs.Sign.TheVariants.{Pass as pass, Begin as begin, Leave as leave, LeaveBody as leave_body, Grow as grow, Up as up, Note as note, Expr as expr, Operations as operations, Suffixes as suffixes, RestOfArguments as rest_of_arguments, SomeArguments as some_arguments, MoreExprs as more_exprs, ReturnValues as return_values, Entries as entries, BehindNameIn as behind_name_in, ValueOfKey as value_of_key, BehindEntry as behind_entry, ABody as a_body, Params as params, Outcome as outcome, ABlock as a_block, Clauses as clauses, ForNames as for_names, Path as path, RestOfLocal as rest_of_local, MoreNames as more_names, MaybeSemicolon as maybe_semicolon, BehindName as behind_name, RestOfStat as rest_of_stat, NextTarget as next_target, AType as a_type, AMember as a_member, Bar as bar, MoreBars as more_bars, MaybeMark as maybe_mark, Dots as dots, InBraces as in_braces, MapValue as map_value, NamedInBraces as named_in_braces, BehindField as behind_field, NextField as next_field, RestOfField as rest_of_field, InterfaceFields as interface_fields, Items as items, BehindItem as behind_item, BehindItems as behind_items, Results as results, EndOfFunction as end_of_function, BehindBar as behind_bar, BodyResults as body_results}
use Rattle.lua_parser.specs.Outcomes.{starter_of, opener_of}
use Rattle.lua_parser.specs.declared.starters.Starter.{Starter}
use Rattle.lua_parser.specs.declared.starters.Starter.TheVariants as starts
use Rattle.lua_parser.specs.declared.starters.Opener.{Opener}
use Rattle.lua_parser.specs.declared.starters.Opener.TheVariants as openers
use Rattle.lua_parser.specs.declared.starters.Start.TheVariants as start_of
use Rattle.lua_parser.specs.Counting.Count.{Count, at, reaches_before, operand_by, operand, operation, suffix, entry_end, begins_expr, member, marked_at, bar_at, barred, declared, statement_by, statement, assignment, meet}
use Rattle.lua_parser.specs.Counting.Most.{tells, passes, most_from, most, bars}

-- ---- heights

left : (x y b : ℕ) → max x y ≤ b → x ≤ b
left x y b f = grind arith

right : (x y b : ℕ) → max x y ≤ b → y ≤ b
right x y b f = grind arith

-- ---- steps: heights up to the first number are told of the last word, up to the second of the one before

pub data Moves (b c : ℕ) : Reached → Reached → Type 0 where
  stays : {r : Reached} → Moves b c r r
  begun : {r u : Reached} → Moves b c (begins r) u → Moves b c r u
  ended : {r u : Reached} → Moves b c (ends r) u → Moves b c r u
  told : {r u : Reached} (h : ℕ) → h ≤ b → Moves b c (reaches h r) u → Moves b c r u
  told_before : {r u : Reached} (h : ℕ) → h ≤ c → Moves b c (reaches_before h r) u → Moves b c r u

-- What is counted from here is such a step, and what it expects of the word before is no more than the first number.
pub record Fits (b c : ℕ) (r : Reached) (v : Count) : Type 0 where
  pub moves : Moves b c r v.reached
  pub within : bars v.expected ≤ b

module _ {b : ℕ} where
  rest : (x : Sign) (ss : List Sign) → bars (x ∷ ss) ≤ b → bars ss ≤ b
  rest (behind_bar p m) ss f = grind arith
  rest x ss f = f

  first : (p m : ℕ) (ss : List Sign) → bars (behind_bar p m ∷ ss) ≤ b → max p m + 1 ≤ b
  first p m ss f = grind arith

  nested : (ss : List Sign) (n : ℕ) → bars ss ≤ b → n ≤ b → max n (bars ss) ≤ b
  nested ss n f g = grind arith

  -- what a sign tells is no more than what may be told, and neither is what those behind it tell
  so : (x : Sign) (ss : List Sign) (h : ℕ) → most (x ∷ ss) h ≤ b → tells x h ≤ b
  so x ss h f = left (tells x h) (most_from (passes x h) ss) b f

  on : (x : Sign) (ss : List Sign) (h : ℕ) → most (x ∷ ss) h ≤ b → most_from (passes x h) ss ≤ b
  on x ss h f = right (tells x h) (most_from (passes x h) ss) b f

module _ {b c : ℕ} where
  leaf : {r : Reached} (ss : List Sign) (h : ℕ) → bars ss ≤ b → Fits b c r (at ss h r)
  leaf ss h f = record { moves = stays; within = f }

  to_begin : {r : Reached} {v : Count} → Fits b c (begins r) v → Fits b c r v
  to_begin f = record { moves = begun f.moves; within = f.within }

  to_end : {r : Reached} {v : Count} → Fits b c (ends r) v → Fits b c r v
  to_end f = record { moves = ended f.moves; within = f.within }

  to_tell : {r : Reached} {v : Count} (h : ℕ) → h ≤ b → Fits b c (reaches h r) v → Fits b c r v
  to_tell h l f = record { moves = told h l f.moves; within = f.within }

  to_tell_before : {r : Reached} {v : Count} (h : ℕ) → h ≤ c → Fits b c (reaches_before h r) v → Fits b c r v
  to_tell_before h l f = record { moves = told_before h l f.moves; within = f.within }

  if_fits : {r : Reached} {u v : Count} (d : Bool) → Fits b c r u → Fits b c r v → Fits b c r (if d then u else v)
  if_fits true f g = f
  if_fits false f g = g

  name_fits : {r : Reached} {v : Count} (k : WordKind) (u : List ℕ → Count) → ((x : List ℕ) → Fits b c r (u x)) → Fits b c r v → Fits b c r (if_name k u v)
  name_fits (WordKind.name x) u f g = f x
  name_fits (mark x) u f g = g
  name_fits (WordKind.number x) u f g = g
  name_fits (WordKind.text x) u f g = g

  text_fits : {r : Reached} {v : Count} (k : WordKind) (u : List ℕ → Count) → ((x : List ℕ) → Fits b c r (u x)) → Fits b c r v → Fits b c r (if_text k u v)
  text_fits (WordKind.text x) u f g = f x
  text_fits (mark x) u f g = g
  text_fits (WordKind.number x) u f g = g
  text_fits (WordKind.name x) u f g = g

  binary_fits : {r : Reached} {v : Count} (o : Option BinaryOperator) (u : BinaryOperator → Count) → ((x : BinaryOperator) → Fits b c r (u x)) → Fits b c r v → Fits b c r (if_binary o u v)
  binary_fits (Some x) u f g = f x
  binary_fits None u f g = g

  operand_by_fits : (x : Starter) (ss : List Sign) (h : ℕ) (r : Reached) → bars ss ≤ b → Fits b c r (operand_by x ss h r)
  operand_by_fits starts.Function ss h r f = leaf _ h f
  operand_by_fits starts.OpenParen ss h r f = leaf _ h f
  operand_by_fits starts.OpenBrace ss h r f = leaf _ h f
  operand_by_fits (starts.Unary o) ss h r f = to_begin (leaf _ h f)
  operand_by_fits starts.Name ss h r f = leaf _ 1 f
  operand_by_fits x ss h r f = leaf ss 1 f

  operand_fits : (k : WordKind) (ss : List Sign) (h : ℕ) (r : Reached) → bars ss ≤ b → Fits b c r (operand k ss h r)
  operand_fits k ss h r f = operand_by_fits (starter_of k) ss h r f

  operation_fits : (l : ℕ) (ss : List Sign) (h : ℕ) (k : WordKind) (r : Reached) (v : Count) → bars ss ≤ b → h ≤ b → Fits b c r v → Fits b c r (operation l ss h k r v)
  operation_fits l ss h k r v f g i = binary_fits (binary_at k) _ (λ o. if_fits (nat_le l (level o)) (to_tell h g (leaf _ h f)) i) i

  suffix_fits : (next : Sign) (ss : List Sign) (h : ℕ) (k : WordKind) (r : Reached) (v : Count) → bars (next ∷ ss) ≤ b → h ≤ b → Fits b c r v → Fits b c r (suffix next ss h k r v)
  suffix_fits next ss h k r v f g i =
      if_fits (is_sign s.Dot k) (to_tell h g (leaf _ h f)) (if_fits (is_sign s.OpenBracket k) (to_tell h g (leaf _ h f)) (if_fits (is_sign s.Colon k) (to_tell h g (leaf _ h f))
      (if_fits (is_sign s.OpenParen k) (to_tell h g (leaf _ h f)) (if_fits (is_sign s.OpenBrace k) (to_tell h g (leaf _ h f)) (text_fits k _ (λ x. to_tell h g (leaf _ 1 f)) i)))))

  entry_fits : (m : ℕ) (ss : List Sign) (h : ℕ) (k : WordKind) (r : Reached) → bars ss ≤ b → Fits b c r (entry_end m ss h k r)
  entry_fits m ss h k r f = if_fits (is_sign s.CloseBrace k) (leaf ss _ f) (leaf _ h f)

  member_fits : (k : WordKind) (ss : List Sign) (h : ℕ) (r : Reached) → bars ss ≤ b → Fits b c r (member k ss h r)
  member_fits k ss h r f = if_fits (is_sign s.OpenParen k) (leaf _ h f) (if_fits (is_sign s.OpenBrace k) (leaf _ h f) (if_fits (is_sign s.Minus k) (leaf _ 1 f) (name_fits k _ (λ x. leaf _ 1 f) (leaf _ 1 f))))

  marked_fits : (ss : List Sign) (h : ℕ) (k : WordKind) (r : Reached) (v : Count) → bars ss ≤ b → h ≤ b → Fits b c r v → Fits b c r (marked_at ss h k r v)
  marked_fits ss h k r v f g i = if_fits (is_sign s.Question k) (to_tell h g (leaf _ h f)) i

  bar_at_fits : (ss : List Sign) (h : ℕ) (k : WordKind) (r : Reached) (v : Count) → bars ss ≤ b → Fits b c r v → Fits b c r (bar_at ss h k r v)
  bar_at_fits ss h k r v f i = if_fits (is_sign s.Pipe k) (leaf _ h f) i

  barred_fits : (ss : List Sign) (h : ℕ) (k : WordKind) (r : Reached) → bars ss ≤ b → Fits b c r (barred ss h k r)
  barred_fits [] h k r f = leaf [] h f
  barred_fits (bar ∷ ss) h k r f = member_fits k _ h r f
  barred_fits (more_bars m ∷ ss) h k r f = member_fits k _ h r f
  barred_fits (x ∷ ss) h k r f = leaf (x ∷ ss) h f

  declared_fits : (d : Declares) (ss : List Sign) (h : ℕ) (r : Reached) → bars ss ≤ b → Fits b c r (declared d ss h r)
  declared_fits an_interface ss h r f = leaf _ h f
  declared_fits an_alias ss h r f = leaf _ h f
  declared_fits nothing ss h r f = leaf ss h f

  statement_by_fits : (z : Opener) (x : List ℕ) (ss : List Sign) (h : ℕ) (r : Reached) (v : Count) → bars ss ≤ b → Fits b c r v → Fits b c r (statement_by z x ss h r v)
  statement_by_fits (openers.Plain start_of.Semicolon) x ss h r v f g = leaf _ h f
  statement_by_fits (openers.Plain start_of.Break) x ss h r v f g = leaf _ h f
  statement_by_fits (openers.Plain start_of.Do) x ss h r v f g = to_begin (leaf _ h f)
  statement_by_fits (openers.Plain start_of.While) x ss h r v f g = to_begin (leaf _ h f)
  statement_by_fits (openers.Plain start_of.Repeat) x ss h r v f g = to_begin (leaf _ h f)
  statement_by_fits (openers.Plain start_of.If) x ss h r v f g = to_begin (leaf _ h f)
  statement_by_fits (openers.Plain start_of.For) x ss h r v f g = to_begin (leaf _ h f)
  statement_by_fits (openers.Plain start_of.Function) x ss h r v f g = leaf _ 1 f
  statement_by_fits (openers.Plain start_of.Local) x ss h r v f g = leaf _ h f
  statement_by_fits openers.Return x ss h r v f g = leaf _ h f
  statement_by_fits openers.OpenParen x ss h r v f g = leaf _ h f
  statement_by_fits openers.Name x ss h r v f g = leaf _ 1 f
  statement_by_fits openers.Other x ss h r v f g = g

  statement_fits : (k : WordKind) (ss : List Sign) (h : ℕ) (r : Reached) (v : Count) → bars ss ≤ b → Fits b c r v → Fits b c r (statement k ss h r v)
  statement_fits k ss h r v f g = statement_by_fits (opener_of k) (if_name k (λ x. x) []) ss h r v f g

  assignment_fits : (ss : List Sign) (h : ℕ) (k : WordKind) (r : Reached) (v : Count) → bars ss ≤ b → h ≤ b → Fits b c r v → Fits b c r (assignment ss h k r v)
  assignment_fits ss h k r v f g i = if_fits (is_sign s.Assign k) (to_tell h g (leaf _ h f)) (if_fits (is_sign s.Comma k) (to_tell h g (leaf _ h f)) i)

module _ {b c : ℕ} (e : c ≤ b) where
  under : (x : Sign) (ss : List Sign) → bars (x ∷ ss) ≤ c → bars ss ≤ b
  under x ss g = let r = rest x ss g in omega (arith, r, e)

  pub meet_fits : (ss : List Sign) (h : ℕ) (k : WordKind) (r : Reached) → most ss h ≤ b → bars ss ≤ c → Fits b c r (meet ss h k r)
  meet_fits [] h k r f g = leaf [] h (omega (arith, g, e))
  meet_fits (pass ∷ ss) h k r f g = leaf ss h (under pass ss g)
  meet_fits (begin ∷ ss) h k r f g = to_begin (meet_fits ss h k (begins r) (on begin ss h f) (rest begin ss g))
  meet_fits (leave ∷ ss) h k r f g = to_end (meet_fits ss h k (ends r) (on leave ss h f) (rest leave ss g))
  meet_fits (leave_body ∷ ss) h k r f g = to_end (meet_fits ss 1 k (ends r) (on leave_body ss h f) (rest leave_body ss g))
  meet_fits (grow m ∷ ss) h k r f g = meet_fits ss (max m h + 1) k r (on (grow m) ss h f) (rest (grow m) ss g)
  meet_fits (up ∷ ss) h k r f g = meet_fits ss (h + 1) k r (on up ss h f) (rest up ss g)
  meet_fits (note ∷ ss) h k r f g = to_tell h (so note ss h f) (meet_fits ss h k (reaches h r) (on note ss h f) (rest note ss g))
  meet_fits (expr l ∷ ss) h k r f g = operand_fits k _ h r (under (expr l) ss g)
  meet_fits (operations l ∷ ss) h k r f g =
      operation_fits l ss h k r _ (under (operations l) ss g) (so (operations l) ss h f) (to_tell h (so (operations l) ss h f) (meet_fits ss h k (reaches h r) (on (operations l) ss h f) (rest (operations l) ss g)))
  meet_fits (suffixes ∷ ss) h k r f g = suffix_fits suffixes ss h k r _ (under suffixes ss g) (so suffixes ss h f) (meet_fits ss h k r (on suffixes ss h f) (rest suffixes ss g))
  meet_fits (rest_of_arguments ∷ ss) h k r f g = let u = under rest_of_arguments ss g in if_fits (is_sign s.CloseParen k) (leaf ss 0 u) (operand_fits k _ h r u)
  meet_fits (some_arguments ∷ ss) h k r f g = let u = under some_arguments ss g in if_fits (is_sign s.OpenParen k) (leaf _ h u) (if_fits (is_sign s.OpenBrace k) (leaf _ h u) (leaf ss 1 u))
  meet_fits (more_exprs m ∷ ss) h k r f g = if_fits (is_sign s.Comma k) (leaf _ h (under (more_exprs m) ss g)) (meet_fits ss (max m h) k r (on (more_exprs m) ss h f) (rest (more_exprs m) ss g))
  meet_fits (return_values ∷ ss) h k r f g = if_fits (begins_expr k) (operand_fits k _ h r (under return_values ss g)) (meet_fits ss h k r (on return_values ss h f) (rest return_values ss g))
  meet_fits (entries m ∷ ss) h k r f g =
      let u = under (entries m) ss g in if_fits (is_sign s.CloseBrace k) (leaf ss m u) (if_fits (is_sign s.OpenBracket k) (leaf _ h u) (name_fits k _ (λ x. leaf _ 1 u) (operand_fits k _ h r u)))
  meet_fits (behind_name_in m ∷ ss) h k r f g =
      let u = under (behind_name_in m) ss g in let z = so (behind_name_in m) ss h f in
      if_fits (is_sign s.Assign k) (leaf _ h u) (suffix_fits suffixes _ h k r _ u z (operation_fits 1 _ h k r _ u z (to_tell h z (entry_fits m ss h k (reaches h r) u))))
  meet_fits (value_of_key m ∷ ss) h k r f g = operand_fits k _ h r (under (value_of_key m) ss g)
  meet_fits (behind_entry m ∷ ss) h k r f g = entry_fits m ss h k r (under (behind_entry m) ss g)
  meet_fits (a_body ∷ ss) h k r f g = to_begin (leaf _ h (under a_body ss g))
  meet_fits (params ∷ ss) h k r f g = let u = under params ss g in if_fits (is_sign s.CloseParen k) (leaf ss 0 u) (if_fits (is_sign s.Colon k) (leaf _ h u) (leaf _ h u))
  meet_fits (outcome ∷ ss) h k r f g = if_fits (is_sign s.Colon k) (leaf _ h (under outcome ss g)) (meet_fits ss h k r (on outcome ss h f) (rest outcome ss g))
  meet_fits (a_block ∷ ss) h k r f g = statement_fits k ss 0 r _ (under a_block ss g) (meet_fits ss 0 k r (on a_block ss h f) (rest a_block ss g))
  meet_fits (clauses ∷ ss) h k r f g = let u = under clauses ss g in if_fits (is_key w.Elseif k) (leaf _ h u) (if_fits (is_key w.Else k) (leaf _ h u) (leaf ss h u))
  meet_fits (for_names ∷ ss) h k r f g = let u = under for_names ss g in if_fits (is_sign s.Assign k) (leaf _ h u) (if_fits (is_key w.In k) (leaf _ h u) (leaf _ h u))
  meet_fits (path ∷ ss) h k r f g =
      let u = under path ss g in let z = so path ss h f in if_fits (is_sign s.Dot k) (to_tell h z (leaf _ h u)) (if_fits (is_sign s.Colon k) (to_tell h z (leaf _ h u)) (to_tell h z (to_begin (leaf _ h u))))
  meet_fits (rest_of_local ∷ ss) h k r f g = let u = under rest_of_local ss g in if_fits (is_key w.Function k) (leaf _ h u) (leaf _ h u)
  meet_fits (more_names ∷ ss) h k r f g =
      let u = under more_names ss g in
      if_fits (is_sign s.Comma k) (leaf _ h u) (if_fits (is_sign s.Colon k) (leaf _ h u) (if_fits (is_sign s.Assign k) (leaf _ h u) (meet_fits ss h k r (on more_names ss h f) (rest more_names ss g))))
  meet_fits (maybe_semicolon ∷ ss) h k r f g = if_fits (is_sign s.Semicolon k) (leaf ss 0 (under maybe_semicolon ss g)) (meet_fits ss 0 k r (on maybe_semicolon ss h f) (rest maybe_semicolon ss g))
  meet_fits (behind_name d ∷ ss) h k r f g =
      let u = under (behind_name d) ss g in let z = so (behind_name d) ss h f in
      name_fits k _ (λ x. declared_fits d ss h r u) (suffix_fits rest_of_stat ss h k r _ u z (assignment_fits ss h k r _ u z (to_tell h z (meet_fits ss h k (reaches h r) (on (behind_name d) ss h f) (rest (behind_name d) ss g)))))
  meet_fits (rest_of_stat ∷ ss) h k r f g =
      let u = under rest_of_stat ss g in let z = so rest_of_stat ss h f in
      suffix_fits rest_of_stat ss h k r _ u z (assignment_fits ss h k r _ u z (to_tell h z (meet_fits ss h k (reaches h r) (on rest_of_stat ss h f) (rest rest_of_stat ss g))))
  meet_fits (next_target ∷ ss) h k r f g = let u = under next_target ss g in name_fits k _ (λ x. leaf _ 1 u) (leaf _ h u)
  meet_fits (a_type ∷ ss) h k r f g = member_fits k _ h r (under a_type ss g)
  meet_fits (a_member ∷ ss) h k r f g = member_fits k ss h r (under a_member ss g)
  meet_fits (bar ∷ ss) h k r f g = bar_at_fits ss h k r _ (under bar ss g) (meet_fits ss h k r (on bar ss h f) (rest bar ss g))
  meet_fits (more_bars m ∷ ss) h k r f g =
      if_fits (is_sign s.Pipe k) (leaf _ h (under (more_bars m) ss g)) (to_tell (max m h + 1) (so (more_bars m) ss h f) (meet_fits ss (max m h + 1) k (reaches (max m h + 1) r) (on (more_bars m) ss h f) (rest (more_bars m) ss g)))
  meet_fits (maybe_mark ∷ ss) h k r f g =
      let z = so maybe_mark ss h f in marked_fits ss h k r _ (under maybe_mark ss g) z (to_tell h z (meet_fits ss h k (reaches h r) (on maybe_mark ss h f) (rest maybe_mark ss g)))
  meet_fits (dots ∷ ss) h k r f g = if_fits (is_sign s.Dot k) (leaf _ h (under dots ss g)) (meet_fits ss h k r (on dots ss h f) (rest dots ss g))
  meet_fits (in_braces ∷ ss) h k r f g =
      let u = under in_braces ss g in if_fits (is_sign s.CloseBrace k) (leaf ss 1 u) (if_fits (is_sign s.OpenBracket k) (leaf _ h u) (name_fits k _ (λ x. leaf _ 1 u) (member_fits k _ h r u)))
  meet_fits (map_value ∷ ss) h k r f g = member_fits k _ h r (under map_value ss g)
  meet_fits (named_in_braces ∷ ss) h k r f g =
      let u = under named_in_braces ss g in let z = so named_in_braces ss h f in
      if_fits (is_sign s.Colon k) (leaf _ h u) (name_fits k _ (λ x. leaf _ h u) (if_fits (is_sign s.Dot k) (leaf _ h u) (marked_fits _ h k r _ u z (to_tell h z (bar_at_fits _ h k (reaches h r) _ u (leaf _ h u))))))
  meet_fits (behind_field m ∷ ss) h k r f g = let u = under (behind_field m) ss g in if_fits (is_sign s.Comma k) (leaf _ h u) (leaf ss _ u)
  meet_fits (next_field m ∷ ss) h k r f g = let u = under (next_field m) ss g in if_fits (is_sign s.CloseBrace k) (leaf ss _ u) (leaf _ h u)
  meet_fits (rest_of_field m ∷ ss) h k r f g = let u = under (rest_of_field m) ss g in if_fits (is_sign s.Colon k) (leaf _ h u) (leaf _ h u)
  meet_fits (interface_fields ∷ ss) h k r f g = let u = under interface_fields ss g in if_fits (is_key w.End k) (leaf ss 0 u) (if_fits (is_sign s.Colon k) (leaf _ h u) (leaf _ h u))
  meet_fits (items t m ∷ ss) h k r f g = let u = under (items t m) ss g in if_fits (is_sign s.CloseParen k) (leaf _ 0 u) (member_fits k _ h r u)
  meet_fits (behind_item t m ∷ ss) h k r f g = let u = under (behind_item t m) ss g in if_fits (is_sign s.Comma k) (leaf _ h u) (if_fits (is_sign s.Star k) (leaf _ h u) (leaf _ 0 u))
  meet_fits (behind_items of_member m ∷ ss) h k r f g =
      let i : m + 1 ≤ b = so (behind_items of_member m) ss h f in
      if_fits (is_sign s.Arrow k) (leaf _ h (under (behind_items of_member m) ss g))
      (marked_fits ss (m + 1) k r _ (under (behind_items of_member m) ss g) i (to_tell (m + 1) i (meet_fits ss (m + 1) k (reaches (m + 1) r) (on (behind_items of_member m) ss h f) (rest (behind_items of_member m) ss g))))
  meet_fits (behind_items (of_results p) m ∷ ss) h k r f g =
      let i : max p m + 1 ≤ b = so (behind_items (of_results p) m) ss h f in
      if_fits (is_sign s.Pipe k) (leaf _ 0 (nested ss (max p m + 1) (under (behind_items (of_results p) m) ss g) i))
      (to_tell (max p m + 1) i (meet_fits ss (max p m + 1) k (reaches (max p m + 1) r) (on (behind_items (of_results p) m) ss h f) (rest (behind_items (of_results p) m) ss g)))
  meet_fits (behind_items of_body m ∷ ss) h k r f g =
      if_fits (is_sign s.Pipe k) (leaf _ 0 (under (behind_items of_body m) ss g)) (meet_fits ss h k r (on (behind_items of_body m) ss h f) (rest (behind_items of_body m) ss g))
  meet_fits (results p ∷ ss) h k r f g = let u = under (results p) ss g in if_fits (is_sign s.OpenParen k) (leaf _ 0 u) (member_fits k _ h r u)
  meet_fits (end_of_function p ∷ ss) h k r f g = to_tell (max p h + 1) (so (end_of_function p) ss h f) (meet_fits ss (max p h + 1) k (reaches (max p h + 1) r) (on (end_of_function p) ss h f) (rest (end_of_function p) ss g))
  meet_fits (behind_bar p m ∷ ss) h k r f g =
      let u = under (behind_bar p m) ss g in if_fits (is_sign s.OpenParen k) (leaf _ 0 u) (to_tell_before (max p m + 1) (first p m ss g) (barred_fits ss (max p m + 1) k (reaches_before (max p m + 1) r) u))
  meet_fits (body_results ∷ ss) h k r f g = let u = under body_results ss g in if_fits (is_sign s.OpenParen k) (leaf _ 0 u) (member_fits k _ h r u)
