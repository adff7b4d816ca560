-- The words that begin and that may follow expressions and statements.
use Rattle.std.proofs.Common.{◌≡◌, ℕ, ℤ, ◌+◌, ◌≤◌, ◌<◌, ◌⊎◌, inl, inr, Bool, true, false, List, Some, None, refl, arith}
use Rattle.tl_base.specs.declared.place.Pos.{Pos}
use Rattle.lua_tree.specs.declared.syntax.UnaryOperator.{UnaryOperator}
use Rattle.lua_tree.specs.declared.syntax.UnaryOperator.TheVariants as u
use Rattle.lua_tree.specs.declared.syntax.BinaryOperator.{BinaryOperator}
use Rattle.lua_tree.specs.declared.syntax.BinaryOperator.TheVariants as b
use Rattle.lua_tree.specs.declared.syntax.Expr.{Expr}
use Rattle.lua_lexer.specs.declared.token.Keyword.TheVariants as w
use Rattle.lua_lexer.specs.declared.token.Symbol.TheVariants as s
use Rattle.lua_parser.specs.Words.{WordKind, mark, key, sign, finish}
use Rattle.lua_parser.specs.Grammar.Levels.{unary_mark, binary_mark, level, unary_level, left_level, right_level}
use Rattle.lua_parser.specs.Grammar.Types.{opens}
use Rattle.lua_parser.specs.Machine.Plan.{Plan}
use Rattle.lua_parser.specs.Machine.Steps.{is_sign, is_key, binary_at, operand, suffix, start_stat, start_exprs, unary_plan}
use Rattle.lua_parser.proofs.Completeness.Types.{TypeEnd}

-- the kinds of words that may follow a statement
pub data Follow : WordKind → Type 0 where
  semicolon_follows : Follow (mark (sign s.Semicolon))
  break_follows : Follow (mark (key w.Break))
  do_follows : Follow (mark (key w.Do))
  while_follows : Follow (mark (key w.While))
  repeat_follows : Follow (mark (key w.Repeat))
  if_follows : Follow (mark (key w.If))
  for_follows : Follow (mark (key w.For))
  function_follows : Follow (mark (key w.Function))
  local_follows : Follow (mark (key w.Local))
  open_follows : Follow (mark (sign s.OpenParen))
  return_follows : Follow (mark (key w.Return))
  end_follows : Follow (mark (key w.End))
  else_follows : Follow (mark (key w.Else))
  elseif_follows : Follow (mark (key w.Elseif))
  until_follows : Follow (mark (key w.Until))
  finish_follows : Follow (mark finish)
  name_follows : (x : List ℕ) → Follow (WordKind.name x)

-- the kinds of words that end a block
pub data EndsBlock : WordKind → Type 0 where
  end_ends : EndsBlock (mark (key w.End))
  else_ends : EndsBlock (mark (key w.Else))
  elseif_ends : EndsBlock (mark (key w.Elseif))
  until_ends : EndsBlock (mark (key w.Until))
  finish_ends : EndsBlock (mark finish)

pub ends_follows : {k : WordKind} → EndsBlock k → Follow k
ends_follows end_ends = end_follows
ends_follows else_ends = else_follows
ends_follows elseif_ends = elseif_follows
ends_follows until_ends = until_follows
ends_follows finish_ends = finish_follows

pub follow_no_op : {k : WordKind} → Follow k → binary_at k ≡ None
follow_no_op semicolon_follows = refl
follow_no_op break_follows = refl
follow_no_op do_follows = refl
follow_no_op while_follows = refl
follow_no_op repeat_follows = refl
follow_no_op if_follows = refl
follow_no_op for_follows = refl
follow_no_op function_follows = refl
follow_no_op local_follows = refl
follow_no_op open_follows = refl
follow_no_op return_follows = refl
follow_no_op end_follows = refl
follow_no_op else_follows = refl
follow_no_op elseif_follows = refl
follow_no_op until_follows = refl
follow_no_op finish_follows = refl
follow_no_op (name_follows x) = refl

pub follow_no_comma : {k : WordKind} → Follow k → is_sign s.Comma k ≡ false
follow_no_comma semicolon_follows = refl
follow_no_comma break_follows = refl
follow_no_comma do_follows = refl
follow_no_comma while_follows = refl
follow_no_comma repeat_follows = refl
follow_no_comma if_follows = refl
follow_no_comma for_follows = refl
follow_no_comma function_follows = refl
follow_no_comma local_follows = refl
follow_no_comma open_follows = refl
follow_no_comma return_follows = refl
follow_no_comma end_follows = refl
follow_no_comma else_follows = refl
follow_no_comma elseif_follows = refl
follow_no_comma until_follows = refl
follow_no_comma finish_follows = refl
follow_no_comma (name_follows x) = refl

pub follow_no_colon : {k : WordKind} → Follow k → is_sign s.Colon k ≡ false
follow_no_colon semicolon_follows = refl
follow_no_colon break_follows = refl
follow_no_colon do_follows = refl
follow_no_colon while_follows = refl
follow_no_colon repeat_follows = refl
follow_no_colon if_follows = refl
follow_no_colon for_follows = refl
follow_no_colon function_follows = refl
follow_no_colon local_follows = refl
follow_no_colon open_follows = refl
follow_no_colon return_follows = refl
follow_no_colon end_follows = refl
follow_no_colon else_follows = refl
follow_no_colon elseif_follows = refl
follow_no_colon until_follows = refl
follow_no_colon finish_follows = refl
follow_no_colon (name_follows x) = refl

pub follow_no_assign : {k : WordKind} → Follow k → is_sign s.Assign k ≡ false
follow_no_assign semicolon_follows = refl
follow_no_assign break_follows = refl
follow_no_assign do_follows = refl
follow_no_assign while_follows = refl
follow_no_assign repeat_follows = refl
follow_no_assign if_follows = refl
follow_no_assign for_follows = refl
follow_no_assign function_follows = refl
follow_no_assign local_follows = refl
follow_no_assign open_follows = refl
follow_no_assign return_follows = refl
follow_no_assign end_follows = refl
follow_no_assign else_follows = refl
follow_no_assign elseif_follows = refl
follow_no_assign until_follows = refl
follow_no_assign finish_follows = refl
follow_no_assign (name_follows x) = refl

pub follow_no_type : {k : WordKind} → Follow k → TypeEnd k
follow_no_type semicolon_follows = record { no_bar = refl; no_mark = refl; no_dot = refl; no_arrow = refl }
follow_no_type break_follows = record { no_bar = refl; no_mark = refl; no_dot = refl; no_arrow = refl }
follow_no_type do_follows = record { no_bar = refl; no_mark = refl; no_dot = refl; no_arrow = refl }
follow_no_type while_follows = record { no_bar = refl; no_mark = refl; no_dot = refl; no_arrow = refl }
follow_no_type repeat_follows = record { no_bar = refl; no_mark = refl; no_dot = refl; no_arrow = refl }
follow_no_type if_follows = record { no_bar = refl; no_mark = refl; no_dot = refl; no_arrow = refl }
follow_no_type for_follows = record { no_bar = refl; no_mark = refl; no_dot = refl; no_arrow = refl }
follow_no_type function_follows = record { no_bar = refl; no_mark = refl; no_dot = refl; no_arrow = refl }
follow_no_type local_follows = record { no_bar = refl; no_mark = refl; no_dot = refl; no_arrow = refl }
follow_no_type open_follows = record { no_bar = refl; no_mark = refl; no_dot = refl; no_arrow = refl }
follow_no_type return_follows = record { no_bar = refl; no_mark = refl; no_dot = refl; no_arrow = refl }
follow_no_type end_follows = record { no_bar = refl; no_mark = refl; no_dot = refl; no_arrow = refl }
follow_no_type else_follows = record { no_bar = refl; no_mark = refl; no_dot = refl; no_arrow = refl }
follow_no_type elseif_follows = record { no_bar = refl; no_mark = refl; no_dot = refl; no_arrow = refl }
follow_no_type until_follows = record { no_bar = refl; no_mark = refl; no_dot = refl; no_arrow = refl }
follow_no_type finish_follows = record { no_bar = refl; no_mark = refl; no_dot = refl; no_arrow = refl }
follow_no_type (name_follows x) = record { no_bar = refl; no_mark = refl; no_dot = refl; no_arrow = refl }

pub follow_no_suffix : {k : WordKind} → Follow k → opens k ≡ false → (a : Expr) (n : ℕ) (p : Pos) → suffix a n p k ≡ None
follow_no_suffix semicolon_follows h a n p = refl
follow_no_suffix break_follows h a n p = refl
follow_no_suffix do_follows h a n p = refl
follow_no_suffix while_follows h a n p = refl
follow_no_suffix repeat_follows h a n p = refl
follow_no_suffix if_follows h a n p = refl
follow_no_suffix for_follows h a n p = refl
follow_no_suffix function_follows h a n p = refl
follow_no_suffix local_follows h a n p = refl
follow_no_suffix open_follows h a n p = cc
follow_no_suffix return_follows h a n p = refl
follow_no_suffix end_follows h a n p = refl
follow_no_suffix else_follows h a n p = refl
follow_no_suffix elseif_follows h a n p = refl
follow_no_suffix until_follows h a n p = refl
follow_no_suffix finish_follows h a n p = refl
follow_no_suffix (name_follows x) h a n p = refl

pub ends_no_open : {k : WordKind} → EndsBlock k → opens k ≡ false
ends_no_open end_ends = refl
ends_no_open else_ends = refl
ends_no_open elseif_ends = refl
ends_no_open until_ends = refl
ends_no_open finish_ends = refl

pub ends_no_return : {k : WordKind} → EndsBlock k → is_key w.Return k ≡ false
ends_no_return end_ends = refl
ends_no_return else_ends = refl
ends_no_return elseif_ends = refl
ends_no_return until_ends = refl
ends_no_return finish_ends = refl

pub ends_no_stat : {k : WordKind} → EndsBlock k → (outer : Bool) (n : ℕ) (p : Pos) → start_stat outer n p k ≡ None
ends_no_stat end_ends outer n p = refl
ends_no_stat else_ends outer n p = refl
ends_no_stat elseif_ends outer n p = refl
ends_no_stat until_ends outer n p = refl
ends_no_stat finish_ends outer n p = refl

pub ends_no_exprs : {k : WordKind} → EndsBlock k → (n : ℕ) (p : Pos) → start_exprs n p k ≡ None
ends_no_exprs end_ends n p = refl
ends_no_exprs else_ends n p = refl
ends_no_exprs elseif_ends n p = refl
ends_no_exprs until_ends n p = refl
ends_no_exprs finish_ends n p = refl

pub ends_no_semicolon : {k : WordKind} → EndsBlock k → is_sign s.Semicolon k ≡ false
ends_no_semicolon end_ends = refl
ends_no_semicolon else_ends = refl
ends_no_semicolon elseif_ends = refl
ends_no_semicolon until_ends = refl
ends_no_semicolon finish_ends = refl

-- the kinds of words that begin an expression
pub data Starter : WordKind → Type 0 where
  nil_begins : Starter (mark (key w.Nil))
  false_begins : Starter (mark (key w.False))
  true_begins : Starter (mark (key w.True))
  dots_begins : Starter (mark (sign s.Dots))
  function_begins : Starter (mark (key w.Function))
  open_begins : Starter (mark (sign s.OpenParen))
  brace_begins : Starter (mark (sign s.OpenBrace))
  number_begins : (i : ℤ) → Starter (WordKind.number i)
  text_begins : (x : List ℕ) → Starter (WordKind.text x)
  name_begins : (x : List ℕ) → Starter (WordKind.name x)
  unary_begins : (o : UnaryOperator) → Starter (mark (unary_mark o))

pub starter_no_close : {k : WordKind} → Starter k → is_sign s.CloseParen k ≡ false
starter_no_close nil_begins = refl
starter_no_close false_begins = refl
starter_no_close true_begins = refl
starter_no_close dots_begins = refl
starter_no_close function_begins = refl
starter_no_close open_begins = refl
starter_no_close brace_begins = refl
starter_no_close (number_begins i) = refl
starter_no_close (text_begins x) = refl
starter_no_close (name_begins x) = refl
starter_no_close (unary_begins u.Not) = refl
starter_no_close (unary_begins u.Length) = refl
starter_no_close (unary_begins u.Negate) = refl
starter_no_close (unary_begins u.BitNot) = refl

pub starter_no_brace : {k : WordKind} → Starter k → is_sign s.CloseBrace k ≡ false
starter_no_brace nil_begins = refl
starter_no_brace false_begins = refl
starter_no_brace true_begins = refl
starter_no_brace dots_begins = refl
starter_no_brace function_begins = refl
starter_no_brace open_begins = refl
starter_no_brace brace_begins = refl
starter_no_brace (number_begins i) = refl
starter_no_brace (text_begins x) = refl
starter_no_brace (name_begins x) = refl
starter_no_brace (unary_begins u.Not) = refl
starter_no_brace (unary_begins u.Length) = refl
starter_no_brace (unary_begins u.Negate) = refl
starter_no_brace (unary_begins u.BitNot) = refl

pub starter_no_bracket : {k : WordKind} → Starter k → is_sign s.OpenBracket k ≡ false
starter_no_bracket nil_begins = refl
starter_no_bracket false_begins = refl
starter_no_bracket true_begins = refl
starter_no_bracket dots_begins = refl
starter_no_bracket function_begins = refl
starter_no_bracket open_begins = refl
starter_no_bracket brace_begins = refl
starter_no_bracket (number_begins i) = refl
starter_no_bracket (text_begins x) = refl
starter_no_bracket (name_begins x) = refl
starter_no_bracket (unary_begins u.Not) = refl
starter_no_bracket (unary_begins u.Length) = refl
starter_no_bracket (unary_begins u.Negate) = refl
starter_no_bracket (unary_begins u.BitNot) = refl

pub starter_starts : {k : WordKind} → Starter k → (n : ℕ) (p : Pos) → (q : Plan (List Expr × ℕ × Bool)) × (start_exprs n p k ≡ Some q)
starter_starts nil_begins n p = (_, refl)
starter_starts false_begins n p = (_, refl)
starter_starts true_begins n p = (_, refl)
starter_starts dots_begins n p = (_, refl)
starter_starts function_begins n p = (_, refl)
starter_starts open_begins n p = (_, refl)
starter_starts brace_begins n p = (_, refl)
starter_starts (number_begins i) n p = (_, refl)
starter_starts (text_begins x) n p = (_, refl)
starter_starts (name_begins x) n p = (_, refl)
starter_starts (unary_begins u.Not) n p = (_, refl)
starter_starts (unary_begins u.Length) n p = (_, refl)
starter_starts (unary_begins u.Negate) n p = (_, refl)
starter_starts (unary_begins u.BitNot) n p = (_, refl)

pub unary_operand : (o : UnaryOperator) (n : ℕ) (p : Pos) → operand n p (mark (unary_mark o)) ≡ Some (unary_plan n p o)
unary_operand u.Not n p = refl
unary_operand u.Length n p = refl
unary_operand u.Negate n p = refl
unary_operand u.BitNot n p = refl

-- whether a word may follow a name that begins an entry, or a statement
abbrev pub after_use : WordKind → Bool
after_use (WordKind.name x) = false
after_use (mark (sign s.Assign)) = false
after_use k = true

pub operator_after_use : (o : BinaryOperator) → after_use (mark (binary_mark o)) ≡ true
operator_after_use b.Or = refl
operator_after_use b.And = refl
operator_after_use b.Less = refl
operator_after_use b.Greater = refl
operator_after_use b.LessEqual = refl
operator_after_use b.GreaterEqual = refl
operator_after_use b.NotEqual = refl
operator_after_use b.Equal = refl
operator_after_use b.BitOr = refl
operator_after_use b.BitXor = refl
operator_after_use b.BitAnd = refl
operator_after_use b.ShiftLeft = refl
operator_after_use b.ShiftRight = refl
operator_after_use b.Concat = refl
operator_after_use b.Add = refl
operator_after_use b.Subtract = refl
operator_after_use b.Multiply = refl
operator_after_use b.Divide = refl
operator_after_use b.Modulo = refl

pub operator_no_suffix : (o : BinaryOperator) (a : Expr) (n : ℕ) (p : Pos) → suffix a n p (mark (binary_mark o)) ≡ None
operator_no_suffix b.Or a n p = refl
operator_no_suffix b.And a n p = refl
operator_no_suffix b.Less a n p = refl
operator_no_suffix b.Greater a n p = refl
operator_no_suffix b.LessEqual a n p = refl
operator_no_suffix b.GreaterEqual a n p = refl
operator_no_suffix b.NotEqual a n p = refl
operator_no_suffix b.Equal a n p = refl
operator_no_suffix b.BitOr a n p = refl
operator_no_suffix b.BitXor a n p = refl
operator_no_suffix b.BitAnd a n p = refl
operator_no_suffix b.ShiftLeft a n p = refl
operator_no_suffix b.ShiftRight a n p = refl
operator_no_suffix b.Concat a n p = refl
operator_no_suffix b.Add a n p = refl
operator_no_suffix b.Subtract a n p = refl
operator_no_suffix b.Multiply a n p = refl
operator_no_suffix b.Divide a n p = refl
operator_no_suffix b.Modulo a n p = refl

-- an operator is left associative, or is `..`
pub associates : (o : BinaryOperator) → ((left_level o ≡ level o) × (right_level o ≡ level o + 1) × ((level o < 8) ⊎ (8 < level o))) ⊎ ((level o ≡ 8) × (left_level o ≡ 9) × (right_level o ≡ 8))
associates b.Or = inl (refl, refl, inl (omega arith))
associates b.And = inl (refl, refl, inl (omega arith))
associates b.Less = inl (refl, refl, inl (omega arith))
associates b.Greater = inl (refl, refl, inl (omega arith))
associates b.LessEqual = inl (refl, refl, inl (omega arith))
associates b.GreaterEqual = inl (refl, refl, inl (omega arith))
associates b.NotEqual = inl (refl, refl, inl (omega arith))
associates b.Equal = inl (refl, refl, inl (omega arith))
associates b.BitOr = inl (refl, refl, inl (omega arith))
associates b.BitXor = inl (refl, refl, inl (omega arith))
associates b.BitAnd = inl (refl, refl, inl (omega arith))
associates b.ShiftLeft = inl (refl, refl, inl (omega arith))
associates b.ShiftRight = inl (refl, refl, inl (omega arith))
associates b.Concat = inr (refl, refl, refl)
associates b.Add = inl (refl, refl, inr (omega arith))
associates b.Subtract = inl (refl, refl, inr (omega arith))
associates b.Multiply = inl (refl, refl, inr (omega arith))
associates b.Divide = inl (refl, refl, inr (omega arith))
associates b.Modulo = inl (refl, refl, inr (omega arith))

pub level_fits : (o : BinaryOperator) → level o < unary_level
level_fits b.Or = omega arith
level_fits b.And = omega arith
level_fits b.Less = omega arith
level_fits b.Greater = omega arith
level_fits b.LessEqual = omega arith
level_fits b.GreaterEqual = omega arith
level_fits b.NotEqual = omega arith
level_fits b.Equal = omega arith
level_fits b.BitOr = omega arith
level_fits b.BitXor = omega arith
level_fits b.BitAnd = omega arith
level_fits b.ShiftLeft = omega arith
level_fits b.ShiftRight = omega arith
level_fits b.Concat = omega arith
level_fits b.Add = omega arith
level_fits b.Subtract = omega arith
level_fits b.Multiply = omega arith
level_fits b.Divide = omega arith
level_fits b.Modulo = omega arith

pub right_above : (o : BinaryOperator) → level o ≤ right_level o
right_above b.Or = omega arith
right_above b.And = omega arith
right_above b.Less = omega arith
right_above b.Greater = omega arith
right_above b.LessEqual = omega arith
right_above b.GreaterEqual = omega arith
right_above b.NotEqual = omega arith
right_above b.Equal = omega arith
right_above b.BitOr = omega arith
right_above b.BitXor = omega arith
right_above b.BitAnd = omega arith
right_above b.ShiftLeft = omega arith
right_above b.ShiftRight = omega arith
right_above b.Add = omega arith
right_above b.Subtract = omega arith
right_above b.Multiply = omega arith
right_above b.Divide = omega arith
right_above b.Modulo = omega arith
right_above b.Concat = omega arith

pub left_above : (o : BinaryOperator) → level o ≤ left_level o
left_above b.Or = omega arith
left_above b.And = omega arith
left_above b.Less = omega arith
left_above b.Greater = omega arith
left_above b.LessEqual = omega arith
left_above b.GreaterEqual = omega arith
left_above b.NotEqual = omega arith
left_above b.Equal = omega arith
left_above b.BitOr = omega arith
left_above b.BitXor = omega arith
left_above b.BitAnd = omega arith
left_above b.ShiftLeft = omega arith
left_above b.ShiftRight = omega arith
left_above b.Concat = omega arith
left_above b.Add = omega arith
left_above b.Subtract = omega arith
left_above b.Multiply = omega arith
left_above b.Divide = omega arith
left_above b.Modulo = omega arith
