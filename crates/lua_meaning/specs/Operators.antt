-- Operators on values (Lua 5.3 manual, 3.4.1 to 3.4.7), without metamethods: the result, or what is wrong.
use Rattle.std.specs.Prelude.{ℕ, nat_lt, ℤ, pos, negsuc, bit_and, bit_or, bit_xor, ◌+ℤ◌, ◌-ℤ◌, ◌*ℤ◌, neg_ℤ, Bool, true, false, not, cond, List, ◌++◌, length, Option, Some, None, codes}
use Rattle.std.specs.declared.cmp.Ordering.{Ordering}
use Rattle.std.specs.Fmt.{signed_decimal}
use Rattle.std.specs.Ordering.{is_lt, is_le, int_cmp, nat_cmp}
use Rattle.std.specs.Cmp.Lexicographic.{slice_cmp}
use Rattle.lua_tree.specs.declared.syntax.UnaryOperator.{UnaryOperator}
use Rattle.lua_tree.specs.declared.syntax.UnaryOperator.TheVariants as unary
use Rattle.lua_tree.specs.declared.syntax.BinaryOperator.{BinaryOperator}
use Rattle.lua_tree.specs.declared.syntax.BinaryOperator.TheVariants as binary
use Rattle.lua_values.specs.Integers.{word, quotient, remainder, bits_of, from_bits, shift_left, shift_right}
use Rattle.lua_values.specs.Values.{same_value}
use Rattle.lua_values.specs.declared.value.Value.{Value}
use Rattle.lua_values.specs.declared.value.Value.TheVariants as value

-- ---- kinds and truth

-- the name of a value's kind, as `type` gives it (6.1); integers are numbers
abbrev pub kind_name : Value → List ℕ
kind_name value.Nil = codes "nil"
kind_name (value.Bool b) = codes "boolean"
kind_name (value.Int n) = codes "number"
kind_name (value.Str s) = codes "string"
kind_name (value.Table t) = codes "table"
kind_name (value.Closure k) = codes "function"
kind_name (value.Builtin n) = codes "function"

-- nil and false are false, every other value is true (3.3.4)
abbrev pub is_true : Value → Bool
is_true value.Nil = false
is_true (value.Bool b) = b
is_true v = true

-- ---- what an operator answers

pub data Answer : Type 0 where
  value_is : Value → Answer
  -- no operand of this kind will do
  wrong_kind : List ℕ → Answer
  -- the operands have the right kinds, but no result
  fails : List ℕ → Answer

-- ---- arithmetic (3.4.1) and bitwise operators (3.4.2): on integers of 64 bits, which wrap round

abbrev pub integer : ℤ → Answer
integer n = value_is (value.Int (word n))

abbrev pub integer_or : List ℕ → Option ℤ → Answer
integer_or what None = fails what
integer_or what (Some n) = value_is (value.Int n)

abbrev pub compute : BinaryOperator → ℤ → ℤ → Answer
compute binary.Add m n = integer (m +ℤ n)
compute binary.Subtract m n = integer (m -ℤ n)
compute binary.Multiply m n = integer (m *ℤ n)
compute binary.Divide m n = integer_or (codes "division by zero") (quotient m n)
compute binary.Modulo m n = integer_or (codes "modulo by zero") (remainder m n)
compute binary.BitAnd m n = value_is (value.Int (from_bits (bit_and (bits_of m) (bits_of n))))
compute binary.BitOr m n = value_is (value.Int (from_bits (bit_or (bits_of m) (bits_of n))))
compute binary.BitXor m n = value_is (value.Int (from_bits (bit_xor (bits_of m) (bits_of n))))
compute binary.ShiftLeft m n = value_is (value.Int (shift_left m n))
compute binary.ShiftRight m n = value_is (value.Int (shift_right m n))
compute o m n = value_is value.Nil

-- both operands are integers, or the first that isn't one is wrong
abbrev pub on_integers : BinaryOperator → List ℕ → Value → Value → Answer
on_integers o what (value.Int m) (value.Int n) = compute o m n
on_integers o what (value.Int m) v = wrong_kind (what ++ kind_name v)
on_integers o what u v = wrong_kind (what ++ kind_name u)

-- ---- concatenation (3.4.6)

-- a string's length is at most 2 ^ 24
abbrev pub joined : List ℕ → Answer
joined text = cond (nat_lt 16777216 (length text)) (fails (codes "string too long")) (value_is (value.Str text))

-- what `..` takes of a value: a string, or an integer's decimal text
abbrev pub text_in : Value → Option (List ℕ)
text_in (value.Int n) = Some (signed_decimal n)
text_in (value.Str s) = Some s
text_in v = None

abbrev pub concat_texts : Option (List ℕ) → Option (List ℕ) → Value → Value → Answer
concat_texts (Some s) (Some t) u v = joined (s ++ t)
concat_texts (Some s) None u v = wrong_kind (codes "concatenation of a " ++ kind_name v)
concat_texts None t u v = wrong_kind (codes "concatenation of a " ++ kind_name u)

-- ---- comparison (3.4.4): of two integers, or of two strings by their bytes

abbrev pub compare : (Ordering → Bool) → Value → Value → Answer
compare holds (value.Int m) (value.Int n) = value_is (value.Bool (holds (int_cmp m n)))
compare holds (value.Str s) (value.Str t) = value_is (value.Bool (holds (slice_cmp nat_cmp s t)))
compare holds u v = wrong_kind (codes "comparison of a " ++ kind_name u ++ codes " with a " ++ kind_name v)

-- ---- the operators

abbrev pub arithmetic : BinaryOperator → Value → Value → Answer
arithmetic o u v = on_integers o (codes "arithmetic on a ") u v

abbrev pub bitwise : BinaryOperator → Value → Value → Answer
bitwise o u v = on_integers o (codes "bitwise operation on a ") u v

-- on the values of both operands; `a > b` is `b < a`, and `a >= b` is `b <= a`
abbrev pub operate : BinaryOperator → Value → Value → Answer
operate binary.Or u v = value_is v
operate binary.And u v = value_is v
operate binary.Less u v = compare is_lt u v
operate binary.Greater u v = compare is_lt v u
operate binary.LessEqual u v = compare is_le u v
operate binary.GreaterEqual u v = compare is_le v u
operate binary.NotEqual u v = value_is (value.Bool (not (same_value u v)))
operate binary.Equal u v = value_is (value.Bool (same_value u v))
operate binary.BitOr u v = bitwise binary.BitOr u v
operate binary.BitXor u v = bitwise binary.BitXor u v
operate binary.BitAnd u v = bitwise binary.BitAnd u v
operate binary.ShiftLeft u v = bitwise binary.ShiftLeft u v
operate binary.ShiftRight u v = bitwise binary.ShiftRight u v
operate binary.Concat u v = concat_texts (text_in u) (text_in v) u v
operate binary.Add u v = arithmetic binary.Add u v
operate binary.Subtract u v = arithmetic binary.Subtract u v
operate binary.Multiply u v = arithmetic binary.Multiply u v
operate binary.Divide u v = arithmetic binary.Divide u v
operate binary.Modulo u v = arithmetic binary.Modulo u v

-- `and` keeps a false left operand and `or` a true one; the right operand isn't evaluated then (3.4.5)
abbrev pub keeps_left : BinaryOperator → Value → Bool
keeps_left binary.Or u = is_true u
keeps_left binary.And u = not (is_true u)
keeps_left o u = false

abbrev pub negated : Value → Answer
negated (value.Int n) = integer (neg_ℤ n)
negated v = wrong_kind (codes "arithmetic on a " ++ kind_name v)

abbrev pub complement : Value → Answer
complement (value.Int n) = value_is (value.Int (neg_ℤ n -ℤ pos 1))
complement v = wrong_kind (codes "bitwise operation on a " ++ kind_name v)

-- the length of a string in bytes (3.4.7); that of a table is still to come, and is 0 until then
abbrev pub length_of : Value → Answer
length_of (value.Str s) = value_is (value.Int (pos (length s)))
length_of (value.Table t) = value_is (value.Int (pos 0))
length_of v = wrong_kind (codes "length of a " ++ kind_name v)

abbrev pub operate_on : UnaryOperator → Value → Answer
operate_on unary.Not v = value_is (value.Bool (not (is_true v)))
operate_on unary.Length v = length_of v
operate_on unary.Negate v = negated v
operate_on unary.BitNot v = complement v

-- ---- the numeric `for` (3.3.5)

-- the loop runs for a value: it hasn't passed the limit in the direction of the step, where a step of 0 counts as going up
abbrev pub runs_for : ℤ → ℤ → ℤ → Bool
runs_for (pos n) limit i = is_le (int_cmp i limit)
runs_for (negsuc n) limit i = is_le (int_cmp limit i)
