-- The operators: their spellings and how tightly each binds (Lua 5.3 manual, section 3.4.8).
use Rattle.std.specs.Prelude.{ℕ, ◌+◌}
use Rattle.lua_tree.specs.declared.syntax.UnaryOperator.{UnaryOperator}
use Rattle.lua_tree.specs.declared.syntax.UnaryOperator.TheVariants as u
use Rattle.lua_tree.specs.declared.syntax.BinaryOperator.{BinaryOperator}
use Rattle.lua_tree.specs.declared.syntax.BinaryOperator.TheVariants as b
use Rattle.lua_lexer.specs.declared.token.Keyword.TheVariants as w
use Rattle.lua_lexer.specs.declared.token.Symbol.TheVariants as s
use Rattle.lua_parser.specs.Words.{Mark, key, sign}

abbrev pub unary_mark : UnaryOperator → Mark
unary_mark u.Not = key w.Not
unary_mark u.Length = sign s.Hash
unary_mark u.Negate = sign s.Minus
unary_mark u.BitNot = sign s.Tilde

abbrev pub binary_mark : BinaryOperator → Mark
binary_mark b.Or = key w.Or
binary_mark b.And = key w.And
binary_mark b.Less = sign s.Less
binary_mark b.Greater = sign s.Greater
binary_mark b.LessEqual = sign s.LessEqual
binary_mark b.GreaterEqual = sign s.GreaterEqual
binary_mark b.NotEqual = sign s.NotEqual
binary_mark b.Equal = sign s.Equal
binary_mark b.BitOr = sign s.Pipe
binary_mark b.BitXor = sign s.Tilde
binary_mark b.BitAnd = sign s.Ampersand
binary_mark b.ShiftLeft = sign s.ShiftLeft
binary_mark b.ShiftRight = sign s.ShiftRight
binary_mark b.Concat = sign s.Concat
binary_mark b.Add = sign s.Plus
binary_mark b.Subtract = sign s.Minus
binary_mark b.Multiply = sign s.Star
binary_mark b.Divide = sign s.DoubleSlash
binary_mark b.Modulo = sign s.Percent

abbrev pub level : BinaryOperator → ℕ
level b.Or = 1
level b.And = 2
level b.Less = 3
level b.Greater = 3
level b.LessEqual = 3
level b.GreaterEqual = 3
level b.NotEqual = 3
level b.Equal = 3
level b.BitOr = 4
level b.BitXor = 5
level b.BitAnd = 6
level b.ShiftLeft = 7
level b.ShiftRight = 7
level b.Concat = 8
level b.Add = 9
level b.Subtract = 9
level b.Multiply = 10
level b.Divide = 10
level b.Modulo = 10

-- the level of an operand before or behind a unary operator's
abbrev pub unary_level : ℕ
unary_level = 11

-- the least level of a left operand: `..` is right associative, the others left
abbrev pub left_level : BinaryOperator → ℕ
left_level b.Concat = 9
left_level o = level o

-- the least level of a right operand
abbrev pub right_level : BinaryOperator → ℕ
right_level b.Concat = 8
right_level o = level o + 1
