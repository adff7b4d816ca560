-- The operators and their marks.
use Rattle.std.proofs.Common.{◌≡◌, ◌≤◌, Some, refl, ap, arith}
use Rattle.lua_tree.specs.declared.syntax.UnaryOperator.{UnaryOperator}
use Rattle.lua_tree.specs.declared.syntax.UnaryOperator.TheVariants as u
use Rattle.lua_tree.specs.declared.syntax.BinaryOperator.{BinaryOperator}
use Rattle.lua_tree.specs.declared.syntax.BinaryOperator.TheVariants as b
use Rattle.lua_lexer.specs.declared.token.Keyword.TheVariants as w
use Rattle.lua_lexer.specs.declared.token.Symbol.TheVariants as s
use Rattle.lua_parser.specs.Words.{WordKind, mark, key, sign}
use Rattle.lua_parser.specs.Grammar.Levels.{unary_mark, binary_mark, unary_level, left_level, right_level}
use Rattle.lua_parser.specs.Machine.Steps.{unary_at, binary_at}

pub unary_is : (k : WordKind) (o : UnaryOperator) → unary_at k ≡ Some o → k ≡ mark (unary_mark o)
unary_is (mark (key w.Not)) o e = let d : u.Not ≡ o = cc in ap (λ x. mark (unary_mark x)) d
unary_is (mark (sign s.Hash)) o e = let d : u.Length ≡ o = cc in ap (λ x. mark (unary_mark x)) d
unary_is (mark (sign s.Minus)) o e = let d : u.Negate ≡ o = cc in ap (λ x. mark (unary_mark x)) d
unary_is (mark (sign s.Tilde)) o e = let d : u.BitNot ≡ o = cc in ap (λ x. mark (unary_mark x)) d
unary_is k o e = cc

pub binary_is : (k : WordKind) (o : BinaryOperator) → binary_at k ≡ Some o → k ≡ mark (binary_mark o)
binary_is (mark (key w.Or)) o e = let d : b.Or ≡ o = cc in ap (λ x. mark (binary_mark x)) d
binary_is (mark (key w.And)) o e = let d : b.And ≡ o = cc in ap (λ x. mark (binary_mark x)) d
binary_is (mark (sign s.Less)) o e = let d : b.Less ≡ o = cc in ap (λ x. mark (binary_mark x)) d
binary_is (mark (sign s.Greater)) o e = let d : b.Greater ≡ o = cc in ap (λ x. mark (binary_mark x)) d
binary_is (mark (sign s.LessEqual)) o e = let d : b.LessEqual ≡ o = cc in ap (λ x. mark (binary_mark x)) d
binary_is (mark (sign s.GreaterEqual)) o e = let d : b.GreaterEqual ≡ o = cc in ap (λ x. mark (binary_mark x)) d
binary_is (mark (sign s.NotEqual)) o e = let d : b.NotEqual ≡ o = cc in ap (λ x. mark (binary_mark x)) d
binary_is (mark (sign s.Equal)) o e = let d : b.Equal ≡ o = cc in ap (λ x. mark (binary_mark x)) d
binary_is (mark (sign s.Pipe)) o e = let d : b.BitOr ≡ o = cc in ap (λ x. mark (binary_mark x)) d
binary_is (mark (sign s.Tilde)) o e = let d : b.BitXor ≡ o = cc in ap (λ x. mark (binary_mark x)) d
binary_is (mark (sign s.Ampersand)) o e = let d : b.BitAnd ≡ o = cc in ap (λ x. mark (binary_mark x)) d
binary_is (mark (sign s.ShiftLeft)) o e = let d : b.ShiftLeft ≡ o = cc in ap (λ x. mark (binary_mark x)) d
binary_is (mark (sign s.ShiftRight)) o e = let d : b.ShiftRight ≡ o = cc in ap (λ x. mark (binary_mark x)) d
binary_is (mark (sign s.Concat)) o e = let d : b.Concat ≡ o = cc in ap (λ x. mark (binary_mark x)) d
binary_is (mark (sign s.Plus)) o e = let d : b.Add ≡ o = cc in ap (λ x. mark (binary_mark x)) d
binary_is (mark (sign s.Minus)) o e = let d : b.Subtract ≡ o = cc in ap (λ x. mark (binary_mark x)) d
binary_is (mark (sign s.Star)) o e = let d : b.Multiply ≡ o = cc in ap (λ x. mark (binary_mark x)) d
binary_is (mark (sign s.DoubleSlash)) o e = let d : b.Divide ≡ o = cc in ap (λ x. mark (binary_mark x)) d
binary_is (mark (sign s.Percent)) o e = let d : b.Modulo ≡ o = cc in ap (λ x. mark (binary_mark x)) d
binary_is k o e = cc

pub binary_at_mark : (o : BinaryOperator) → binary_at (mark (binary_mark o)) ≡ Some o
binary_at_mark b.Or = refl
binary_at_mark b.And = refl
binary_at_mark b.Less = refl
binary_at_mark b.Greater = refl
binary_at_mark b.LessEqual = refl
binary_at_mark b.GreaterEqual = refl
binary_at_mark b.NotEqual = refl
binary_at_mark b.Equal = refl
binary_at_mark b.BitOr = refl
binary_at_mark b.BitXor = refl
binary_at_mark b.BitAnd = refl
binary_at_mark b.ShiftLeft = refl
binary_at_mark b.ShiftRight = refl
binary_at_mark b.Concat = refl
binary_at_mark b.Add = refl
binary_at_mark b.Subtract = refl
binary_at_mark b.Multiply = refl
binary_at_mark b.Divide = refl
binary_at_mark b.Modulo = refl

pub right_fits : (o : BinaryOperator) → right_level o ≤ unary_level
right_fits b.Or = omega arith
right_fits b.And = omega arith
right_fits b.Less = omega arith
right_fits b.Greater = omega arith
right_fits b.LessEqual = omega arith
right_fits b.GreaterEqual = omega arith
right_fits b.NotEqual = omega arith
right_fits b.Equal = omega arith
right_fits b.BitOr = omega arith
right_fits b.BitXor = omega arith
right_fits b.BitAnd = omega arith
right_fits b.ShiftLeft = omega arith
right_fits b.ShiftRight = omega arith
right_fits b.Concat = omega arith
right_fits b.Add = omega arith
right_fits b.Subtract = omega arith
right_fits b.Multiply = omega arith
right_fits b.Divide = omega arith
right_fits b.Modulo = omega arith

pub left_fits : (o : BinaryOperator) → left_level o ≤ unary_level
left_fits b.Or = omega arith
left_fits b.And = omega arith
left_fits b.Less = omega arith
left_fits b.Greater = omega arith
left_fits b.LessEqual = omega arith
left_fits b.GreaterEqual = omega arith
left_fits b.NotEqual = omega arith
left_fits b.Equal = omega arith
left_fits b.BitOr = omega arith
left_fits b.BitXor = omega arith
left_fits b.BitAnd = omega arith
left_fits b.ShiftLeft = omega arith
left_fits b.ShiftRight = omega arith
left_fits b.Concat = omega arith
left_fits b.Add = omega arith
left_fits b.Subtract = omega arith
left_fits b.Multiply = omega arith
left_fits b.Divide = omega arith
left_fits b.Modulo = omega arith
