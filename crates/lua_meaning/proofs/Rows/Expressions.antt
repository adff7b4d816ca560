-- Expressions: arithmetic, texts, comparison, logic, order of evaluation.
use Rattle.std.proofs.Common.{◌≡◌, refl, List, ℕ, true, false, [], ◌∷◌, codes}
use Rattle.std.specs.Fmt.{digits}
use Rattle.std.specs.Int.{int_wrap}
use Rattle.lua_tree.specs.declared.syntax.BinaryOperator.TheVariants as b
use Rattle.lua_tree.specs.declared.syntax.UnaryOperator.TheVariants as u
use Rattle.lua_tree.specs.Tree as tree
use Rattle.lua_tree.specs.Tree.{Exp, Stat}
use Rattle.lua_meaning.specs.Programs.{finished}
use Rattle.lua_meaning.proofs.Rows.Shorthand.{num, nil, boolean, str, var, op, un, list, call, func, body_with, locals, local_function, print, set, word, here, runs}

abbrev pub neg : ℕ → Exp
neg n = un u.Negate (num n)

-- print(7 // -2, 7 % -2, -7 // 2, -7 % 2)
abbrev pub division_rounds_down-program : List Stat
division_rounds_down-program = print (op b.Divide (num 7) (neg 2) ∷ op b.Modulo (num 7) (neg 2) ∷ op b.Divide (neg 7) (num 2) ∷ op b.Modulo (neg 7) (num 2) ∷ []) ∷ []

division_rounds_down : runs 10 division_rounds_down-program ≡ (codes "-4\t-1\t-4\t1\n", finished, 1)
unfolding digits int_wrap
division_rounds_down = refl

abbrev pub least : Exp
least = tree.field here (var 22) word

abbrev pub greatest : Exp
greatest = tree.field here (var 21) word

-- print(math.mininteger // -1, math.mininteger % -1, 1 << 63, 1 << 64, -1 >> 63)
abbrev pub edges_of_words-program : List Stat
edges_of_words-program = print (op b.Divide least (neg 1) ∷ op b.Modulo least (neg 1) ∷ op b.ShiftLeft (num 1) (num 63) ∷ op b.ShiftLeft (num 1) (num 64) ∷ op b.ShiftRight (neg 1) (num 63) ∷ []) ∷ []

edges_of_words : runs 10 edges_of_words-program ≡ (codes "-9223372036854775808\t0\t-9223372036854775808\t0\t1\n", finished, 1)
unfolding digits int_wrap
edges_of_words = refl

-- print(math.maxinteger + 1, math.mininteger - 1, -math.mininteger, math.maxinteger * 2)
abbrev pub words_wrap-program : List Stat
words_wrap-program = print (op b.Add greatest (num 1) ∷ op b.Subtract least (num 1) ∷ un u.Negate least ∷ op b.Multiply greatest (num 2) ∷ []) ∷ []

words_wrap : runs 10 words_wrap-program ≡ (codes "-9223372036854775808\t9223372036854775807\t-9223372036854775808\t-2\n", finished, 1)
unfolding digits int_wrap
words_wrap = refl

-- print(12 & 10, 12 | 10, 12 ~ 10, ~0, 1 << -1, -1 << 1)
abbrev pub bits-program : List Stat
bits-program = print (op b.BitAnd (num 12) (num 10) ∷ op b.BitOr (num 12) (num 10) ∷ op b.BitXor (num 12) (num 10) ∷ un u.BitNot (num 0) ∷ op b.ShiftLeft (num 1) (neg 1) ∷ op b.ShiftLeft (neg 1) (num 1) ∷ []) ∷ []

bits : runs 10 bits-program ≡ (codes "8\t14\t6\t-1\t0\t-2\n", finished, 1)
unfolding digits int_wrap
bits = refl

-- print(nil, true, "a", 1 .. 2, #"\u{20AC}", not nil)
abbrev pub texts-program : List Stat
texts-program = print (nil ∷ boolean true ∷ str (codes "a") ∷ op b.Concat (num 1) (num 2) ∷ un u.Length (str (226 ∷ 130 ∷ 172 ∷ [])) ∷ un u.Not nil ∷ []) ∷ []

texts : runs 10 texts-program ≡ (codes "nil\ttrue\ta\t12\t3\ttrue\n", finished, 1)
unfolding digits int_wrap
texts = refl

-- print("a" < "b", "a" < "a", "a" <= "a", "ab" > "a", "" >= "a", "Z" < "a")
abbrev pub strings_compare_by_bytes-program : List Stat
strings_compare_by_bytes-program = print (op b.Less (str (codes "a")) (str (codes "b")) ∷ op b.Less (str (codes "a")) (str (codes "a")) ∷ op b.LessEqual (str (codes "a")) (str (codes "a"))
    ∷ op b.Greater (str (codes "ab")) (str (codes "a")) ∷ op b.GreaterEqual (str []) (str (codes "a")) ∷ op b.Less (str (codes "Z")) (str (codes "a")) ∷ []) ∷ []

strings_compare_by_bytes : runs 10 strings_compare_by_bytes-program ≡ (codes "true\tfalse\ttrue\ttrue\tfalse\ttrue\n", finished, 1)
strings_compare_by_bytes = refl

-- print(1 < 2, 2 <= 1, -1 > -2, 1 == 1, 1 == "1", 1 ~= "1", nil == false)
abbrev pub integers_compare-program : List Stat
integers_compare-program = print (op b.Less (num 1) (num 2) ∷ op b.LessEqual (num 2) (num 1) ∷ op b.Greater (neg 1) (neg 2) ∷ op b.Equal (num 1) (num 1) ∷ op b.Equal (num 1) (str (codes "1"))
    ∷ op b.NotEqual (num 1) (str (codes "1")) ∷ op b.Equal nil (boolean false) ∷ []) ∷ []

integers_compare : runs 10 integers_compare-program ≡ (codes "true\tfalse\ttrue\ttrue\tfalse\ttrue\tfalse\n", finished, 1)
unfolding digits int_wrap
integers_compare = refl

-- print(nil and 1, false or nil, 0 and 1, nil or 2, 1 or 2, false and nil)
abbrev pub logic_gives_operands-program : List Stat
logic_gives_operands-program = print (op b.And nil (num 1) ∷ op b.Or (boolean false) nil ∷ op b.And (num 0) (num 1) ∷ op b.Or nil (num 2) ∷ op b.Or (num 1) (num 2) ∷ op b.And (boolean false) nil ∷ []) ∷ []

logic_gives_operands : runs 10 logic_gives_operands-program ≡ (codes "nil\tnil\t1\t2\t1\tfalse\n", finished, 1)
unfolding digits int_wrap
logic_gives_operands = refl

-- local function f(x) print(x) return x end
abbrev pub shows : Stat
shows = local_function (func 1 (body_with (print (var 1 ∷ []) ∷ []) (list (var 1 ∷ []))))

-- print(f(1) - f(2) * f(3))
abbrev pub operands_from_left_to_right-program : List Stat
operands_from_left_to_right-program = shows ∷ print (op b.Subtract (call (var 0) (num 1 ∷ [])) (op b.Multiply (call (var 0) (num 2 ∷ [])) (call (var 0) (num 3 ∷ []))) ∷ []) ∷ []

operands_from_left_to_right : runs 10 operands_from_left_to_right-program ≡ (codes "1\n2\n3\n-5\n", finished, 4)
unfolding digits int_wrap
operands_from_left_to_right = refl

-- print(f(1) > f(2))
abbrev pub greater_evaluates_its_left_operand_first-program : List Stat
greater_evaluates_its_left_operand_first-program = shows ∷ print (op b.Greater (call (var 0) (num 1 ∷ [])) (call (var 0) (num 2 ∷ [])) ∷ []) ∷ []

greater_evaluates_its_left_operand_first : runs 10 greater_evaluates_its_left_operand_first-program ≡ (codes "1\n2\nfalse\n", finished, 3)
unfolding digits int_wrap
greater_evaluates_its_left_operand_first = refl

-- print(f(nil) and f(1), f(2) or f(3))
abbrev pub right_operands_wait-program : List Stat
right_operands_wait-program = shows ∷ print (op b.And (call (var 0) (nil ∷ [])) (call (var 0) (num 1 ∷ [])) ∷ op b.Or (call (var 0) (num 2 ∷ [])) (call (var 0) (num 3 ∷ [])) ∷ []) ∷ []

right_operands_wait : runs 10 right_operands_wait-program ≡ (codes "nil\n2\nnil\t2\n", finished, 3)
unfolding digits int_wrap
right_operands_wait = refl

-- local a, b = 1, 2; a, b = b, a; print(a, b); a, a = 3, 4; print(a)
abbrev pub assignments_store_from_last_to_first-program : List Stat
assignments_store_from_last_to_first-program = locals 2 (list (num 1 ∷ num 2 ∷ [])) ∷ set (0 ∷ 1 ∷ []) (list (var 1 ∷ var 0 ∷ [])) ∷ print (var 0 ∷ var 1 ∷ [])
    ∷ set (0 ∷ 0 ∷ []) (list (num 3 ∷ num 4 ∷ [])) ∷ print (var 0 ∷ []) ∷ []

assignments_store_from_last_to_first : runs 10 assignments_store_from_last_to_first-program ≡ (codes "2\t1\n3\n", finished, 1)
unfolding digits int_wrap
assignments_store_from_last_to_first = refl
