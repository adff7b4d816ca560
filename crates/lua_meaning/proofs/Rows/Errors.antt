-- Errors, their texts and their places, and what is recorded of them.
use Rattle.std.proofs.Common.{◌≡◌, refl, ℕ, pos, true, List, [], ◌∷◌, Some, None, codes}
use Rattle.std.specs.Fmt.{digits}
use Rattle.std.specs.Int.{int_wrap}
use Rattle.tl_base.specs.declared.place.ModuleKind.TheVariants.{Typed, Untyped}
use Rattle.tl_base.specs.declared.crossing.CrossKind.TheVariants as cross
use Rattle.lua_tree.specs.declared.syntax.BinaryOperator.TheVariants as b
use Rattle.lua_tree.specs.declared.syntax.UnaryOperator.TheVariants as u
use Rattle.lua_tree.specs.Tree as tree
use Rattle.lua_tree.specs.Tree.{Exp, Stat}
use Rattle.lua_values.specs.declared.value.Value.TheVariants as value
use Rattle.lua_meaning.specs.Programs.{Ending, failed, meaning, result_of, run_with, start}
use Rattle.lua_meaning.proofs.Rows.Shorthand.{at, here, num, nil, boolean, str, var, op, un, list, call, func, body, body_with, locals, local_function, print, run, word, module_with, runs}

error : List ℕ → Ending
error text = failed (value.Str text)

-- print(1 + "10")
abbrev pub arithmetic-program : List Stat
arithmetic-program = print (op b.Add (num 1) (str (codes "10")) ∷ []) ∷ []

arithmetic : runs 5 arithmetic-program ≡ ([], error (codes "main.lua:1:1: arithmetic on a string"), 1)
unfolding error digits
arithmetic = refl

-- print(nil + true): the first operand that isn't an integer
abbrev pub the_first_wrong_operand-program : List Stat
the_first_wrong_operand-program = print (op b.Add nil (boolean true) ∷ []) ∷ []

the_first_wrong_operand : runs 5 the_first_wrong_operand-program ≡ ([], error (codes "main.lua:1:1: arithmetic on a nil"), 1)
unfolding error digits
the_first_wrong_operand = refl

abbrev pub bitwise-program : List Stat
bitwise-program = print (op b.ShiftLeft (num 1) (boolean true) ∷ []) ∷ []

bitwise : runs 5 bitwise-program ≡ ([], error (codes "main.lua:1:1: bitwise operation on a boolean"), 1)
unfolding error digits
bitwise = refl

abbrev pub concatenation-program : List Stat
concatenation-program = print (op b.Concat (str (codes "a")) nil ∷ []) ∷ []

concatenation : runs 5 concatenation-program ≡ ([], error (codes "main.lua:1:1: concatenation of a nil"), 1)
unfolding error digits
concatenation = refl

abbrev pub length_of_a_number-program : List Stat
length_of_a_number-program = print (un u.Length (num 1) ∷ []) ∷ []

length_of_a_number : runs 5 length_of_a_number-program ≡ ([], error (codes "main.lua:1:1: length of a number"), 1)
unfolding error digits
length_of_a_number = refl

abbrev pub comparison-program : List Stat
comparison-program = print (op b.Less (num 1) (str (codes "2")) ∷ []) ∷ []

comparison : runs 5 comparison-program ≡ ([], error (codes "main.lua:1:1: comparison of a number with a string"), 1)
unfolding error digits
comparison = refl

-- print(1 > "2") is "2" < 1
abbrev pub comparison_the_other_way_round-program : List Stat
comparison_the_other_way_round-program = print (op b.Greater (num 1) (str (codes "2")) ∷ []) ∷ []

comparison_the_other_way_round : runs 5 comparison_the_other_way_round-program ≡ ([], error (codes "main.lua:1:1: comparison of a string with a number"), 1)
unfolding error digits
comparison_the_other_way_round = refl

-- local x; x()
abbrev pub call_of_a_nil-program : List Stat
call_of_a_nil-program = locals 1 (list []) ∷ tree.run (at 1 10) (tree.one_of (tree.call (at 1 10) (var 0) (list []))) ∷ []

call_of_a_nil : runs 5 call_of_a_nil-program ≡ ([], error (codes "main.lua:1:10: call of a nil"), 1)
unfolding error digits
call_of_a_nil = refl

-- for i = 1, "x", print() do end: the limit is found wrong before the step is evaluated
abbrev pub bounds_in_order-program : List Stat
bounds_in_order-program = tree.count here word (tree.integer (at 1 9) (pos 1)) (tree.text (at 1 12) (codes "x")) (tree.step (call (var 20) [])) (body []) ∷ []

bounds_in_order : runs 5 bounds_in_order-program ≡ ([], error (codes "main.lua:1:12: 'for' bound is a string"), 1)
unfolding error digits
bounds_in_order = refl

abbrev pub step_zero-program : List Stat
step_zero-program = tree.count here word (tree.integer (at 1 9) (pos 1)) (tree.integer (at 1 12) (pos 0)) (tree.step (tree.integer (at 1 15) (pos 0))) (body []) ∷ []

step_zero : runs 5 step_zero-program ≡ ([], error (codes "main.lua:1:15: 'for' step is zero"), 1)
unfolding error digits
step_zero = refl

abbrev pub division_by_zero-program : List Stat
division_by_zero-program = print (op b.Divide (num 1) (num 0) ∷ []) ∷ []

division_by_zero : runs 5 division_by_zero-program ≡ ([], error (codes "main.lua:1:1: division by zero"), 1)
unfolding error digits
division_by_zero = refl

abbrev pub modulo_by_zero-program : List Stat
modulo_by_zero-program = print (op b.Modulo (num 1) (num 0) ∷ []) ∷ []

modulo_by_zero : runs 5 modulo_by_zero-program ≡ ([], error (codes "main.lua:1:1: modulo by zero"), 1)
unfolding error digits
modulo_by_zero = refl

-- for x in 5, f do end: the iterator's call stands at the first expression
abbrev pub call_of_the_iterator-program : List Stat
call_of_the_iterator-program = tree.each here (word ∷ []) (tree.more (tree.integer (at 1 10) (pos 5)) (list (nil ∷ []))) (body []) ∷ []

call_of_the_iterator : runs 5 call_of_the_iterator-program ≡ ([], error (codes "main.lua:1:10: call of a number"), 1)
unfolding error digits
call_of_the_iterator = refl

-- print(1); print(nil + 1); print(2)
abbrev pub output_before_an_error-program : List Stat
output_before_an_error-program = print (num 1 ∷ []) ∷ print (op b.Add nil (num 1) ∷ []) ∷ print (num 2 ∷ []) ∷ []

output_before_an_error : runs 5 output_before_an_error-program ≡ (codes "1\n", error (codes "main.lua:1:1: arithmetic on a nil"), 1)
unfolding error digits int_wrap
output_before_an_error = refl

-- local function f() return 1 + f() end / print(f())
endless : tree.Block
endless = body (local_function (func 0 (body_with [] (list (tree.binary (at 1 27) b.Add (num 1) (tree.one_of (tree.call (at 1 31) (var 0) (list []))) ∷ [])))) ∷ print (call (var 0) [] ∷ []) ∷ [])

-- where 4 calls may run at once, the main block is the first, and the fourth call of f is one too many
stack_overflow : result_of 50 (run_with 3 50 (module_with Untyped endless) (start (Untyped ∷ []) (codes "main.lua" ∷ []) [] 50) [])
    ≡ record { output = []; ending = error (codes "main.lua:1:31: stack overflow"); turns = 4; mark = None; error = None }
unfolding error endless digits
stack_overflow = refl

-- and `print` is a call as well
print_is_counted : result_of 50 (run_with 0 50 (module_with Untyped (body (print (num 1 ∷ []) ∷ []))) (start (Untyped ∷ []) (codes "main.lua" ∷ []) [] 50) [])
    ≡ record { output = []; ending = error (codes "main.lua:1:1: stack overflow"); turns = 1; mark = None; error = None }
unfolding error digits
print_is_counted = refl

-- what is no function isn't counted
calls_of_no_function : result_of 50 (run_with 0 50 (module_with Untyped (body (run nil [] ∷ []))) (start (Untyped ∷ []) (codes "main.lua" ∷ []) [] 50) [])
    ≡ record { output = []; ending = error (codes "main.lua:1:1: call of a nil"); turns = 1; mark = None; error = None }
unfolding error digits
calls_of_no_function = refl

-- local a: any = "s" / print(a + 1), in a typed module, with its mark
first_mark_and_kind_error : meaning (module_with Typed (body (locals 1 (list (tree.text (at 1 16) (codes "s") ∷ []))
    ∷ print (tree.binary (at 2 7) b.Add (tree.mark cross.Operand (tree.name (at 2 7) 0 [])) (num 1) ∷ []) ∷ [])) ∷ []) (codes "main.tl" ∷ []) [] 10
    ≡ record {
      output = [];
      ending = error (codes "main.tl:2:7: arithmetic on a string");
      turns = 1;
      mark = Some (record { pos = at 2 7; kind = cross.Operand });
      error = Some (record { place = at 2 7; after = Some (record { pos = at 2 7; kind = cross.Operand }) });
    }
unfolding error digits
first_mark_and_kind_error = refl
