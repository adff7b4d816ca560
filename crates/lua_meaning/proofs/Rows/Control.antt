-- Blocks, branches and loops, and the turns that they use.
use Rattle.std.proofs.Common.{◌≡◌, refl, List, true, false, [], ◌∷◌, codes}
use Rattle.std.specs.Fmt.{digits}
use Rattle.std.specs.Int.{int_wrap}
use Rattle.lua_tree.specs.declared.syntax.BinaryOperator.TheVariants as b
use Rattle.lua_tree.specs.declared.syntax.UnaryOperator.TheVariants as u
use Rattle.lua_tree.specs.Tree as tree
use Rattle.lua_tree.specs.Tree.{Exp, Stat}
use Rattle.lua_meaning.specs.Programs.{finished, spent}
use Rattle.lua_meaning.proofs.Rows.Shorthand.{num, boolean, str, var, op, un, list, call, func, body, body_with, locals, local_function, print, set, scope, when, when_or, while, repeat, count, count_by, leave, word, here, runs}

abbrev pub nothing_takes_the_turn_of_its_block-program : List Stat
nothing_takes_the_turn_of_its_block-program = []

nothing_takes_the_turn_of_its_block : runs 10 nothing_takes_the_turn_of_its_block-program ≡ ([], finished, 1)
nothing_takes_the_turn_of_its_block = refl

abbrev pub nothing_begins_without_a_turn-program : List Stat
nothing_begins_without_a_turn-program = print (num 1 ∷ []) ∷ []

nothing_begins_without_a_turn : runs 0 nothing_begins_without_a_turn-program ≡ ([], spent, 0)
nothing_begins_without_a_turn = refl

-- while true do end
abbrev pub endless_loops_are_cut-program : List Stat
endless_loops_are_cut-program = while (boolean true) [] ∷ []

endless_loops_are_cut : runs 1000 endless_loops_are_cut-program ≡ ([], spent, 1000)
endless_loops_are_cut = refl

-- repeat until true
abbrev pub repeat_takes_a_turn-program : List Stat
repeat_takes_a_turn-program = repeat [] (boolean true) ∷ []

repeat_takes_a_turn : runs 10 repeat_takes_a_turn-program ≡ ([], finished, 2)
repeat_takes_a_turn = refl

-- while false do end
abbrev pub untried_loops_take_no_turn-program : List Stat
untried_loops_take_no_turn-program = while (boolean false) [] ∷ []

untried_loops_take_no_turn : runs 10 untried_loops_take_no_turn-program ≡ ([], finished, 1)
untried_loops_take_no_turn = refl

-- local n = 0; while n < 3 do n = n + 1 end; print(n)
abbrev pub while_counts-program : List Stat
while_counts-program = locals 1 (list (num 0 ∷ [])) ∷ while (op b.Less (var 0) (num 3)) (set (0 ∷ []) (list (op b.Add (var 0) (num 1) ∷ [])) ∷ []) ∷ print (var 0 ∷ []) ∷ []

while_counts : runs 10 while_counts-program ≡ (codes "3\n", finished, 4)
unfolding digits int_wrap
while_counts = refl

-- local n = 0; repeat local m = n; n = n + 1 until m == 2; print(n)
abbrev pub conditions_of_repeat_see_its_locals-program : List Stat
conditions_of_repeat_see_its_locals-program = locals 1 (list (num 0 ∷ [])) ∷ repeat (locals 1 (list (var 0 ∷ [])) ∷ set (0 ∷ []) (list (op b.Add (var 0) (num 1) ∷ [])) ∷ []) (op b.Equal (var 1) (num 2)) ∷ print (var 0 ∷ []) ∷ []

conditions_of_repeat_see_its_locals : runs 10 conditions_of_repeat_see_its_locals-program ≡ (codes "3\n", finished, 4)
unfolding digits int_wrap
conditions_of_repeat_see_its_locals = refl

-- for i = 1, 3 do print(i) end
abbrev pub counts_up-program : List Stat
counts_up-program = count (num 1) (num 3) (print (var 0 ∷ []) ∷ []) ∷ []

counts_up : runs 10 counts_up-program ≡ (codes "1\n2\n3\n", finished, 4)
unfolding digits int_wrap
counts_up = refl

-- for i = 3, 1 do print(i) end; for i = 5, 0, -2 do print(i) end
abbrev pub counts_down-program : List Stat
counts_down-program = count (num 3) (num 1) (print (var 0 ∷ []) ∷ []) ∷ count_by (num 5) (num 0) (un u.Negate (num 2)) (print (var 1 ∷ []) ∷ []) ∷ []

counts_down : runs 10 counts_down-program ≡ (codes "5\n3\n1\n", finished, 4)
unfolding digits int_wrap
counts_down = refl

-- for i = math.maxinteger - 1, math.maxinteger do print(i) end
abbrev pub counts_to_the_greatest_integer-program : List Stat
counts_to_the_greatest_integer-program = count (op b.Subtract (tree.field here (var 21) word) (num 1)) (tree.field here (var 21) word) (print (var 0 ∷ []) ∷ []) ∷ []

counts_to_the_greatest_integer : runs 10 counts_to_the_greatest_integer-program ≡ (codes "9223372036854775806\n9223372036854775807\n", finished, 3)
unfolding digits int_wrap
counts_to_the_greatest_integer = refl

-- for i = math.mininteger, math.mininteger, -1 do print(i) end
abbrev pub counts_to_the_least_integer-program : List Stat
counts_to_the_least_integer-program = count_by (tree.field here (var 22) word) (tree.field here (var 22) word) (un u.Negate (num 1)) (print (var 0 ∷ []) ∷ []) ∷ []

counts_to_the_least_integer : runs 10 counts_to_the_least_integer-program ≡ (codes "-9223372036854775808\n", finished, 2)
unfolding digits int_wrap
counts_to_the_least_integer = refl

-- for i = 1, 3 do local j = i; i = 10; print(i, j) end
abbrev pub loop_variables_are_assigned_in_vain-program : List Stat
loop_variables_are_assigned_in_vain-program = count (num 1) (num 3) (locals 1 (list (var 0 ∷ [])) ∷ set (0 ∷ []) (list (num 10 ∷ [])) ∷ print (var 0 ∷ var 1 ∷ []) ∷ []) ∷ []

loop_variables_are_assigned_in_vain : runs 10 loop_variables_are_assigned_in_vain-program ≡ (codes "10\t1\n10\t2\n10\t3\n", finished, 4)
unfolding digits int_wrap
loop_variables_are_assigned_in_vain = refl

-- local f, g; for i = 1, 2 do if i == 1 then f = function() i = i + 5 return i end else g = function() return i end end end; print(f(), f(), g())
abbrev pub turns_have_variables_of_their_own-program : List Stat
turns_have_variables_of_their_own-program = locals 2 (list []) ∷ count (num 1) (num 2)
    (when_or (op b.Equal (var 2) (num 1))
    (set (0 ∷ []) (list (func 0 (body_with (set (2 ∷ []) (list (op b.Add (var 2) (num 5) ∷ [])) ∷ []) (list (var 2 ∷ []))) ∷ [])) ∷ [])
    (set (1 ∷ []) (list (func 0 (body_with [] (list (var 2 ∷ []))) ∷ [])) ∷ []) ∷ [])
    ∷ print (call (var 0) [] ∷ call (var 0) [] ∷ call (var 1) [] ∷ []) ∷ []

turns_have_variables_of_their_own : runs 20 turns_have_variables_of_their_own-program ≡ (codes "6\t11\t2\n", finished, 6)
unfolding digits int_wrap
turns_have_variables_of_their_own = refl

-- for i = 1, 2 do for j = 1, 5 do if j == 2 then break end; print(i, j) end end
abbrev pub break_leaves_one_loop-program : List Stat
break_leaves_one_loop-program = count (num 1) (num 2) (count (num 1) (num 5) (when (op b.Equal (var 1) (num 2)) (leave ∷ []) ∷ print (var 0 ∷ var 1 ∷ []) ∷ []) ∷ []) ∷ []

break_leaves_one_loop : runs 20 break_leaves_one_loop-program ≡ (codes "1\t1\n2\t1\n", finished, 7)
unfolding digits int_wrap
break_leaves_one_loop = refl

-- while true do repeat break until false; break end; print("out")
abbrev pub break_of_repeat-program : List Stat
break_of_repeat-program = while (boolean true) (repeat (leave ∷ []) (boolean false) ∷ leave ∷ []) ∷ print (str (codes "out") ∷ []) ∷ []

break_of_repeat : runs 20 break_of_repeat-program ≡ (codes "out\n", finished, 3)
break_of_repeat = refl

-- local function f() for i = 1, 5 do while true do if i == 3 then return i end; break end end end; print(f())
abbrev pub return_leaves_all_loops-program : List Stat
return_leaves_all_loops-program = local_function (func 0 (body (count (num 1) (num 5) (while (boolean true) (tree.choose here (tree.clause (op b.Equal (var 1) (num 3)) (body_with [] (list (var 1 ∷ []))) tree.no_clause) tree.no_else ∷ leave ∷ []) ∷ []) ∷ [])))
    ∷ print (call (var 0) [] ∷ []) ∷ []

return_leaves_all_loops : runs 20 return_leaves_all_loops-program ≡ (codes "3\n", finished, 8)
unfolding digits int_wrap
return_leaves_all_loops = refl

-- local x = 1; local x = x + 1; do local x = 5; x = 6 end; print(x)
abbrev pub blocks_hide_locals-program : List Stat
blocks_hide_locals-program = locals 1 (list (num 1 ∷ [])) ∷ locals 1 (list (op b.Add (var 0) (num 1) ∷ [])) ∷ scope (locals 1 (list (num 5 ∷ [])) ∷ set (2 ∷ []) (list (num 6 ∷ [])) ∷ []) ∷ print (var 1 ∷ []) ∷ []

blocks_hide_locals : runs 10 blocks_hide_locals-program ≡ (codes "2\n", finished, 1)
unfolding digits int_wrap
blocks_hide_locals = refl

-- local x = 2; if x == 1 then print("a") elseif x == 2 then print("b") else print("c") end
abbrev pub one_clause_runs-program : List Stat
one_clause_runs-program = locals 1 (list (num 2 ∷ [])) ∷ tree.choose here (tree.clause (op b.Equal (var 0) (num 1)) (body (print (str (codes "a") ∷ []) ∷ []))
    (tree.clause (op b.Equal (var 0) (num 2)) (body (print (str (codes "b") ∷ []) ∷ [])) tree.no_clause)) (tree.else_do (body (print (str (codes "c") ∷ []) ∷ []))) ∷ []

one_clause_runs : runs 10 one_clause_runs-program ≡ (codes "b\n", finished, 1)
one_clause_runs = refl
