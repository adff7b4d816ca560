-- Functions, closures, `...`, and the generic `for`.
use Rattle.std.proofs.Common.{◌≡◌, refl, List, [], ◌∷◌, codes}
use Rattle.std.specs.Fmt.{digits}
use Rattle.std.specs.Int.{int_wrap}
use Rattle.lua_tree.specs.declared.syntax.BinaryOperator.TheVariants as b
use Rattle.lua_tree.specs.Tree as tree
use Rattle.lua_tree.specs.Tree.{Exp, Stat}
use Rattle.lua_meaning.specs.Programs.{finished, spent}
use Rattle.lua_meaning.proofs.Rows.Shorthand.{num, nil, var, op, list, list_with, called, call, dots, func, func_with_rest, body, body_with, locals, local_function, print, print_all, set, each, run, here, runs}

-- local function c() local n = 0 return function() n = n + 1 return n end end
-- local a, b = c(), c()
-- print(a(), a(), b())
abbrev pub counters-program : List Stat
counters-program = local_function (func 0 (body_with (locals 1 (list (num 0 ∷ [])) ∷ []) (list (func 0 (body_with (set (1 ∷ []) (list (op b.Add (var 1) (num 1) ∷ [])) ∷ []) (list (var 1 ∷ []))) ∷ []))))
    ∷ locals 2 (list_with (call (var 0) [] ∷ []) (called (var 0) []))
    ∷ print_all (list_with (call (var 2) [] ∷ call (var 2) [] ∷ []) (called (var 3) [])) ∷ []

counters : runs 10 counters-program ≡ (codes "1\t2\t1\n", finished, 6)
unfolding digits int_wrap
counters = refl

-- local function f(...) return ... end
-- print((f()), f(1, nil, 3))
abbrev pub rest_is_cut_and_spread-program : List Stat
rest_is_cut_and_spread-program = local_function (func_with_rest 0 (body_with [] (tree.ends dots)))
    ∷ print_all (list_with (tree.paren here (call (var 0) []) ∷ []) (called (var 0) (num 1 ∷ nil ∷ num 3 ∷ []))) ∷ []

rest_is_cut_and_spread : runs 10 rest_is_cut_and_spread-program ≡ (codes "nil\t1\tnil\t3\n", finished, 3)
unfolding digits int_wrap
rest_is_cut_and_spread = refl

-- local function f(a, ...) local b, c = ...; print(a, b, c, ...) end
-- f(1, 2); f(1, 2, 3, 4); f()
abbrev pub rest_fills_locals-program : List Stat
rest_fills_locals-program = local_function (func_with_rest 1 (body (locals 2 (tree.ends dots) ∷ print_all (list_with (var 1 ∷ var 2 ∷ var 3 ∷ []) dots) ∷ [])))
    ∷ run (var 0) (num 1 ∷ num 2 ∷ []) ∷ run (var 0) (num 1 ∷ num 2 ∷ num 3 ∷ num 4 ∷ []) ∷ run (var 0) [] ∷ []

rest_fills_locals : runs 10 rest_fills_locals-program ≡ (codes "1\t2\tnil\t2\n1\t2\t3\t2\t3\t4\nnil\tnil\tnil\n", finished, 4)
unfolding digits int_wrap
rest_fills_locals = refl

-- local function f() return 1, 2 end
-- print(f(), f()); local a, b, c = f(); print(a, b, c); print((f()))
abbrev pub lists_spread_their_last_call-program : List Stat
lists_spread_their_last_call-program = local_function (func 0 (body_with [] (list (num 1 ∷ num 2 ∷ [])))) ∷ print_all (list_with (call (var 0) [] ∷ []) (called (var 0) []))
    ∷ locals 3 (tree.ends (called (var 0) [])) ∷ print (var 1 ∷ var 2 ∷ var 3 ∷ []) ∷ print (tree.paren here (call (var 0) []) ∷ []) ∷ []

lists_spread_their_last_call : runs 10 lists_spread_their_last_call-program ≡ (codes "1\t1\t2\n1\t2\tnil\n1\n", finished, 5)
unfolding digits int_wrap
lists_spread_their_last_call = refl

-- local function f() end; print(f()); print((f()))
abbrev pub a_body_that_falls_through_gives_nothing-program : List Stat
a_body_that_falls_through_gives_nothing-program = local_function (func 0 (body [])) ∷ print_all (list_with [] (called (var 0) [])) ∷ print (tree.paren here (call (var 0) []) ∷ []) ∷ []

a_body_that_falls_through_gives_nothing : runs 10 a_body_that_falls_through_gives_nothing-program ≡ (codes "\nnil\n", finished, 3)
a_body_that_falls_through_gives_nothing = refl

-- local function fact(n) if n == 0 then return 1 end; return n * fact(n - 1) end; print(fact(20), fact(21))
abbrev pub recursion-program : List Stat
recursion-program = local_function (func 1 (body_with
    (tree.choose here (tree.clause (op b.Equal (var 1) (num 0)) (body_with [] (list (num 1 ∷ []))) tree.no_clause) tree.no_else ∷ [])
    (list (op b.Multiply (var 1) (call (var 0) (op b.Subtract (var 1) (num 1) ∷ [])) ∷ []))))
    ∷ print (call (var 0) (num 20 ∷ []) ∷ call (var 0) (num 21 ∷ []) ∷ []) ∷ []

recursion : runs 50 recursion-program ≡ (codes "2432902008176640000\t-4249290049419214848\n", finished, 44)
unfolding digits int_wrap
recursion = refl

-- local f = function(a, b) local c = a; return function(d) return c + d end end; local g = f(1, 2); print(g(10))
abbrev pub numbers_of_locals_pass_over_functions-program : List Stat
numbers_of_locals_pass_over_functions-program = locals 1 (list (func 2 (body_with (locals 1 (list (var 1 ∷ [])) ∷ []) (list (func 1 (body_with [] (list (op b.Add (var 3) (var 4) ∷ []))) ∷ []))) ∷ []))
    ∷ locals 1 (list (call (var 0) (num 1 ∷ num 2 ∷ []) ∷ [])) ∷ print (call (var 5) (num 10 ∷ []) ∷ []) ∷ []

numbers_of_locals_pass_over_functions : runs 10 numbers_of_locals_pass_over_functions-program ≡ (codes "11\n", finished, 3)
unfolding digits int_wrap
numbers_of_locals_pass_over_functions = refl

-- local x = 1; local function f() return x end; x = 2; print(f()); local function g() x = x + 1 end; g(); g(); print(x)
abbrev pub closures_share_variables-program : List Stat
closures_share_variables-program = locals 1 (list (num 1 ∷ [])) ∷ local_function (func 0 (body_with [] (list (var 0 ∷ [])))) ∷ set (0 ∷ []) (list (num 2 ∷ [])) ∷ print (call (var 1) [] ∷ [])
    ∷ local_function (func 0 (body (set (0 ∷ []) (list (op b.Add (var 0) (num 1) ∷ [])) ∷ []))) ∷ run (var 2) [] ∷ run (var 2) [] ∷ print (var 0 ∷ []) ∷ []

closures_share_variables : runs 10 closures_share_variables-program ≡ (codes "2\n4\n", finished, 4)
unfolding digits int_wrap
closures_share_variables = refl

-- local function f(a, b) print(a, b) end; f(1); f(1, 2, 3)
abbrev pub arguments_are_cut_and_filled-program : List Stat
arguments_are_cut_and_filled-program = local_function (func 2 (body (print (var 1 ∷ var 2 ∷ []) ∷ []))) ∷ run (var 0) (num 1 ∷ []) ∷ run (var 0) (num 1 ∷ num 2 ∷ num 3 ∷ []) ∷ []

arguments_are_cut_and_filled : runs 10 arguments_are_cut_and_filled-program ≡ (codes "1\tnil\n1\t2\n", finished, 3)
unfolding digits int_wrap
arguments_are_cut_and_filled = refl

-- local function it(s, c) if c < s then return c + 1, c * 10 end end
-- for i, x in it, 3, 0 do print(i, x) end
abbrev pub iterators_are_called_with_state_and_control-program : List Stat
iterators_are_called_with_state_and_control-program = local_function (func 2 (body
    (tree.choose here (tree.clause (op b.Less (var 2) (var 1)) (body_with [] (list (op b.Add (var 2) (num 1) ∷ op b.Multiply (var 2) (num 10) ∷ []))) tree.no_clause) tree.no_else ∷ [])))
    ∷ each 2 (list (var 0 ∷ num 3 ∷ num 0 ∷ [])) (print (var 3 ∷ var 4 ∷ []) ∷ []) ∷ []

iterators_are_called_with_state_and_control : runs 20 iterators_are_called_with_state_and_control-program ≡ (codes "1\t0\n2\t10\n3\t20\n", finished, 8)
unfolding digits int_wrap
iterators_are_called_with_state_and_control = refl

-- print(print, function() end, function() end)
abbrev pub functions_are_numbered_in_order_of_making-program : List Stat
functions_are_numbered_in_order_of_making-program = print (var 20 ∷ func 0 (body []) ∷ func 0 (body []) ∷ []) ∷ []

functions_are_numbered_in_order_of_making : runs 10 functions_are_numbered_in_order_of_making-program ≡ (codes "builtin: print\tfunction: 1\tfunction: 2\n", finished, 1)
unfolding digits int_wrap
functions_are_numbered_in_order_of_making = refl

-- local function f() f() end; f()
abbrev pub endless_recursion_is_cut-program : List Stat
endless_recursion_is_cut-program = local_function (func 0 (body (run (var 0) [] ∷ []))) ∷ run (var 0) [] ∷ []

endless_recursion_is_cut : runs 50 endless_recursion_is_cut-program ≡ ([], spent, 50)
endless_recursion_is_cut = refl
