-- Functions, closures, `...`, and the generic `for`, as code.
use Rattle.std.proofs.Common.{refl}
use Rattle.std.specs.Fmt.{digits}
use Rattle.std.specs.Int.{int_wrap}
use Rattle.lua_meaning.proofs.Rows.Functions.{counters-program, rest_is_cut_and_spread-program, rest_fills_locals-program, lists_spread_their_last_call-program, a_body_that_falls_through_gives_nothing-program, recursion-program, numbers_of_locals_pass_over_functions-program, closures_share_variables-program, arguments_are_cut_and_filled-program, iterators_are_called_with_state_and_control-program, functions_are_numbered_in_order_of_making-program, endless_recursion_is_cut-program}
use Rattle.lua_code.proofs.Rows.Agreement.{Agrees}

counters : Agrees 10 counters-program
unfolding digits int_wrap
counters = refl

rest_is_cut_and_spread : Agrees 10 rest_is_cut_and_spread-program
unfolding digits int_wrap
rest_is_cut_and_spread = refl

rest_fills_locals : Agrees 10 rest_fills_locals-program
unfolding digits int_wrap
rest_fills_locals = refl

lists_spread_their_last_call : Agrees 10 lists_spread_their_last_call-program
unfolding digits int_wrap
lists_spread_their_last_call = refl

a_body_that_falls_through_gives_nothing : Agrees 10 a_body_that_falls_through_gives_nothing-program
unfolding digits int_wrap
a_body_that_falls_through_gives_nothing = refl

recursion : Agrees 50 recursion-program
unfolding digits int_wrap
recursion = refl

numbers_of_locals_pass_over_functions : Agrees 10 numbers_of_locals_pass_over_functions-program
unfolding digits int_wrap
numbers_of_locals_pass_over_functions = refl

closures_share_variables : Agrees 10 closures_share_variables-program
unfolding digits int_wrap
closures_share_variables = refl

arguments_are_cut_and_filled : Agrees 10 arguments_are_cut_and_filled-program
unfolding digits int_wrap
arguments_are_cut_and_filled = refl

iterators_are_called_with_state_and_control : Agrees 20 iterators_are_called_with_state_and_control-program
unfolding digits int_wrap
iterators_are_called_with_state_and_control = refl

functions_are_numbered_in_order_of_making : Agrees 10 functions_are_numbered_in_order_of_making-program
unfolding digits int_wrap
functions_are_numbered_in_order_of_making = refl

endless_recursion_is_cut : Agrees 50 endless_recursion_is_cut-program
unfolding digits int_wrap
endless_recursion_is_cut = refl
