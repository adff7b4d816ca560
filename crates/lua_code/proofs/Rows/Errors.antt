-- Errors, their texts and their places, as code.
use Rattle.std.proofs.Common.{refl}
use Rattle.std.specs.Fmt.{digits}
use Rattle.std.specs.Int.{int_wrap}
use Rattle.lua_meaning.proofs.Rows.Errors.{arithmetic-program, the_first_wrong_operand-program, bitwise-program, concatenation-program, length_of_a_number-program, comparison-program, comparison_the_other_way_round-program, call_of_a_nil-program, bounds_in_order-program, step_zero-program, division_by_zero-program, modulo_by_zero-program, call_of_the_iterator-program, output_before_an_error-program}
use Rattle.lua_code.proofs.Rows.Agreement.{Agrees}

arithmetic : Agrees 5 arithmetic-program
unfolding digits int_wrap
arithmetic = refl

the_first_wrong_operand : Agrees 5 the_first_wrong_operand-program
unfolding digits int_wrap
the_first_wrong_operand = refl

bitwise : Agrees 5 bitwise-program
unfolding digits int_wrap
bitwise = refl

concatenation : Agrees 5 concatenation-program
unfolding digits int_wrap
concatenation = refl

length_of_a_number : Agrees 5 length_of_a_number-program
unfolding digits int_wrap
length_of_a_number = refl

comparison : Agrees 5 comparison-program
unfolding digits int_wrap
comparison = refl

comparison_the_other_way_round : Agrees 5 comparison_the_other_way_round-program
unfolding digits int_wrap
comparison_the_other_way_round = refl

call_of_a_nil : Agrees 5 call_of_a_nil-program
unfolding digits int_wrap
call_of_a_nil = refl

bounds_in_order : Agrees 5 bounds_in_order-program
unfolding digits int_wrap
bounds_in_order = refl

step_zero : Agrees 5 step_zero-program
unfolding digits int_wrap
step_zero = refl

division_by_zero : Agrees 5 division_by_zero-program
unfolding digits int_wrap
division_by_zero = refl

modulo_by_zero : Agrees 5 modulo_by_zero-program
unfolding digits int_wrap
modulo_by_zero = refl

call_of_the_iterator : Agrees 5 call_of_the_iterator-program
unfolding digits int_wrap
call_of_the_iterator = refl

output_before_an_error : Agrees 5 output_before_an_error-program
unfolding digits int_wrap
output_before_an_error = refl
