-- Blocks, branches and loops, as code.
use Rattle.std.proofs.Common.{refl}
use Rattle.std.specs.Fmt.{digits}
use Rattle.std.specs.Int.{int_wrap}
use Rattle.lua_meaning.proofs.Rows.Control.{nothing_takes_the_turn_of_its_block-program, nothing_begins_without_a_turn-program, endless_loops_are_cut-program, repeat_takes_a_turn-program, untried_loops_take_no_turn-program, while_counts-program, conditions_of_repeat_see_its_locals-program, counts_up-program, counts_down-program, counts_to_the_greatest_integer-program, counts_to_the_least_integer-program, loop_variables_are_assigned_in_vain-program, turns_have_variables_of_their_own-program, break_leaves_one_loop-program, break_of_repeat-program, return_leaves_all_loops-program, blocks_hide_locals-program, one_clause_runs-program}
use Rattle.lua_code.proofs.Rows.Agreement.{Agrees}

nothing_takes_the_turn_of_its_block : Agrees 10 nothing_takes_the_turn_of_its_block-program
unfolding digits int_wrap
nothing_takes_the_turn_of_its_block = refl

nothing_begins_without_a_turn : Agrees 0 nothing_begins_without_a_turn-program
unfolding digits int_wrap
nothing_begins_without_a_turn = refl

endless_loops_are_cut : Agrees 1000 endless_loops_are_cut-program
unfolding digits int_wrap
endless_loops_are_cut = refl

repeat_takes_a_turn : Agrees 10 repeat_takes_a_turn-program
unfolding digits int_wrap
repeat_takes_a_turn = refl

untried_loops_take_no_turn : Agrees 10 untried_loops_take_no_turn-program
unfolding digits int_wrap
untried_loops_take_no_turn = refl

while_counts : Agrees 10 while_counts-program
unfolding digits int_wrap
while_counts = refl

conditions_of_repeat_see_its_locals : Agrees 10 conditions_of_repeat_see_its_locals-program
unfolding digits int_wrap
conditions_of_repeat_see_its_locals = refl

counts_up : Agrees 10 counts_up-program
unfolding digits int_wrap
counts_up = refl

counts_down : Agrees 10 counts_down-program
unfolding digits int_wrap
counts_down = refl

counts_to_the_greatest_integer : Agrees 10 counts_to_the_greatest_integer-program
unfolding digits int_wrap
counts_to_the_greatest_integer = refl

counts_to_the_least_integer : Agrees 10 counts_to_the_least_integer-program
unfolding digits int_wrap
counts_to_the_least_integer = refl

loop_variables_are_assigned_in_vain : Agrees 10 loop_variables_are_assigned_in_vain-program
unfolding digits int_wrap
loop_variables_are_assigned_in_vain = refl

turns_have_variables_of_their_own : Agrees 20 turns_have_variables_of_their_own-program
unfolding digits int_wrap
turns_have_variables_of_their_own = refl

break_leaves_one_loop : Agrees 20 break_leaves_one_loop-program
unfolding digits int_wrap
break_leaves_one_loop = refl

break_of_repeat : Agrees 20 break_of_repeat-program
unfolding digits int_wrap
break_of_repeat = refl

return_leaves_all_loops : Agrees 20 return_leaves_all_loops-program
unfolding digits int_wrap
return_leaves_all_loops = refl

blocks_hide_locals : Agrees 10 blocks_hide_locals-program
unfolding digits int_wrap
blocks_hide_locals = refl

one_clause_runs : Agrees 10 one_clause_runs-program
unfolding digits int_wrap
one_clause_runs = refl
