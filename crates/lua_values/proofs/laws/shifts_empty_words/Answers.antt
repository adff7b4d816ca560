use Rattle.lua_values.proofs.Arithmetic.{shift_left-far, shift_right-far, shift_left-negative, shift_right-negative}
use Rattle.lua_values.proofs.laws.shifts_empty_words.Goals as goal

pub returns-clause-left : goal.returns-clause-left
returns-clause-left c = shift_left-far

pub returns-clause-right : goal.returns-clause-right
returns-clause-right c = shift_right-far

pub returns-clause-left_negative : goal.returns-clause-left_negative
returns-clause-left_negative c = shift_left-negative

pub returns-clause-right_negative : goal.returns-clause-right_negative
returns-clause-right_negative c = shift_right-negative
