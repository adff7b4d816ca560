-- Expressions, as code.
use Rattle.std.proofs.Common.{refl}
use Rattle.std.specs.Fmt.{digits}
use Rattle.std.specs.Int.{int_wrap}
use Rattle.lua_meaning.proofs.Rows.Expressions.{division_rounds_down-program, edges_of_words-program, words_wrap-program, bits-program, texts-program, strings_compare_by_bytes-program, integers_compare-program, logic_gives_operands-program, operands_from_left_to_right-program, greater_evaluates_its_left_operand_first-program, right_operands_wait-program, assignments_store_from_last_to_first-program}
use Rattle.lua_code.proofs.Rows.Agreement.{Agrees}

division_rounds_down : Agrees 10 division_rounds_down-program
unfolding digits int_wrap
division_rounds_down = refl

edges_of_words : Agrees 10 edges_of_words-program
unfolding digits int_wrap
edges_of_words = refl

words_wrap : Agrees 10 words_wrap-program
unfolding digits int_wrap
words_wrap = refl

bits : Agrees 10 bits-program
unfolding digits int_wrap
bits = refl

texts : Agrees 10 texts-program
unfolding digits int_wrap
texts = refl

strings_compare_by_bytes : Agrees 10 strings_compare_by_bytes-program
unfolding digits int_wrap
strings_compare_by_bytes = refl

integers_compare : Agrees 10 integers_compare-program
unfolding digits int_wrap
integers_compare = refl

logic_gives_operands : Agrees 10 logic_gives_operands-program
unfolding digits int_wrap
logic_gives_operands = refl

operands_from_left_to_right : Agrees 10 operands_from_left_to_right-program
unfolding digits int_wrap
operands_from_left_to_right = refl

greater_evaluates_its_left_operand_first : Agrees 10 greater_evaluates_its_left_operand_first-program
unfolding digits int_wrap
greater_evaluates_its_left_operand_first = refl

right_operands_wait : Agrees 10 right_operands_wait-program
unfolding digits int_wrap
right_operands_wait = refl

assignments_store_from_last_to_first : Agrees 10 assignments_store_from_last_to_first-program
unfolding digits int_wrap
assignments_store_from_last_to_first = refl
