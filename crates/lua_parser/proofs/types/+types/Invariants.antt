use Rattle.std.proofs.Common.{◌+◌, ◌*◌, ◌++◌, ◌∷◌, length}
use Rattle.lua_tree.specs.declared.annotation.TypeExpr.TheVariants as t
use Rattle.lua_parser.specs.Grammar.Types.{tuple, results}
use Rattle.lua_parser.specs.Machine.Plan.{Item, read}
use Rattle.lua_parser.specs.Machine.Steps.{tuple_then}
use Rattle.lua_parser.specs.TypeReadings.{Leads, after_of, rest_of_union, fields_behind, item_behind}
use Rattle.lua_parser.proofs.types.+types.Given as goal

-- What is left to read, and then who calls whom before a word is taken.
abbrev pub decreases-any_type : goal.decreases-any_type
decreases-any_type l = 8 * length l.cursor.now + 4

abbrev pub decreases-behind_paren : goal.decreases-behind_paren
decreases-behind_paren l = 8 * length l.cursor.now + 6

abbrev pub decreases-braces : goal.decreases-braces
decreases-braces l = 8 * length l.cursor.now + 7

abbrev pub decreases-fields : goal.decreases-fields
decreases-fields l = 8 * length l.cursor.now + 5

abbrev pub decreases-map : goal.decreases-map
decreases-map l = 8 * length l.cursor.now + 5

abbrev pub decreases-member : goal.decreases-member
decreases-member l = 8 * length l.cursor.now + 1

abbrev pub decreases-named_in_braces : goal.decreases-named_in_braces
decreases-named_in_braces l = 8 * length l.cursor.now + 6

abbrev pub decreases-next_member : goal.decreases-next_member
decreases-next_member l = 8 * length l.cursor.now + 2

abbrev pub decreases-plain : goal.decreases-plain
decreases-plain l = 8 * length l.cursor.now

abbrev pub decreases-results : goal.decreases-results
decreases-results l = 8 * length l.cursor.now + 5

abbrev pub decreases-tuple : goal.decreases-tuple
decreases-tuple l = 8 * length l.cursor.now + 5

abbrev pub decreases-union : goal.decreases-union
decreases-union l = 8 * length l.cursor.now + 3

abbrev pub invariant-fields-loop-start : goal.invariant-fields-loop-start
invariant-fields-loop-start l = Leads 0 (fields_behind l.fn.first) l.fn.cursor (λ k. fields_behind l.start (λ fs. k (l.fields ++ fs))) l.cursor

abbrev pub decreases-fields-loop-start : goal.decreases-fields-loop-start
decreases-fields-loop-start l = length l.cursor

abbrev pub invariant-results-loop-tuples : goal.invariant-results-loop-tuples
invariant-results-loop-tuples l = Leads 1 (read Item.some_results) l.fn.cursor (λ k. tuple_then λ a. read Item.more_results λ r. k (results l.pos (l.tuples ++ tuple a.0 a.1 ∷ r.0), r.1)) l.cursor

abbrev pub decreases-results-loop-tuples : goal.decreases-results-loop-tuples
decreases-results-loop-tuples l = length l.cursor

abbrev pub invariant-tuple-loop-items : goal.invariant-tuple-loop-items
invariant-tuple-loop-items l = Leads 0 tuple_then l.fn.cursor (λ k. read Item.a_type (λ y. item_behind y (λ r. k (l.items ++ r.0, r.1)))) l.cursor

abbrev pub decreases-tuple-loop-items : goal.decreases-tuple-loop-items
decreases-tuple-loop-items l = length l.cursor

abbrev pub invariant-union-loop-types : goal.invariant-union-loop-types
invariant-union-loop-types l = Leads 0 (rest_of_union l.fn.first) l.fn.cursor (λ k. read (Item.more_of_union (after_of l.ending)) λ xs. k (t.Union l.pos (l.types ++ xs))) l.cursor

abbrev pub decreases-union-loop-types : goal.decreases-union-loop-types
decreases-union-loop-types l = length l.cursor
