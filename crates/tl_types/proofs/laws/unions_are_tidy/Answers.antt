use Rattle.tl_types.proofs.UnionShape.{flat_union, distinct_union, no_int_literal, no_str_literal, union_has, union_keeps}
use Rattle.tl_types.proofs.laws.unions_are_tidy.Goals as goal

pub returns-clause-flat : goal.returns-clause-flat
returns-clause-flat c = flat_union

pub returns-clause-once : goal.returns-clause-once
returns-clause-once c = distinct_union

pub returns-clause-integers : goal.returns-clause-integers
returns-clause-integers c = no_int_literal

pub returns-clause-strings : goal.returns-clause-strings
returns-clause-strings c = no_str_literal

pub returns-clause-has : goal.returns-clause-has
returns-clause-has c = union_has

pub returns-clause-keeps : goal.returns-clause-keeps
returns-clause-keeps c = union_keeps
