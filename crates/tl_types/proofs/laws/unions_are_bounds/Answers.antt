use Rattle.tl_types.specs.Below.{below}
use Rattle.tl_types.proofs.UnionLaws.{from_union_law, to_union_law}
use Rattle.tl_types.proofs.laws.unions_are_bounds.Goals as goal

pub returns-clause-from : goal.returns-clause-from
returns-clause-from c = λ loose bodies n ts t strict. from_union_law loose bodies (below loose bodies n) ts t strict

pub returns-clause-to : goal.returns-clause-to
returns-clause-to c = λ loose bodies n s ts single strict. to_union_law loose bodies (below loose bodies n) s ts single strict
