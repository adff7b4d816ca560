use Rattle.std.proofs.Common.{refl}
use Rattle.tl_types.specs.declared.types.Ty.TheVariants as ty
use Rattle.tl_types.specs.Below.{below}
use Rattle.tl_types.proofs.Layers.{step_to_union}
use Rattle.tl_types.proofs.EveryDepth.{union_from_each, union_to_member}
use Rattle.tl_types.proofs.laws.unions_compare_by_members.Goals as goal

pub returns-clause-from : goal.returns-clause-from
returns-clause-from c = λ loose bodies ms t. union_from_each loose bodies (ty.Union ms) t ms refl

pub returns-clause-to : goal.returns-clause-to
returns-clause-to c = λ loose bodies s m ms here e. union_to_member loose bodies s (ty.Union ms) m ms refl here e

pub returns-clause-only : goal.returns-clause-only
returns-clause-only c = λ loose bodies n s ms single strict. step_to_union loose bodies (below loose bodies n) s (ty.Union ms) ms single strict refl
