use Rattle.tl_sound.proofs.Listed.{all_listed}
use Rattle.tl_sound.proofs.laws.marks_are_listed.Goals as goal

pub returns-clause-first : goal.returns-clause-first
returns-clause-first c = λ ms words input n list l. (all_listed list ms words input n l).first

pub returns-clause-after : goal.returns-clause-after
returns-clause-after c = λ ms words input n list l. (all_listed list ms words input n l).after
