use Rattle.code_gen.proofs.Programs.{written_formed, written_means}
use Rattle.code_gen.proofs.modules.generate.Goals as goal

pub returns-clause-formed : goal.returns-clause-formed
returns-clause-formed c = λ h. written_formed c.code_is_well_formed.ensures c.args.modules.now c.written.result c.written.ensures h

pub returns-clause-faithful : goal.returns-clause-faithful
returns-clause-faithful c = λ h. written_means c.code_has_the_meaning.ensures c.args.modules.now c.written.result c.written.ensures h
