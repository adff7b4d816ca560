use Rattle.std.proofs.Common.{subst}
use Rattle.std.specs.Prelude.{Option}
use Rattle.tl_types.specs.declared.types.Ty.{Ty}
use Rattle.type_reader.specs.Answers.{Answers}
use Rattle.type_reader.specs.Lookups.{names_in}
use Rattle.type_reader.specs.Reading.{type_faults}
use Rattle.type_reader.proofs.reading.read_written.Goals as goal

pub returns-clause-answers : goal.returns-clause-answers
returns-clause-answers c =
    subst (λ p. Answers {A = Option Ty} (type_faults (names_in c.args.names) p c.args.e.now) c.read_type.result) (c.place_of.ensures (names_in c.args.names)) c.read_type.ensures.answers
