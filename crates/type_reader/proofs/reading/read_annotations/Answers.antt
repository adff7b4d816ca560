use Rattle.std.proofs.Common.{ap, sym, ◌∙◌}
use Rattle.std.specs.Prelude.{Some}
use Rattle.type_reader.specs.Lookups.{names_in}
use Rattle.type_reader.specs.Reading.{used_fault, annotation_type}
use Rattle.type_reader.specs.Seen.{annotation_of}
use Rattle.type_reader.proofs.Every.{every_more_of}
use Rattle.type_reader.proofs.Readings.{first_next}
use Rattle.type_reader.proofs.reading.read_annotations.Goals as goal

pub loop-annotation-preserved : goal.loop-annotation-preserved
loop-annotation-preserved c = record {
  fault = first_next (used_fault (names_in c.args.names)) annotation_of c.args.annotations.now c.loop-annotation.annotation-index c.annotation-item.result c.loop-annotation-test.true (ap (λ a. used_fault (names_in c.args.names) (annotation_of a)) (sym c.annotation-item.is) ∙ c.in_ok-ty.ensures.answers) ∙ c.loop-annotation.invariant.fault;
  types = every_more_of (annotation_type (names_in c.args.names)) annotation_of c.args.annotations.now c.loop-annotation.annotation-index c.annotation-item.result c.loop-annotation.types c.in-Some.ty c.loop-annotation-test.true c.loop-annotation.invariant.types (ap (λ a. annotation_type (names_in c.args.names) (annotation_of a)) (sym c.annotation-item.is) ∙ sym c.in_ok-ty.ensures.ty ∙ c.in-Some.is) ∙ ap Some (sym c.in_ok-push-in-Some.ensures.ok);
}
