use Rattle.std.proofs.Common.{◌≡◌, ◌∙◌, ◌++◌, List, None, ap, sym, map, length, subst}
use Rattle.type_reader.specs.declared.names.TypeName.{TypeName}
use Rattle.type_reader.specs.Annotations.{block_of}
use Rattle.type_reader.specs.Declarations.{Declaration, declarations, repeated_name}
use Rattle.type_reader.specs.Lent.{declared_in}
use Rattle.type_reader.specs.Outcomes.{IsRead}
use Rattle.type_reader.specs.Reading.{annotations_in, declarations_in}
use Rattle.type_reader.specs.Seen.{annotation_of}
use Rattle.type_reader.proofs.Readings.{whole}
use Rattle.type_reader.proofs.reading.read_module.Goals as goal

pub returns : goal.returns
returns c =
    let known = c.args.known.now in
    let scoped = c.args.scoped.now in
    let ds : List Declaration = declared_in c.deref-2.result.now in
    let xs = map annotation_of c.as_slice-3.result.now in
    let collected_all = c.in_ok-block.ensures ∙ ap (λ l. l ++ block_of scoped.chunk.body) c.new-annotations.ensures in
    let same_xs : xs ≡ annotations_in scoped = c.as_slice-3.ensures ∙ collected_all in
    let same_ds : ds ≡ declarations_in known scoped = ap declared_in c.deref-2.ensures.value ∙ c.in_ok-declared.ensures ∙ ap (λ n. declarations n (map annotation_of c.as_slice.result.now)) c.len.ensures
    ∙ ap (λ l. declarations (length known.interfaces.bodies) l) (c.as_slice.ensures ∙ collected_all) in
    let none : repeated_name ds ≡ None = ap (λ l. repeated_name (declared_in l)) (c.deref-2.ensures.value ∙ sym c.deref.ensures.value) ∙ c.in_ok-own.ensures.answers in
    whole c.args.of.now known scoped ds xs c.read_declared.result none same_ds same_xs
    (subst (λ (k : List TypeName). IsRead c.args.of.now k ds xs c.read_declared.result) (c.in_ok-others.ensures ∙ c.as_slice-2.ensures) c.read_declared.ensures)
