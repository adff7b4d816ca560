use Rattle.std.proofs.Common.{ap, sym, ◌∙◌, subst, [], is_none}
use Rattle.std.specs.Prelude.{Err}
use Rattle.tl_base.specs.declared.refusal.Failure.{Failure}
use Rattle.type_reader.specs.Declarations.{is_circular}
use Rattle.type_reader.specs.Lent.{declared_in}
use Rattle.type_reader.specs.Lookups.{names_in}
use Rattle.type_reader.specs.Reading.{circle_fault}
use Rattle.type_reader.specs.Answers.{Answers}
use Rattle.type_reader.proofs.Keys.{circle_told}
use Rattle.type_reader.proofs.faults.check_circle.Goals as goal

pub returns-then-branch : goal.returns-then-branch
returns-then-branch c =
    let names = names_in c.args.names in
    let ds = declared_in c.args.«module».declared.now in
    let text = c.args.declaration.now.name.now.text in
    let pos = c.args.declaration.now.pos in
    subst (λ (f : Failure). Answers {A = Unit {0}} (circle_fault ds names pos text) (Err f)) (sym c.refused.ensures)
    (circle_told (is_none (names.ty [] text)) (is_circular ds text) pos
    (ap (λ n. is_none (names.ty [] n)) (sym c.as_slice-name.ensures) ∙ sym c.is_untyped.ensures ∙ c.if-not-is_untyped.false)
    (ap (λ n. is_circular ds n) (sym c.as_slice-name.ensures) ∙ sym c.in_ok-is_circular.ensures ∙ c.if-branch.true))
