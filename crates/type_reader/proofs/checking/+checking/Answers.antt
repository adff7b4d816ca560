use Rattle.std.proofs.Common.{ap, sym, ◌∙◌, subst}
use Rattle.std.specs.Prelude.{Some, Err}
use Rattle.tl_base.specs.declared.refusal.Failure.{Failure}
use Rattle.tl_base.specs.declared.refusal.RefusalCode.TheVariants as code
use Rattle.type_reader.specs.Faults.{Told, at, told_of, key_fault}
use Rattle.type_reader.specs.Answers.{Answers}
use Rattle.type_reader.specs.Lookups.{names_in}
use Rattle.type_reader.proofs.Keys.{no_key_fault}
use Rattle.type_reader.proofs.checking.+checking.Goals as goal

pub check_key-returns-else-branch : goal.check_key-returns-else-branch
check_key-returns-else-branch t c =
    let told : Told = told_of (names_in c.args.names) c.args.e.now in
    subst (λ (f : Failure). Answers {A = Unit {0}} (key_fault told) (Err f)) (sym c.refused.ensures)
    (no_key_fault told c.in_ok-check_type.ensures (sym c.in_ok-is_key.ensures ∙ c.if-branch.false) ∙ ap (λ p. Some (at code.Y4 p)) (sym (c.place_of.ensures (names_in c.args.names))))
