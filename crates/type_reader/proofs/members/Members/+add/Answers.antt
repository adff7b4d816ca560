use Rattle.std.proofs.Common.{◌++◌, List, ap, sym, ◌∙◌, subst}
use Rattle.std.proofs.lemmas.List.{take_all}
use Rattle.tl_types.specs.declared.types.Ty.{Ty}
use Rattle.tl_types.specs.declared.types.Ty.TheVariants as ty
use Rattle.type_reader.specs.Gathered.{StandFor}
use Rattle.type_reader.proofs.Standing.{stand_union}
use Rattle.type_reader.proofs.members.Members.+add.Goals as goal

pub returns-in-Union-clause-stand : goal.returns-in-Union-clause-stand
returns-in-Union-clause-stand t c =
    let ms = c.as_slice-member-items.result.now in
    let all = c.args.self.now.kept in
    let P : List Ty → Type 0 = λ r. StandFor c.loop-member.self.kept (all ++ r) in
    stand_union c.loop-member.self.kept all ms c.args.ty.now (c.in-Union.is ∙ ap ty.Union (sym c.as_slice-member-items.ensures))
    (subst P (take_all c.loop-member.member-index ms c.loop-member-test.false) c.loop-member.invariant.stand)
