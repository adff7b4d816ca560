use Rattle.std.proofs.Common.{◌∷◌, ◌++◌, [], ap, ◌∙◌, sym, subst, List}
use Rattle.tl_types.specs.declared.types.Ty.{Ty}
use Rattle.tl_types.specs.declared.types.Ty.TheVariants as ty
use Rattle.tl_types.specs.Unions.{union_form}
use Rattle.tl_types.proofs.Gathered.{append_nil}
use Rattle.type_reader.specs.Gathered.{StandFor}
use Rattle.type_reader.specs.Types.{limited}
use Rattle.type_reader.proofs.Standing.{stand_next}
use Rattle.type_reader.proofs.building.with_nil.Goals as goal

pub returns : goal.returns
returns c =
    let t = c.args.ty.now in
    let one = c.add.new.self.kept in
    let two = c.add-2.new.self.kept in
    let first : StandFor one (t ∷ []) = subst (λ (r : List Ty). StandFor one (r ++ t ∷ [])) c.new-members.ensures.empty c.in_ok-add.ensures.stand in
    let both : StandFor two (t ∷ ty.Nil ∷ []) = stand_next one (t ∷ []) two ty.Nil first c.in_ok-add-2.ensures.stand in
    c.union_type.ensures ∙ (ap (λ (r : List Ty). limited (union_form r)) (sym (append_nil two)) ∙ both [])
