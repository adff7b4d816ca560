use Rattle.std.proofs.Common.{not, ap, ◌∙◌, rules}
use Rattle.std.specs.Prelude.{filter}
use Rattle.std.proofs.lemmas.Fn.{filter_same}
use Rattle.tl_types.specs.declared.types.Ty.{Ty, out-Ty}
use Rattle.tl_types.specs.Unions.{is_covered_form}
use Rattle.type_reader.proofs.members.left_beside.Goals as goal

pub returns : goal.returns
returns c =
    let kinds = c.args.kinds in
    c.from_vec.ensures
    ∙ (filter_same _ (λ (t : Ty). not (is_covered_form kinds.int kinds.str (out-Ty t))) _ (λ x b f' k. search rules) _ _ c.retain.ensures.filtered
    ∙ ap (filter (λ (t : Ty). not (is_covered_form kinds.int kinds.str (out-Ty t)))) c.into_vec-left.ensures)
