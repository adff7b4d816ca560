use Rattle.std.proofs.Common.{ap, ◌∙◌, sym}
use Rattle.std.specs.List.{list_any}
use Rattle.tl_types.specs.Unions.{is_any, is_value, is_int, is_str, union_from}
use Rattle.type_reader.proofs.UnionSizes.{form_left}
use Rattle.type_reader.proofs.members.formed.Goals as goal

pub returns : goal.returns
returns c =
    let kept = c.args.kept in
    let kinds = c.kinds_of-kinds.result in
    let is = c.kinds_of-kinds.ensures in
    let same = c.as_slice.ensures in
    c.from_members.ensures
    ∙ (ap union_from c.left_beside.ensures
    ∙ sym (form_left kept kinds.int kinds.str c.requires.flat c.requires.once
    (ap (list_any is_any) (sym same) ∙ (sym is.any ∙ c.if-kinds.false))
    (ap (list_any is_value) (sym same) ∙ (sym is.value ∙ c.if-kinds-2.false))
    (is.int ∙ ap (list_any is_int) same)
    (is.str ∙ ap (list_any is_str) same)))
