use Rattle.std.proofs.Common.{sym, ap, ◌∙◌, []}
use Rattle.std.specs.Prelude.{flat_map}
use Rattle.std.proofs.lemmas.List.{take_all}
use Rattle.tl_types.specs.Types.{members}
use Rattle.tl_types.specs.Adding.{add_all}
use Rattle.tl_types.proofs.Distinct.{union_is}
use Rattle.tl_types.proofs.unions.united.Goals as goal

pub returns : goal.returns
returns c =
    let seen = c.seen_in_all-seen in
    c.from_members.ensures
    ∙ union_is c.args.types.now c.loop-ty.kept.items seen.result.int seen.result.str
    (sym seen.ensures.any ∙ c.if-seen.false) (sym seen.ensures.value ∙ c.if-seen-2.false) seen.ensures.int seen.ensures.str
    (c.loop-ty.invariant ∙ ap (λ ts. add_all seen.result.int seen.result.str [] (flat_map members ts)) (take_all c.loop-ty.ty-index c.args.types.now c.loop-ty-test.false))
