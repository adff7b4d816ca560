use Rattle.std.proofs.Common.{◌≡◌, ap, ◌∙◌, subst, OnOk, true, false, map, Err}
use Rattle.std.proofs.lemmas.List.{take_all}
use Rattle.tl_types.specs.declared.types.TyError.TheVariants as ty_error
use Rattle.tl_types.specs.Sizes.{is_within}
use Rattle.tl_types.specs.Unions.{union_form, tuple_place}
use Rattle.tl_types.proofs.unions.position.Goals as goal

pub returns-clause-within : goal.returns-clause-within
returns-clause-within c =
    let index = c.args.index in
    let all = c.deref.ensures.value ∙ (c.loop-tuple.invariant ∙ ap (map (λ p. tuple_place p index)) (take_all c.loop-tuple.tuple-index c.as_slice-tuple-items.result.now c.loop-tuple-test.false ∙ c.as_slice-tuple-items.ensures)) in
    subst (λ ts. OnOk c.union_of.result (is_within (union_form ts) ≡ true)) all c.union_of.ensures.within

pub returns-clause-large : goal.returns-clause-large
returns-clause-large c =
    let index = c.args.index in
    let all = c.deref.ensures.value ∙ (c.loop-tuple.invariant ∙ ap (map (λ p. tuple_place p index)) (take_all c.loop-tuple.tuple-index c.as_slice-tuple-items.result.now c.loop-tuple-test.false ∙ c.as_slice-tuple-items.ensures)) in
    subst (λ ts. c.union_of.result ≡ Err ty_error.TooLarge → is_within (union_form ts) ≡ false) all c.union_of.ensures.large
