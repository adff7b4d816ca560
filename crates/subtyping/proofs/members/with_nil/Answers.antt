use Rattle.std.proofs.Common.{true, ◌&&◌, sym, ◌∙◌, subst}
use Rattle.tl_types.specs.declared.types.Ty.TheVariants as ty
use Rattle.tl_types.specs.Unions.{or_nil}
use Rattle.tl_types.specs.Below.{Test, step}
use Rattle.subtyping.specs.Pairs.{side_ty, Compared}
use Rattle.subtyping.proofs.Sides.{left_nil, left_any}
use Rattle.subtyping.proofs.Steps.{failed, at_ok, same_claim, start, and_then, and_stop}
use Rattle.subtyping.proofs.members.with_nil.Goals as goal

pub returns-then-lets_all : goal.returns-then-lets_all
returns-then-lets_all c =
    let loose = c.args.rules.loose in
    let bodies = c.args.rules.bodies.now in
    let right = side_ty c.args.right in
    start loose bodies (λ R. step loose bodies R (or_nil c.args.a.now) right) true _ (λ R. left_any loose bodies R c.args.a.now right (sym c.lets_all.ensures ∙ c.if-lets_all.true))

pub returns-in_err-each : goal.returns-in_err-each
returns-in_err-each c = failed c.args.rules.loose c.args.rules.bodies.now _ _ _ _ _ _ c.each.ensures c.from_residual.ensures.0

pub returns-then-not-branch : goal.returns-then-not-branch
returns-then-not-branch c =
    let loose = c.args.rules.loose in
    let bodies = c.args.rules.bodies.now in
    let right = side_ty c.args.right in
    let first = λ (R : Test). step loose bodies R c.args.a.now right in
    let second = λ (R : Test). step loose bodies R ty.Nil right in
    same_claim loose bodies (λ R. first R && second R) (λ R. step loose bodies R (or_nil c.args.a.now) right) _ _ _ (λ R. left_nil loose bodies R c.args.a.now right (sym c.lets_all.ensures ∙ c.if-lets_all.false))
    (and_stop loose bodies first second _ _ (at_ok loose bodies _ _ _ _ _ _ c.each.ensures c.in_ok-each.was c.if-not-branch.true))

pub returns : goal.returns
returns c =
    let loose = c.args.rules.loose in
    let bodies = c.args.rules.bodies.now in
    let right = side_ty c.args.right in
    let first = λ (R : Test). step loose bodies R c.args.a.now right in
    let second = λ (R : Test). step loose bodies R ty.Nil right in
    let nil = subst (λ u. Compared loose bodies c.each.new.assumed.pairs.items c.each-2.new.assumed.pairs.items (λ R. step loose bodies R u right) c.each-2.result) c.requires.nil c.each-2.ensures in
    same_claim loose bodies (λ R. first R && second R) (λ R. step loose bodies R (or_nil c.args.a.now) right) _ _ _ (λ R. left_nil loose bodies R c.args.a.now right (sym c.lets_all.ensures ∙ c.if-lets_all.false))
    (and_then loose bodies first second _ _ _ _ (at_ok loose bodies _ _ _ _ _ _ c.each.ensures c.in_ok-each.was c.if-not-branch.false) nil)
