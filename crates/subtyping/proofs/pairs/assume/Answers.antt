use Rattle.std.proofs.Common.{true, refl, subst, sym, Ok}
use Rattle.subtyping.specs.declared.pairs.Pair.{Pair}
use Rattle.subtyping.specs.Pairs.{side_ty, Compared}
use Rattle.subtyping.proofs.Assuming.{found_pair, new_pair}
use Rattle.subtyping.proofs.pairs.assume.Goals as goal

pub returns-in-Some : goal.returns-in-Some
returns-in-Some c loose bodies = found_pair loose bodies c.args.assumed.now.pairs.items c.args.left c.args.right c.in-Some.at c.index.result.now c.in-Some.ensures c.index.ensures

pub returns : goal.returns
returns c loose bodies =
    let pair : Pair = record { left = c.args.left; right = c.args.right; alive = true; earlier = c.in_ok-earlier.earlier } in
    subst (λ items. Compared loose bodies c.args.assumed.now.pairs.items items (λ R. R (side_ty c.args.left) (side_ty c.args.right)) (Ok true)) (sym c.in_ok-push.ensures.items) (new_pair loose bodies c.args.assumed.now.pairs.items pair refl)
