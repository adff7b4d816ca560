use Rattle.subtyping.proofs.Assuming.{pair_at}
use Rattle.subtyping.proofs.pairs.Assumed.find.Goals as goal

pub returns-then-same_side-2 : goal.returns-then-same_side-2
returns-then-same_side-2 c =
    let read = c.in_ok-pair.ensures.lookup.3 in
    pair_at c.args.self.now.pairs.items c.deref.result.now c.args.left c.args.right c.in_ok-at.at c.in_ok-pair.pair.now c.deref.ensures.value read.0 read.1
    (c.same_side.ensures c.if-same_side.true) (c.same_side-then-same_side.ensures c.if-same_side-2.true)
