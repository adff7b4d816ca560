use Rattle.std.proofs.Common.{◌∷◌, [], length, ap, arith}
use Rattle.std.specs.Prelude.{sum_by}
use Rattle.tl_types.specs.Sizes.{type_size}
use Rattle.type_reader.specs.Gathered.{uncovered}
use Rattle.type_reader.proofs.UnionSizes.{count_more, nodes_more}
use Rattle.type_reader.proofs.union_sizes.left_of.Goals as goal

pub loop-ty-preserved : goal.loop-ty-preserved
loop-ty-preserved c =
    let kinds = c.args.kinds in
    let kept = c.args.kept.now in
    let i = c.loop-ty.ty-index in
    let t = c.ty-item.result in
    let within = c.loop-ty-test.true in
    record {
      count = omega (arith, c.with-left.ensures.count, c.loop-ty.invariant.count, count_more kinds.int kinds.str kept i t within, ap (λ u. length (uncovered kinds.int kinds.str (u ∷ []))) c.ty-item.is);
      nodes = omega (arith, c.with-left.ensures.nodes, c.loop-ty.invariant.nodes, nodes_more kinds.int kinds.str kept i t within, ap (λ u. sum_by type_size (uncovered kinds.int kinds.str (u ∷ []))) c.ty-item.is);
    }
