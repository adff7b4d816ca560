use Rattle.std.proofs.Common.{◌≡◌, subst}
use Rattle.lua_tree.specs.View.{block_of}
use Rattle.tl_rules.specs.Crossings.{block_marks, IsCrossingList}
use Rattle.crossings.proofs.CrossingList.{sorted_list}
use Rattle.crossings.proofs.list.crossing_list.Goals as goal

pub returns : goal.returns
returns c =
    let list : IsCrossingList c.in_ok-marks.marks.items c.dedup.new.self.items =
    sorted_list c.in_ok-marks.marks.items c.sort.new.self.items c.dedup.new.self.items c.in_ok-sort.ensures.permutation c.in_ok-sort.ensures.sorted c.dedup.ensures.filtered in
    let marks : c.in_ok-marks.marks.items ≡ block_marks (block_of c.args.block.now) = c.in_ok-marks.ensures in
    rw c.from_vec.ensures (subst (λ ms. IsCrossingList ms c.dedup.new.self.items) marks list)
