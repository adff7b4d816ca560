use Rattle.std.proofs.Common.{◌≡◌, ◌+◌, ap, ◌∙◌, arith}
use Rattle.std.specs.Prelude.{sum_by}
use Rattle.std.proofs.lemmas.List.{take_all}
use Rattle.tl_types.specs.Parts.{size_tuple}
use Rattle.tl_types.specs.Sizes.{type_size}
use Rattle.type_reader.proofs.Gathered.{room_some, room_is}
use Rattle.type_reader.proofs.building.with_tuple.Goals as goal

pub returns : goal.returns
returns c =
    let p = c.args.tuple.now in
    let first = room_some (c.args.nodes + type_size c.get.result.now) c.in_ok-all.all c.with_type.result c.with_type.ensures c.in_ok-all.was in
    let all = ap (sum_by type_size) (take_all c.loop-ty.ty-index c.as_slice-ty-items.result.now c.loop-ty-test.false ∙ c.as_slice-ty-items.ensures) in
    let total : c.loop-ty.all ≡ c.args.nodes + size_tuple p = omega (arith, c.loop-ty.invariant.counted, first.0, all, ap type_size c.get.ensures) in
    room_is (c.args.nodes + size_tuple p) c.loop-ty.all total c.loop-ty.invariant.room
