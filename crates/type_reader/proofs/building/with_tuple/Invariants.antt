use Rattle.std.proofs.Common.{◌≡◌, ◌+◌, ◌<◌, take}
use Rattle.std.specs.Prelude.{sum_by}
use Rattle.tl_types.specs.Sizes.{type_size}
use Rattle.type_reader.proofs.building.with_tuple.Given as goal

abbrev pub invariant-loop-ty : goal.invariant-loop-ty
invariant-loop-ty l = record {
  counted : l.all ≡ l.initial.all + sum_by type_size (take l.ty-index l.ty-items);
  room : l.all < 65536;
}
