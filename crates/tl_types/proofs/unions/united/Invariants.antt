use Rattle.std.proofs.Common.{◌≡◌, take, []}
use Rattle.std.specs.Prelude.{flat_map}
use Rattle.tl_types.specs.Types.{members}
use Rattle.tl_types.specs.Adding.{add_all}
use Rattle.tl_types.proofs.unions.united.Given as goal

abbrev pub invariant-loop-ty : goal.invariant-loop-ty
invariant-loop-ty l = l.kept.items ≡ add_all l.seen.int l.seen.str [] (flat_map members (take l.ty-index l.types))
