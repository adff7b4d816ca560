use Rattle.std.proofs.Common.{◌≡◌, ◌&&◌, ◌||◌, take}
use Rattle.std.specs.Prelude.{flat_map}
use Rattle.std.specs.List.{list_all, list_any}
use Rattle.tl_types.specs.Types.{members}
use Rattle.tl_rules.specs.Operands.{is_integer}
use Rattle.tl_rules.proofs.operand.+look.Given as goal

abbrev pub invariant-loop-member : goal.invariant-loop-member
invariant-loop-member l = record {
  all : l.seen.all ≡ (l.initial.seen.all && list_all is_integer (flat_map members (take l.member-index l.member-items)));
  some : l.seen.some ≡ (l.initial.seen.some || list_any is_integer (flat_map members (take l.member-index l.member-items)));
}
