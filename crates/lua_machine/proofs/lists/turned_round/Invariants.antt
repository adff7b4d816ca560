use Rattle.std.proofs.Common.{◌≡◌, ◌++◌, take, reverse, length}
use Rattle.lua_machine.proofs.lists.turned_round.Given as goal

abbrev pub invariant-loop-value : goal.invariant-loop-value
invariant-loop-value l = l.values ++ reverse l.popped.items ≡ reverse l.fn.popped.items

abbrev pub decreases-loop-value : goal.decreases-loop-value
decreases-loop-value l = length l.popped.items

abbrev pub invariant-loop-value-2 : goal.invariant-loop-value-2
invariant-loop-value-2 l = l.values ≡ reverse l.fn.popped.items ++ take l.value-index l.above
