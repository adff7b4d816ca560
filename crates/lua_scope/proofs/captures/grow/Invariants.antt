use Rattle.std.proofs.Common.{◌≡◌, ℕ, ◌-◌, ◌+◌, slice_index_or, vec_len}
use Rattle.lua_scope.proofs.captures.grow.Given as goal

abbrev pub invariant-loop-counts : goal.invariant-loop-counts
invariant-loop-counts l = (f : ℕ) → slice_index_or l.counts.items f 0 ≡ slice_index_or l.initial.counts.items f 0

abbrev pub decreases-loop-counts : goal.decreases-loop-counts
decreases-loop-counts l = l.function + 1 - vec_len l.counts
