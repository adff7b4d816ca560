use Rattle.std.proofs.Common.{ℕ, ◌<◌, get_or, reverse}
use Rattle.lua_parser.specs.Grammar.TooDeep.{IsOver, limits, plain}
use Rattle.lua_parser.proofs.labels.Marks.first_over.Given as goal

abbrev pub invariant-loop-number : goal.invariant-loop-number
invariant-loop-number l = (i : ℕ) → i < l.number → IsOver limits (get_or (reverse l.fn.self.labels) i plain) → ⊥
