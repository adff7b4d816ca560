use Rattle.std.proofs.Common.{◌+◌}
use Rattle.std.specs.Prelude.{nat_lt}
use Rattle.lua_scope.proofs.Crossing.{turn, stopped}
use Rattle.lua_scope.proofs.scopes.cross_all.Goals as goal

pub returns-then-not-branch : goal.returns-then-not-branch
returns-then-not-branch c =
    stopped c.args.local.number (λ f. nat_lt c.args.local.function f) c.args.around.now (c.loop-outer.outer-index + 1) c.args.captures.now
    (turn c.args.local.number (λ f. nat_lt c.args.local.function f) c.args.around.now c.loop-outer.outer-index _ c.args.captures.now c.loop-outer.captures _ c.loop-outer-test.true c.loop-outer.invariant (rw c.if-not-branch.true at c.in_ok-cross.ensures))

pub loop-outer-preserved : goal.loop-outer-preserved
loop-outer-preserved c =
    turn c.args.local.number (λ f. nat_lt c.args.local.function f) c.args.around.now c.loop-outer.outer-index _ c.args.captures.now c.loop-outer.captures _ c.loop-outer-test.true c.loop-outer.invariant (rw c.if-not-branch.false at c.in_ok-cross.ensures)
