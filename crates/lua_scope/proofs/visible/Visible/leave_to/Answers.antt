use Rattle.std.proofs.Common.{◌∙◌, ◌<◌, length, arith}
use Rattle.lua_scope.proofs.Names.{one_fewer}
use Rattle.lua_scope.proofs.visible.Visible.leave_to.Goals as goal

pub loop-self-preserved : goal.loop-self-preserved
loop-self-preserved c =
    let more : c.args.count < length c.loop-self.self = omega (arith, c.len.ensures, c.loop-self-test.true) in
    one_fewer c.loop-self.self c.leave.new.self c.args.count c.leave.ensures more ∙ c.loop-self.invariant
