use Rattle.std.proofs.Common.{◌≡◌, ap}
use Rattle.lua_code.specs.declared.frames.Item.TheVariants as item
use Rattle.lua_machine.specs.Frames.{Activity}
use Rattle.lua_machine.proofs.Operands.{taken_step, rest_step}
use Rattle.lua_machine.proofs.lists.pop_many.Goals as goal

pub loop-preserved : goal.loop-preserved
loop-preserved c =
    let popped = rw c.in-Some-One.field-0-is at c.in-Some-One.ensures in
    record {
      taken = taken_step c.args.count c.loop.counter c.in-Some-One.value c.loop.popped.items c.push.new.self.items c.loop.frames.frame.stack c.pop.new.self.frame.stack _ c.loop-test.true
          (ap (λ (a : Activity). a.frame.stack) popped) c.in_ok-push.ensures.ok c.loop.invariant.taken;
      rest = rest_step c.args.frames.now c.loop.frames c.pop.new.self (item.One c.in-Some-One.value) c.loop.invariant.rest popped;
    }
