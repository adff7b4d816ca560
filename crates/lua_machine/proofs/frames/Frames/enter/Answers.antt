use Rattle.std.proofs.Common.{◌≡◌, ◌≤◌, ◌∙◌, IsTrue, ap, subst, sym, length, reverse, arith}
use Rattle.lua_machine.specs.Windows.{are_within}
use Rattle.lua_machine.proofs.Levels.{within_below, within_at_ends}
use Rattle.lua_machine.proofs.frames.Frames.enter.Goals as goal

pub invariant_of-self : goal.invariant_of-self
invariant_of-self c =
    let below = within_below c.self.inside.running (reverse c.self.inside.waiting.items) (length c.self.inside.slots.items) (length c.self.inside.stack.items) c.self.invariant in
    let same : c.self.inside.waiting.items ≡ c.push.new.self.items = sym c.in_err-push.ensures.items in
    let slots : c.replace-caller.new.dest.slots ≡ length c.self.inside.slots.items = search in
    let stack : c.replace-caller.new.dest.stack ≡ length c.self.inside.stack.items = search in
    within_at_ends c.replace-caller.new.dest (reverse c.push.new.self.items) (length c.self.inside.slots.items) (length c.self.inside.stack.items) slots stack
    (subst (λ hs. IsTrue (are_within (reverse hs) (length c.self.inside.slots.items) (length c.self.inside.stack.items))) same below)
