use Rattle.lua_scope.proofs.Names.{hides_fewer, left_in_map}
use Rattle.lua_scope.proofs.visible.Visible.leave.Goals as goal

pub invariant_of-self : goal.invariant_of-self
invariant_of-self c =
    let items = c.in-Some.ensures.items in
    let hides = rw items at c.self.invariant.hides in
    let latest = rw items at c.self.invariant.latest in
    record {
      latest = left_in_map c.self.inside.latest c.insert.new.self c.pop.new.self.items c.in-Some.shown c.insert.result c.insert.ensures.updates c.insert.ensures.absent hides latest;
      hides = (hides_fewer c.pop.new.self.items c.in-Some.shown hides).1;
    }
