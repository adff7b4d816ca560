use Rattle.std.proofs.Common.{◌∙◌}
use Rattle.lua_scope.specs.declared.visible.Shown.{Shown}
use Rattle.lua_scope.proofs.Names.{hides_more, entered_in_map}
use Rattle.lua_scope.proofs.visible.Visible.enter.Goals as goal

pub invariant_of-self-in-Ok : goal.invariant_of-self-in-Ok
invariant_of-self-in-Ok c =
    let s : Shown = record { binding = c.args.binding; shadowed = c.newest-shadowed.result } in
    record {
      latest = rw c.in_ok-push.ensures.items (entered_in_map c.self.inside.latest c.insert.new.self c.self.inside.shown.items s c.in-Ok.ensures.updates c.self.invariant.latest);
      hides = rw c.in_ok-push.ensures.items (hides_more c.self.inside.shown.items s c.self.invariant.hides (c.newest-shadowed.ensures ∙ c.self.invariant.latest c.args.binding.name.now));
    }
