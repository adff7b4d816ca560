use Rattle.std.proofs.Common.{◌∙◌, ap, reverse}
use Rattle.lua_scope.specs.Shown.{binding_of}
use Rattle.lua_scope.specs.Around.{with_binding}
use Rattle.lua_scope.proofs.Places.{entered, still_fits}
use Rattle.lua_scope.proofs.scopes.Scopes.enter.Goals as goal

pub invariant_of-self-2 : goal.invariant_of-self-2
invariant_of-self-2 c = still_fits (binding_of c.args.binding) c.self.inside.visible c.enter.new.self (reverse c.self.inside.around.items) c.self.invariant c.in_ok-enter.ensures.ok

pub returns : goal.returns
returns c =
    entered c.self.inside.here (binding_of c.args.binding) c.self.inside.visible c.enter.new.self (reverse c.self.inside.around.items) c.self.invariant c.in_ok-enter.ensures.ok
    ∙ ap (with_binding (binding_of c.args.binding)) c.self.view_is
