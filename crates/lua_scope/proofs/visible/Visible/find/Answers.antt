use Rattle.std.proofs.Common.{◌∙◌, ap, sym, reverse, option_map}
use Rattle.lua_scope.specs.Shown.{local_of}
use Rattle.lua_scope.proofs.Names.{latest_seen}
use Rattle.lua_tree.specs.Scopes.Binding.{latest}
use Rattle.lua_scope.proofs.visible.Visible.find.Goals as goal

pub returns : goal.returns
returns c =
    ap (option_map local_of) (c.newest.ensures ∙ c.self.invariant.latest c.args.name.now)
    ∙ sym (latest_seen c.args.name.now (reverse c.self.inside.shown.items))
    ∙ ap (latest c.args.name.now) c.self.view_is
