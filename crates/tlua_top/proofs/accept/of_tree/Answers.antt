use Rattle.std.proofs.Common.{◌≡◌, Ok, Err}
use Rattle.lua_tree.specs.Scopes.Resolved.{resolution}
use Rattle.tlua_top.specs.Defined.{OfScoped}
use Rattle.tlua_top.proofs.Phases.{goes_on}
use Rattle.tlua_top.proofs.accept.of_tree.Goals as goal

pub returns-in-Ok : goal.returns-in-Ok
returns-in-Ok c = λ input.
    goes_on c.args.file.now (λ r. resolution c.args.tree ≡ Err r) (λ s. resolution c.args.tree ≡ Ok s) (OfScoped c.args.file.now input) input c.of_scoped.result c.in-Ok.scoped c.in-Ok.ensures.ok (c.of_scoped.ensures input)
