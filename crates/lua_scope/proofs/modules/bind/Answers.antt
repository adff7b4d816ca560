use Rattle.std.proofs.Common.{◌∙◌, ap, sym}
use Rattle.std.specs.Prelude.{Ok}
use Rattle.lua_tree.specs.declared.scoped.Scoped.{Scoped}
use Rattle.lua_scope.specs.Answers.{bound_to}
use Rattle.std.specs.Prelude.{map}
use Rattle.lua_scope.proofs.Required.{unbound_written}
use Rattle.lua_scope.proofs.modules.bind.Goals as goal

pub returns-clause-resolved : goal.returns-clause-resolved
returns-clause-resolved c = λ resolved.
    let written = unbound_written c.args.names.now c.args.scoped.now.required c.number.new.required (c.number.ensures ∙ ap (map (bound_to c.args.names.now)) c.as_mut_slice.ensures.value) in
    resolved ∙ ap (λ rs. let s : Scoped = record c.args.scoped.now { required = rs } in Ok s) (sym written)
