use Rattle.std.proofs.Common.{◌<◌, ℕ, Option, get_or, ap, length, arith}
use Rattle.lua_tree.specs.declared.scoped.Require.{Require}
use Rattle.lua_scope.specs.Answers.{bound_to}
use Rattle.lua_scope.proofs.Required.{changed}
use Rattle.lua_scope.proofs.modules.number.Goals as goal

pub loop-require-preserved : goal.loop-require-preserved
loop-require-preserved c =
    let within : c.loop-require.require-index < length c.args.required.now = omega arith in
    let new : Option ℕ → Require = λ m. record (get_or c.loop-require.required c.loop-require.require-index c.require-item.result) { «module» = m } in
    changed (bound_to c.args.names.now) c.args.required.now c.loop-require.required c.loop-require.require-index c.require-item.result _ c.loop-require.invariant within (ap new c.number_of-require.ensures)
