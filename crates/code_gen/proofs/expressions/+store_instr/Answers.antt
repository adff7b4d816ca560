use Rattle.std.proofs.Common.{ap, ◌∙◌, sym}
use Rattle.lua_tree.specs.View.{exp_of}
use Rattle.lua_tree.proofs.Views.{exp_of-Mark}
use Rattle.lua_code.specs.Generated.{store_instr}
use Rattle.code_gen.proofs.Marked.{marked_store}
use Rattle.code_gen.proofs.expressions.+store_instr.Goals as goal

pub returns-in-Mark : goal.returns-in-Mark
returns-in-Mark t c =
    c.store_instr.ensures
    ∙ ap (λ z. store_instr (exp_of z) c.args.scope.now) c.get.ensures
    ∙ sym (marked_store c.in-Mark.field-0 (exp_of c.in-Mark.inner) c.args.scope.now)
    ∙ ap (λ z. store_instr z c.args.scope.now) (sym (ap exp_of c.in-Mark.is ∙ exp_of-Mark c.in-Mark.field-0 c.in-Mark.inner))
