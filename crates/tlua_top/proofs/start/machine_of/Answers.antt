use Rattle.std.proofs.Common.{◌∙◌, ap, subst, [], ◌∷◌, map, length, arith}
use Rattle.lua_meaning.specs.Programs.{module_of, start}
use Rattle.lua_code.specs.Faithful.{IsFaithful}
use Rattle.lua_machine.specs.Machines.{Begins}
use Rattle.tlua_top.proofs.Serving.{begins, one_item}
use Rattle.tlua_top.proofs.start.machine_of.Goals as goal

pub returns : goal.returns
returns c = λ input.
    let modules = c.as_slice.ensures ∙ one_item _ _ _ c.new-modules.ensures c.in_ok-push.ensures.ok in
    let files = one_item _ _ _ c.new-files.ensures c.in_ok-push-2.ensures.ok ∙ ap (λ f. f ∷ []) c.in_ok-from_slice.ensures in
    let kinds = one_item _ _ _ c.new-kinds.ensures c.in_ok-push-3.ensures.ok in
    let some = ap length modules in
    let faithful = subst (λ ms. IsFaithful (map module_of ms) c.in_ok-code.code) modules (c.in_ok-code.ensures.faithful (omega (arith, some))) in
    let begun = subst (λ fs. Begins c.in_ok-code.code (start (c.args.scoped.chunk.kind ∷ []) fs [] 10000000) 0 c.in_ok-machine.machine) files
    (subst (λ ks. Begins c.in_ok-code.code (start ks c.push-2.new.self [] 10000000) 0 c.in_ok-machine.machine) kinds c.in_ok-machine.ensures) in
    begins c.in_ok-code.code (module_of c.args.scoped) c.args.file.now input c.in_ok-machine.machine begun faithful
