use Rattle.std.proofs.Common.{ap, ◌∙◌, map, reverse}
use Rattle.std.proofs.lemmas.List.{take_all}
use Rattle.lua_code.specs.declared.code.Capture.TheVariants as capture
use Rattle.code_gen.proofs.Scopes.{cells_of_slots}
use Rattle.code_gen.proofs.scope.own_cells.Goals as goal

pub returns : goal.returns
returns c =
    c.loop-slot.invariant
    ∙ ap (map (λ s. capture.Cell s)) (take_all c.loop-slot.slot-index c.deref-slot-items.result.now c.loop-slot-test.false ∙ c.deref-slot-items.ensures.value ∙ c.in_ok-slots.ensures)
    ∙ cells_of_slots (reverse c.args.own.now)
