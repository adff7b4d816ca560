use Rattle.std.proofs.Common.{◌≡◌, refl, ap, subst, ◌∙◌, ◌-◌, ◌++◌, length}
use Rattle.lua_machine.specs.Machines.{Tells, next_at}
use Rattle.lua_machine.proofs.Telling.{advances}
use Rattle.lua_machine.proofs.machine.Machine.told.Goals as goal

pub returns-clause-ok : goal.returns-clause-ok
returns-clause-ok c =
    let tells = subst (λ fs. Tells fs (next_at fs c.self.inside.status c.self.inside.state) c.in_ok-event.event (next_at fs c.tell.new.status c.tell.new.state) c.new-tracing.result.limit c.tell.new.tracing.steps.items)
    c.as_slice-functions.ensures c.in_ok-event.ensures.tells in
    rw (← c.self.view_is) (
    advances _ _ c.tell.new.status c.tell.new.state c.in_ok-event.event c.new-tracing.result.limit c.tell.new.tracing.steps.items c.if-self.false c.if-self.false refl refl refl refl refl refl
    c.in_ok-event.ensures.settled c.is_bare.ensures.output (c.new-tracing.ensures.limit ∙ (c.saturating_sub-room.ensures ∙ ap (λ t. c.self.inside.limit - length t) c.as_slice.ensures.value)) tells
    (c.in_ok-extend_from_slice.ensures.items ∙ ap (λ t. c.self.inside.trace.items ++ t) c.as_slice-2.ensures.value))
