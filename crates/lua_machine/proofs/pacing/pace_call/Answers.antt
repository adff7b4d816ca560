use Rattle.std.proofs.Common.{◌≡◌, ap, ◌∙◌}
use Rattle.lua_machine.specs.declared.calls.Called.TheVariants as come
use Rattle.lua_code.specs.declared.frames.Item.TheVariants as item
use Rattle.lua_machine.specs.Frames.{with_item}
use Rattle.lua_machine.specs.Calls.{levels_with_caller}
use Rattle.lua_machine.proofs.Walks.{call_raises, call_gives, call_tells}
use Rattle.lua_machine.proofs.pacing.pace_call.Goals as goal

pub returns-in-Some : goal.returns-in-Some
returns-in-Some c =
    call_tells c.args.functions.now c.args.place c.args.callee.now c.args.values.now (levels_with_caller c.args.state.now) c.args.state.now.store c.args.state.now.closures
    c.in_ok-call.field-0 c.call.new.state c.in_ok-call.ensures c.push.new.self (c.in_ok-push-in-Gives.ensures ∙ ap (λ vs. with_item (item.Many vs) c.call.new.state.frames) c.new-none.ensures) c.in-Some.text (c.in-Gives.is ∙ ap (λ t. come.Gives t) c.in-Some.is) c.is_bare.ensures.output c.told.result c.told.ensures

pub returns-in-None : goal.returns-in-None
returns-in-None c =
    call_gives c.args.functions.now c.args.place c.args.callee.now c.args.values.now (levels_with_caller c.args.state.now) c.args.state.now.store c.args.state.now.closures
    c.in_ok-call.field-0 c.call.new.state c.in_ok-call.ensures c.push.new.self (c.in_ok-push-in-Gives.ensures ∙ ap (λ vs. with_item (item.Many vs) c.call.new.state.frames) c.new-none.ensures) (c.in-Gives.is ∙ ap (λ t. come.Gives t) c.in-None.is)

pub returns-in-Raise : goal.returns-in-Raise
returns-in-Raise c =
    call_raises c.args.functions.now c.args.place c.args.callee.now c.args.values.now (levels_with_caller c.args.state.now) c.args.state.now.store c.args.state.now.closures
    c.in_ok-call.field-0 c.call.new.state c.in_ok-call.ensures c.in-Raise.value c.in-Raise.is
