use Rattle.std.proofs.Common.{◌≡◌, sym, ap, ◌∙◌, slice_get, length-append}
use Rattle.lua_machine.specs.Lists.{cells_here}
use Rattle.lua_machine.proofs.Operands.{closes_not, closes_on}
use Rattle.lua_machine.proofs.lists.close.Goals as goal

pub returns-in_default-2 : goal.returns-in_default-2
returns-in_default-2 c =
    closes_not c.args.number _ c.in-Some.proto.now c.args.place c.args.state.now.frames.frame c.args.state.now.frames.levels c.args.state.now.store c.args.state.now.closures
    c.in-Some.ensures (sym c.in_default-2.is ∙ c.in_ok-cells.ensures ∙ ap (λ cs. cells_here c.args.state.now.frames.frame cs) c.as_slice.ensures)

pub returns : goal.returns
returns c =
    rw (c.in_ok-push_on.ensures, c.len-made.ensures, c.in_ok-push.ensures.ok, length-append) (
    closes_on c.args.number _ c.in-Some.proto.now c.args.place c.args.state.now.frames.frame c.args.state.now.frames.levels c.args.state.now.store c.args.state.now.closures
    c.in-Some-2.cells c.in-Some.ensures (sym c.in-Some-2.is ∙ c.in_ok-cells.ensures ∙ ap (λ cs. cells_here c.args.state.now.frames.frame cs) c.as_slice.ensures))
