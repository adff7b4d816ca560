use Rattle.std.proofs.Common.{◌≡◌, reverse}
use Rattle.lua_code.specs.declared.frames.Item.TheVariants as item
use Rattle.lua_code.specs.Instructions.{push}
use Rattle.lua_machine.proofs.Operands.{pops_none, pops_all}
use Rattle.lua_machine.proofs.lists.pack_with.Goals as goal

pub returns-then-not-branch : goal.returns-then-not-branch
returns-then-not-branch c =
    pops_none c.args.count c.args.above.now (λ vs. push (item.Many vs)) c.args.place c.args.state.now.frames c.pop_many.new.frames c.args.state.now.store c.args.state.now.closures
    c.new-popped.result.items (reverse c.pop_many.new.popped.items) c.in_ok-pop_many.field-0 c.new-popped.ensures.items c.if-not-branch.true c.in_ok-pop_many.ensures

pub returns : goal.returns
returns c =
    rw (c.in_ok-push_on.ensures, c.in_ok-values.ensures) (
    pops_all c.args.count c.args.above.now (λ vs. push (item.Many vs)) c.args.place c.args.state.now.frames c.pop_many.new.frames c.args.state.now.store c.args.state.now.closures
    c.new-popped.result.items (reverse c.pop_many.new.popped.items) c.in_ok-pop_many.field-0 c.new-popped.ensures.items c.if-not-branch.false c.in_ok-pop_many.ensures)
