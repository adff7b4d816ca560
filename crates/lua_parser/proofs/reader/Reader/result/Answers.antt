use Rattle.std.proofs.Common.{◌+◌, ap, length, arith}
use Rattle.lua_parser.specs.Machine.Plan.{Item, read}
use Rattle.lua_parser.specs.declared.reader.Mode.TheVariants as mode
use Rattle.lua_parser.specs.Stacks.{on_return, weight_at}
use Rattle.lua_parser.proofs.Goings.{goes_on}
use Rattle.lua_parser.proofs.Starts.{return_begins, return_goes}
use Rattle.lua_parser.proofs.reader.Reader.result.Goals as goal

pub returns : goal.returns
returns c =
    let b = return_begins c.args.self.now.cursor c.pass.new.self c.requires c.in_ok-pass.ensures in
    goes_on mode.Block c.args.self.now (read (Item.return_values c.args.self.now.uses) (on_return c.args.self.now c.pos-pos.result)) (weight_at c.pass.new.self c.args.self.now.frames c.args.self.now.outer (mode.Operand 0) + 3) c.pass.new.self c.values.result c.values.new.self
    (omega (arith, ap length b)) (return_goes c.args.self.now.kind c.args.self.now.outer c.args.self.now.stats c.args.self.now.frames c.args.self.now.uses c.args.self.now.takes_call c.args.self.now.cursor c.pass.new.self c.pos-pos.result b c.pos-pos.ensures) c.values.ensures
