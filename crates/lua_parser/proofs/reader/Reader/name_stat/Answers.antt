use Rattle.std.proofs.Common.{◌+◌, ap, length, arith}
use Rattle.lua_parser.specs.Machine.Plan.{Item, read}
use Rattle.lua_parser.specs.declared.reader.Mode.TheVariants as mode
use Rattle.lua_parser.specs.Stacks.{on_stat, weight_at, is_outermost}
use Rattle.lua_parser.proofs.Goings.{goes_on}
use Rattle.lua_parser.proofs.Starts.{name_goes}
use Rattle.lua_parser.proofs.reader.Reader.name_stat.Goals as goal

pub returns : goal.returns
returns c =
    let b = c.in_ok-name.ensures in
    goes_on mode.Block c.args.self.now (read (Item.behind_name (is_outermost c.args.self.now.outer) c.in_ok-name.name c.args.self.now.uses) (on_stat c.args.self.now)) (weight_at c.need_name.new.self c.args.self.now.frames c.args.self.now.outer (mode.Operand 0) + 8) c.need_name.new.self c.behind_name.result c.behind_name.new.self
    (omega (arith, ap length b)) (name_goes c.args.self.now.kind c.args.self.now.outer c.args.self.now.stats c.args.self.now.frames c.args.self.now.uses c.args.self.now.takes_call c.in_ok-name.name c.args.self.now.cursor c.need_name.new.self b) c.behind_name.ensures
