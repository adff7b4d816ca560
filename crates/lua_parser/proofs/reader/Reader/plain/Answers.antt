use Rattle.std.proofs.Common.{◌+◌, arith}
use Rattle.lua_parser.specs.declared.reader.Mode.TheVariants as mode
use Rattle.lua_parser.specs.Stacks.{weight_at, begun_stat}
use Rattle.lua_parser.proofs.Goings.{goes_on}
use Rattle.lua_parser.proofs.Starts.{plain_goes, plain_length}
use Rattle.lua_parser.proofs.reader.Reader.plain.Goals as goal

pub returns : goal.returns
returns c =
    goes_on mode.Block c.args.self.now (begun_stat c.args.self.now c.args.start c.pos-pos.result) (weight_at c.pass.new.self c.args.self.now.frames c.args.self.now.outer (mode.Operand 0) + 8) c.pass.new.self c.started.result c.started.new.self
    (omega (arith, plain_length c.args.self.now.cursor c.pass.new.self c.args.start c.requires c.in_ok-pass.ensures)) (plain_goes c.args.self.now.kind c.args.self.now.outer c.args.self.now.stats c.args.self.now.frames c.args.self.now.uses c.args.self.now.takes_call c.args.self.now.cursor c.pass.new.self c.args.start c.pos-pos.result c.requires c.in_ok-pass.ensures c.pos-pos.ensures) c.started.ensures
