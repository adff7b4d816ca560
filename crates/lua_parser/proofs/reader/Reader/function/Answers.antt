use Rattle.std.proofs.Common.{length, ap, arith}
use Rattle.lua_parser.specs.Machine.Plan.{Item, read}
use Rattle.lua_parser.specs.declared.reader.BodyOf.TheVariants as body_of
use Rattle.lua_parser.specs.declared.reader.Mode.TheVariants as mode
use Rattle.lua_parser.specs.Stacks.{bodied, weight_at, on_stat, on_expr}
use Rattle.lua_parser.proofs.Goings.{goes_on, function_begins}
use Rattle.lua_parser.proofs.Closings.{function_goes}
use Rattle.lua_parser.proofs.reader.Reader.function.Goals as goal

pub returns : goal.returns
returns c =
    let b = function_begins c.args.self.now.cursor c.pass.new.self c.requires c.in_ok-pass.ensures in
    goes_on (mode.Operand c.args.least) c.args.self.now (read (Item.a_body c.args.self.now.uses) (bodied (body_of.Operand c.args.least c.pos-pos.result) (on_stat c.args.self.now) (on_expr c.args.self.now))) (weight_at c.pass.new.self c.args.self.now.frames c.args.self.now.outer (mode.Operand 0)) c.pass.new.self c.body.result c.body.new.self
    (omega (arith, ap length b)) (function_goes c.args.self.now.kind (on_stat c.args.self.now) (on_expr c.args.self.now) c.args.least c.args.self.now.uses c.args.self.now.cursor c.pass.new.self c.pos-pos.result b c.pos-pos.ensures) c.body.ensures
