use Rattle.std.proofs.Common.{refl, ap, length, arith}
use Rattle.lua_parser.specs.Stacks.{on_return, on_expr}
use Rattle.lua_parser.proofs.Starts.{open_begins, enclosed_goes}
use Rattle.lua_parser.proofs.reader.Reader.enclosed.Goals as goal

pub returns : goal.returns
returns c =
    let b = open_begins c.args.self.now.cursor c.pass.new.self c.requires c.in_ok-pass.ensures in
    rw (c.in_ok-push.ensures, c.open.ensures) (refl, omega (arith, ap length b), enclosed_goes c.args.self.now.kind c.args.self.now.outer c.args.self.now.stats c.args.self.now.frames c.args.self.now.uses c.args.self.now.takes_call (on_return c.args.self.now) (on_expr c.args.self.now) c.args.self.now.cursor c.pass.new.self c.pos-pos.result b c.pos-pos.ensures c.if-self.false)
