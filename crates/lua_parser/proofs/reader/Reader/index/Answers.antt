use Rattle.std.proofs.Common.{refl, ap, length, arith}
use Rattle.lua_parser.specs.Stacks.{on_stat, on_return, on_expr, form_of}
use Rattle.lua_parser.proofs.Goings.{bracket_begins, index_goes}
use Rattle.lua_parser.proofs.reader.Reader.index.Goals as goal

pub returns : goal.returns
returns c = λ f.
    let b = bracket_begins c.args.self.now.cursor c.pass.new.self c.requires c.in_ok-pass.ensures in
    rw (c.in_ok-push.ensures, c.open.ensures) (refl, omega (arith, ap length b), index_goes c.args.self.now.kind (on_stat c.args.self.now) (on_return c.args.self.now) (on_expr c.args.self.now) c.args.within (form_of f) c.args.expr c.args.self.now.uses c.args.self.now.cursor c.pass.new.self _ b)
