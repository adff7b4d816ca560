use Rattle.std.proofs.Common.{length, refl, ap, ◌∙◌, arith}
use Rattle.lua_parser.specs.Stacks.{on_stat, on_expr}
use Rattle.lua_parser.proofs.Closings.{body_goes}
use Rattle.lua_parser.proofs.reader.Reader.body.Goals as goal

pub returns : goal.returns
returns c =
    let t = c.in_ok-need.ensures in
    let o = c.open-2.ensures ∙ c.open.ensures in
    rw (c.new-params.ensures, o) (refl, omega (arith, ap length t.1), body_goes c.args.self.now.kind c.args.of c.args.self.now.uses (on_stat c.args.self.now) (on_expr c.args.self.now) c.args.self.now.cursor c.need.new.self t.0 t.1)
