use Rattle.std.proofs.Common.{length, refl, sym, ap, ◌∙◌, arith}
use Rattle.lua_parser.specs.Machine.Run.{run}
use Rattle.lua_parser.specs.declared.reader.Frame.TheVariants as frame
use Rattle.lua_parser.specs.Stacks.{framed, on_stat, on_return, on_expr}
use Rattle.lua_parser.proofs.reader.Reader.end_paren.Goals as goal

pub returns : goal.returns
returns c =
    let t = c.in_ok-need.ensures in
    let g = c.in_ok-grow.ensures ∙ c.close.ensures in
    rw (c.in_ok-inner.ensures, g) (refl, omega (arith, ap length t.1), ap (run c.args.self.now.kind (framed (frame.Paren c.args.within c.args.pos) (on_stat c.args.self.now) (on_return c.args.self.now) (on_expr c.args.self.now) (c.args.expr, c.args.self.now.uses, c.args.self.now.takes_call))) (sym t.1))
