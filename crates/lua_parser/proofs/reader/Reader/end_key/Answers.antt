use Rattle.std.proofs.Common.{◌∷◌, length, refl, sym, ap, ◌∙◌, arith}
use Rattle.lua_parser.specs.Words.{marked, sign}
use Rattle.lua_lexer.specs.declared.token.Symbol.TheVariants as s
use Rattle.lua_parser.specs.Machine.Run.{run}
use Rattle.lua_parser.specs.declared.reader.Frame.TheVariants as frame
use Rattle.lua_parser.specs.Stacks.{framed, on_stat, on_return, on_expr}
use Rattle.lua_parser.proofs.reader.Reader.end_key.Goals as goal

pub returns : goal.returns
returns c =
    let t = c.in_ok-need.ensures in
    let u = c.in_ok-need-2.ensures in
    let whole = t.1 ∙ ap (λ z. marked (sign s.CloseBracket) t.0 ∷ z) (sym c.close.ensures ∙ u.1) in
    rw c.in_ok-push.ensures (refl, omega (arith, ap length whole), ap (run c.args.self.now.kind (framed (frame.Key c.args.table) (on_stat c.args.self.now) (on_return c.args.self.now) (on_expr c.args.self.now) (c.args.expr, c.args.self.now.uses, c.args.self.now.takes_call))) (sym whole))
