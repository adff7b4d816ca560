use Rattle.std.proofs.Common.{length, refl, sym, ap, arith}
use Rattle.lua_lexer.specs.declared.token.Symbol.TheVariants as s
use Rattle.lua_parser.specs.Words.{sign}
use Rattle.lua_parser.specs.Machine.Run.{run}
use Rattle.lua_parser.specs.Stacks.{limited, on_stat, on_expr}
use Rattle.lua_parser.proofs.Goings.{taken}
use Rattle.lua_parser.proofs.reader.Reader.end_limit.Goals as goal

pub returns-then-branch : goal.returns-then-branch
returns-then-branch c =
    let t = taken (sign s.Comma) c.args.self.now.cursor c.take.new.self c.in_ok-take.field-0 c.in_ok-take.ensures c.if-branch.true in
    rw c.in_ok-push.ensures (refl, omega (arith, ap length t.1), ap (run c.args.self.now.kind (limited c.args.pos c.args.name c.args.first (on_stat c.args.self.now) (on_expr c.args.self.now) (c.args.expr, c.args.self.now.uses, c.args.self.now.takes_call))) (sym t.1))
