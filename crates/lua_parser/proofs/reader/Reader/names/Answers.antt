use Rattle.std.proofs.Common.{◌∷◌, length, refl, sym, ap, ◌∙◌, arith}
use Rattle.lua_lexer.specs.declared.token.Symbol.TheVariants as s
use Rattle.lua_parser.specs.Words.{marked, sign}
use Rattle.lua_parser.specs.Machine.Run.{run}
use Rattle.lua_parser.specs.declared.reader.Mode.TheVariants as mode
use Rattle.lua_parser.specs.Stacks.{plan}
use Rattle.lua_parser.proofs.Goings.{taken}
use Rattle.lua_parser.proofs.reader.Reader.names.Goals as goal

pub returns-then-branch : goal.returns-then-branch
returns-then-branch c =
    let t = taken (sign s.Comma) c.args.self.now.cursor c.take.new.self c.in_ok-take.field-0 c.in_ok-take.ensures c.if-branch.true in
    let whole = t.1 ∙ ap (λ z. marked (sign s.Comma) t.0 ∷ z) c.in_ok-next.ensures in
    rw c.in_ok-push.ensures (refl, omega (arith, ap length whole), ap (run c.args.self.now.kind (plan c.args.self.now (mode.Names c.args.pos c.args.names c.args.depth))) (sym whole))
