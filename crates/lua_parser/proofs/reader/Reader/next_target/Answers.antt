use Rattle.std.proofs.Common.{refl, ap, length, arith}
use Rattle.lua_lexer.specs.declared.token.Symbol.TheVariants as s
use Rattle.lua_parser.specs.Words.{sign}
use Rattle.lua_parser.specs.Stacks.{on_stat, on_return, on_expr}
use Rattle.lua_parser.proofs.Goings.{taken, target_paren_goes}
use Rattle.lua_parser.proofs.reader.Reader.next_target.Goals as goal

pub returns-then-branch : goal.returns-then-branch
returns-then-branch c =
    let t = taken (sign s.OpenParen) c.args.self.now.cursor c.take.new.self c.in_ok-take.field-0 c.in_ok-take.ensures c.if-branch.true in
    rw (c.in_ok-push.ensures, c.open.ensures) (refl, omega (arith, ap length t.1), target_paren_goes c.args.self.now.kind (on_stat c.args.self.now) (on_return c.args.self.now) (on_expr c.args.self.now) c.args.targets c.args.self.now.uses c.args.self.now.cursor c.take.new.self c.pos-pos.result t.0 t.1 c.pos-pos.ensures)
