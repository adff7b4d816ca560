use Rattle.std.proofs.Common.{refl, arith}
use Rattle.lua_lexer.specs.declared.token.Symbol.TheVariants as s
use Rattle.lua_parser.specs.Words.{sign}
use Rattle.lua_parser.specs.Stacks.{on_stat, on_return, on_expr}
use Rattle.lua_parser.proofs.Goings.{left, first_argument_goes}
use Rattle.lua_parser.proofs.reader.Reader.first_argument.Goals as goal

pub returns : goal.returns
returns c =
    let l = left (sign s.CloseParen) c.args.self.now.cursor c.take.new.self c.in_ok-take.field-0 c.in_ok-take.ensures c.if-branch.false in
    rw (c.in_ok-push.ensures, c.new-2.ensures, l.0) (refl, omega arith, first_argument_goes c.args.self.now.kind (on_stat c.args.self.now) (on_return c.args.self.now) (on_expr c.args.self.now) c.args.of c.args.self.now.uses c.args.self.now.cursor l.1)
