use Rattle.std.proofs.Common.{length, refl, ap, arith}
use Rattle.lua_lexer.specs.declared.token.Symbol.TheVariants as s
use Rattle.lua_parser.specs.Words.{sign}
use Rattle.lua_parser.specs.declared.reader.Mode.TheVariants as mode
use Rattle.lua_parser.specs.Stacks.{signed, onto, plan, weight, weight_at, with_cursor, on_stat, on_expr, rest_plan}
use Rattle.lua_parser.proofs.Goings.{taken, goes_as}
use Rattle.lua_parser.proofs.Closings.{rest_goes}
use Rattle.lua_parser.proofs.reader.Reader.params.Goals as goal

pub returns-then-branch : goal.returns-then-branch
returns-then-branch c =
    let t = taken (sign s.Dots) c.args.self.now.cursor c.take.new.self c.in_ok-take.field-0 c.in_ok-take.ensures c.if-branch.true in
    goes_as (rest_plan c.args.header c.pos-pos.result c.args.self.now) (plan c.args.self.now (mode.Params c.args.header c.args.may_end)) (weight_at c.take.new.self c.args.self.now.frames c.args.self.now.outer (mode.Operand 0)) (weight c.args.self.now (mode.Params c.args.header c.args.may_end)) c.args.self.now (with_cursor c.take.new.self c.args.self.now)
    c.rest.new.self c.rest.result refl (omega (arith, ap length t.1))
    (rest_goes c.args.self.now.kind c.args.may_end (λ ps. signed c.args.header.of c.args.self.now.uses (on_stat c.args.self.now) (on_expr c.args.self.now) (onto c.args.header.params ps.0, ps.1)) c.args.self.now.cursor c.take.new.self c.pos-pos.result t.0 t.1 c.pos-pos.ensures) c.rest.ensures
