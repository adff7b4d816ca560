use Rattle.std.proofs.Common.{◌+◌, [], length, Some, sym, ap, ◌∙◌, arith}
use Rattle.lua_lexer.specs.declared.token.Symbol.TheVariants as s
use Rattle.lua_parser.specs.Words.{sign}
use Rattle.lua_parser.specs.Machine.Plan.{want}
use Rattle.lua_parser.specs.Machine.Run.{run}
use Rattle.lua_parser.specs.declared.reader.Mode.TheVariants as mode
use Rattle.lua_parser.specs.Stacks.{signed, onto, weight, with_cursor, on_stat, on_expr, rest_plan}
use Rattle.lua_parser.proofs.Closings.{goes_from}
use Rattle.lua_parser.proofs.reader.Reader.rest.Goals as goal

pub returns : goal.returns
returns c =
    let d = c.in_ok-ty.ensures in
    let t = c.in_ok-need.ensures in
    goes_from (rest_plan c.args.header c.args.pos c.args.self.now) (weight c.args.self.now (mode.Operand 0)) c.args.self.now (with_cursor c.need.new.self c.annotation.new.self) c.signed.new.self c.signed.result c.need.new.self
    (λ r. signed c.args.header.of r.uses (on_stat r) (on_expr r) (onto c.args.header.params [], Some (record { pos = c.args.pos; ty = c.in_ok-ty.ty }))) (λ r. weight r (mode.Operand 0) + 2) (ap (with_cursor c.need.new.self) d.0) (omega (arith, d.1, ap length t.1))
    (ap (run c.args.self.now.kind (want (sign s.CloseParen) λ _. signed c.args.header.of c.args.self.now.uses (on_stat c.args.self.now) (on_expr c.args.self.now) (onto c.args.header.params [], Some (record { pos = c.args.pos; ty = c.in_ok-ty.ty })))) (sym t.1)
    ∙ sym (d.2 (λ a. want (sign s.CloseParen) λ _. signed c.args.header.of c.args.self.now.uses (on_stat c.args.self.now) (on_expr c.args.self.now) (onto c.args.header.params [], Some (record { pos = c.args.pos; ty = a }))))) c.signed.ensures
