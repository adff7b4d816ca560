use Rattle.std.proofs.Common.{◌+◌, refl, sym, ap, length, ◌∙◌, arith}
use Rattle.lua_lexer.specs.declared.token.Symbol.TheVariants as s
use Rattle.lua_parser.specs.Words.{sign}
use Rattle.lua_parser.specs.Machine.Plan.{Item, read}
use Rattle.lua_parser.specs.declared.reader.Mode.TheVariants as mode
use Rattle.lua_parser.specs.Stacks.{on_stat, on_return, on_expr, called, weight, weight_at, with_cursor}
use Rattle.lua_parser.proofs.Goings.{taken, left, goes_as, arguments_goes}
use Rattle.lua_parser.proofs.Closings.{table_goes}
use Rattle.lua_parser.proofs.reader.Reader.arguments.Goals as goal

pub returns-then-branch : goal.returns-then-branch
returns-then-branch c =
    let t = taken (sign s.OpenParen) c.args.self.now.cursor c.take.new.self c.in_ok-take.field-0 c.in_ok-take.ensures c.if-branch.true in
    goes_as (read (Item.rest_of_arguments c.args.self.now.uses) (λ es. called c.args.of (on_stat c.args.self.now) (on_expr c.args.self.now) es.0 es.1)) (read (Item.some_arguments c.args.self.now.uses) (λ es. called c.args.of (on_stat c.args.self.now) (on_expr c.args.self.now) es.0 es.1))
    (weight_at c.open.new.self c.args.self.now.frames c.args.self.now.outer (mode.Operand 0) + 3) (weight c.args.self.now (mode.Operand 0)) c.args.self.now (with_cursor c.open.new.self c.args.self.now) c.first_argument.new.self c.first_argument.result refl
    (omega (arith, ap length t.1, ap length c.open.ensures)) (rw c.open.ensures (arguments_goes c.args.self.now.kind (on_stat c.args.self.now) (on_return c.args.self.now) (on_expr c.args.self.now) c.args.of c.args.self.now.uses c.args.self.now.cursor c.take.new.self t.0 t.1)) c.first_argument.ensures

pub returns-then-branch-2 : goal.returns-then-branch-2
returns-then-branch-2 c =
    let l = left (sign s.OpenParen) c.args.self.now.cursor c.take.new.self c.in_ok-take.field-0 c.in_ok-take.ensures c.if-branch.false in
    let t = taken (sign s.OpenBrace) c.take.new.self c.take-2.new.self c.in_ok-take-2.field-0 c.in_ok-take-2.ensures c.if-branch-2.true in
    let u = sym l.0 ∙ t.1 in
    rw (c.open-then-branch-2.ensures, c.new.ensures) (refl, omega (arith, ap length u), table_goes c.args.self.now.kind (λ es. called c.args.of (on_stat c.args.self.now) (on_expr c.args.self.now) es.0 es.1) c.args.self.now.uses c.args.self.now.cursor c.take-2.new.self c.pos-pos.result t.0 u c.pos-pos.ensures)
