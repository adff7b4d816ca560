use Rattle.std.proofs.Common.{◌+◌, ◌∷◌, [], length, refl, sym, ap, arith}
use Rattle.lua_lexer.specs.declared.token.Symbol.TheVariants as s
use Rattle.lua_parser.specs.Words.{sign}
use Rattle.lua_parser.specs.Machine.Plan.{Item}
use Rattle.lua_parser.specs.Machine.Run.{run}
use Rattle.lua_parser.specs.declared.reader.Frame.TheVariants as frame
use Rattle.lua_parser.specs.declared.reader.Mode.TheVariants as mode
use Rattle.lua_parser.specs.Stacks.{framed, listed, onto, weight, weight_at, with_cursor, on_stat, on_return, on_expr}
use Rattle.lua_parser.proofs.Goings.{taken, left, goes_as}
use Rattle.lua_parser.proofs.Closings.{without}
use Rattle.lua_parser.proofs.reader.Reader.listed.Goals as goal

pub returns-then-branch : goal.returns-then-branch
returns-then-branch c =
    let t = taken (sign s.Comma) c.args.self.now.cursor c.take.new.self c.in_ok-take.field-0 c.in_ok-take.ensures c.if-branch.true in
    rw (c.in_ok-push-2.ensures, c.in_ok-push.ensures) (refl, omega (arith, ap length t.1), ap (run c.args.self.now.kind (framed (frame.Listed c.args.of c.args.values) (on_stat c.args.self.now) (on_return c.args.self.now) (on_expr c.args.self.now) (c.args.expr, c.args.self.now.uses, c.args.self.now.takes_call))) (sym t.1))

pub returns : goal.returns
returns c =
    let l = left (sign s.Comma) c.args.self.now.cursor c.take.new.self c.in_ok-take.field-0 c.in_ok-take.ensures c.if-branch.false in
    goes_as (listed c.args.of (on_stat c.args.self.now) (on_return c.args.self.now) (on_expr c.args.self.now) (c.into_list.result, c.args.self.now.uses, c.args.self.now.takes_call)) (framed (frame.Listed c.args.of c.args.values) (on_stat c.args.self.now) (on_return c.args.self.now) (on_expr c.args.self.now) (c.args.expr, c.args.self.now.uses, c.args.self.now.takes_call)) (weight_at c.take.new.self c.args.self.now.frames c.args.self.now.outer (mode.Operand 0) + 5) (weight c.args.self.now (mode.Operand 0) + 5) c.args.self.now (with_cursor c.take.new.self c.args.self.now)
    c.end_list.new.self c.end_list.result refl (omega (arith, ap length l.0))
    (rw (c.into_list.ensures, c.in_ok-push.ensures, l.0) (sym (without c.args.self.now.kind (sign s.Comma) (Item.more_exprs c.args.self.now.uses c.args.self.now.takes_call) _ ([], c.args.self.now.uses, c.args.self.now.takes_call) (λ d. listed c.args.of (on_stat c.args.self.now) (on_return c.args.self.now) (on_expr c.args.self.now) (onto c.args.values (c.args.expr ∷ d.0), d.1, d.2)) (λ q z. refl) c.args.self.now.cursor c.requires l.1))) c.end_list.ensures
