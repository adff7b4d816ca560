use Rattle.std.proofs.Common.{length, refl, sym, ap, arith}
use Rattle.std.proofs.lemmas.Result.{err_from_is_err_and}
use Rattle.lua_parser.specs.Machine.Run.{run}
use Rattle.lua_parser.specs.declared.reader.BlockOf.TheVariants as block_of
use Rattle.lua_parser.specs.declared.reader.Mode.TheVariants as mode
use Rattle.lua_parser.specs.Stacks.{closed, weight, on_stat, on_expr}
use Rattle.lua_parser.proofs.Closings.{body_stops}
use Rattle.lua_parser.proofs.reader.Reader.end_block.Goals as goal

pub returns-in_err-end-in-Body : goal.returns-in_err-end-in-Body
returns-in_err-end-in-Body c =
    let p = err_from_is_err_and c.from_residual-in_err-end-in-Body.result c.from_residual-in_err-end-in-Body.ensures.1 in
    rw (c.in-Body.is, p.1, p.2) (body_stops c.in-Body.of c.in-Body.signature (c.args.stats, c.args.last, c.args.self.now.uses) (weight c.args.self.now (mode.Operand 0)) c.args.self.now c.in_err-end-in-Body.field-0.0 c.end-in-Body.new.self c.in_err-end-in-Body.ensures)

pub returns-in_ok-push-in-Repeat : goal.returns-in_ok-push-in-Repeat
returns-in_ok-push-in-Repeat c =
    let t = c.in_ok-need_word-in-Repeat.ensures in
    rw (c.in-Repeat.is, c.in_ok-push-in-Repeat.ensures, c.block-in-Repeat.ensures) (refl, omega (arith, ap length t.1), ap (run c.args.self.now.kind (closed (block_of.Repeat c.in-Repeat.pos) (c.args.stats, c.args.last, c.args.self.now.uses) (on_stat c.args.self.now) (on_expr c.args.self.now))) (sym t.1))
