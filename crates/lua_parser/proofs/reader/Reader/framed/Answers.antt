use Rattle.std.proofs.Common.{◌+◌, length, Err, refl, sym, ap, ◌∙◌, arith}
use Rattle.std.proofs.lemmas.Result.{err_from_is_err_and}
use Rattle.lua_lexer.specs.declared.token.Keyword.TheVariants as w
use Rattle.lua_parser.specs.Words.{key}
use Rattle.lua_parser.specs.Machine.Run.{run}
use Rattle.lua_parser.specs.declared.reader.Frame.TheVariants as frame
use Rattle.lua_parser.specs.declared.reader.Mode.TheVariants as mode
use Rattle.lua_parser.specs.Stacks.{framed, weight, with_cursor, on_stat, on_return, on_expr}
use Rattle.lua_parser.proofs.Closings.{missing, need_stops, fails_as}
use Rattle.lua_parser.proofs.reader.Reader.framed.Goals as goal

pub returns-in_err-need_word-in-Step : goal.returns-in_err-need_word-in-Step
returns-in_err-need_word-in-Step c =
    let p = err_from_is_err_and c.from_residual-in_err-need_word-in-Step.result c.from_residual-in_err-need_word-in-Step.ensures.1 in
    rw (c.in-Step.is, p.1, p.2) (fails_as (framed (frame.Step c.in-Step.range) (on_stat c.args.self.now) (on_return c.args.self.now) (on_expr c.args.self.now) (c.args.expr, c.args.self.now.uses, c.args.self.now.takes_call)) (weight c.args.self.now (mode.Operand 0) + 5) c.args.self.now (with_cursor c.need_word-in-Step.new.self c.args.self.now) c.in_err-need_word-in-Step.field-0.0 (λ q.
    let h = need_stops (key w.Do) c.args.self.now.cursor c.in_err-need_word-in-Step.field-0.0 c.need_word-in-Step.new.self c.in_err-need_word-in-Step.ensures q in
    missing c.args.self.now.kind (key w.Do) _ c.args.self.now.cursor h.1 ∙ ap Err (sym h.0)))

pub returns-in-Listed : goal.returns-in-Listed
returns-in-Listed c = rw c.in-Listed.is c.listed.ensures

pub returns-in-Keyed : goal.returns-in-Keyed
returns-in-Keyed c = rw c.in-Keyed.is c.entry.ensures

pub returns-in-Named : goal.returns-in-Named
returns-in-Named c = rw c.in-Named.is c.entry-in-Named.ensures

pub returns-in-Item : goal.returns-in-Item
returns-in-Item c = rw c.in-Item.is c.entry-in-Item.ensures

pub returns-in_ok-push-in-First : goal.returns-in_ok-push-in-First
returns-in_ok-push-in-First c =
    let t = c.in_ok-need-in-First.ensures in
    rw (c.in-First.is, c.in_ok-push-in-First.ensures) (refl, omega (arith, ap length t.1), ap (run c.args.self.now.kind (framed (frame.First c.in-First.pos c.in-First.name) (on_stat c.args.self.now) (on_return c.args.self.now) (on_expr c.args.self.now) (c.args.expr, c.args.self.now.uses, c.args.self.now.takes_call))) (sym t.1))
