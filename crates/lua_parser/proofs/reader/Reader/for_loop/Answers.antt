use Rattle.std.proofs.Common.{◌+◌, ◌∷◌, [], length, refl, sym, ap, ◌∙◌, arith}
use Rattle.lua_lexer.specs.declared.token.Symbol.TheVariants as s
use Rattle.lua_parser.specs.Words.{marked, named, sign}
use Rattle.lua_parser.specs.Machine.Run.{run}
use Rattle.lua_parser.specs.declared.starters.Start.TheVariants as starts
use Rattle.lua_parser.specs.declared.reader.Mode.TheVariants as mode
use Rattle.lua_parser.specs.Stacks.{iterated, onto, weight, weight_at, with_cursor, begun_stat, on_stat, on_expr}
use Rattle.lua_parser.proofs.Goings.{taken, left, goes_as}
use Rattle.lua_parser.proofs.reader.Reader.for_loop.Goals as goal

pub returns-then-branch : goal.returns-then-branch
returns-then-branch c =
    let t = taken (sign s.Assign) c.need_name.new.self c.take.new.self c.in_ok-take.field-0 c.in_ok-take.ensures c.if-branch.true in
    let whole = c.in_ok-name.ensures ∙ ap (λ z. named c.in_ok-name.name ∷ z) t.1 in
    rw c.in_ok-push.ensures (refl, omega (arith, ap length whole), ap (run c.args.self.now.kind (begun_stat c.args.self.now starts.For c.args.pos)) (sym whole))

pub returns-then-branch-2 : goal.returns-then-branch-2
returns-then-branch-2 c =
    let l = left (sign s.Assign) c.need_name.new.self c.take.new.self c.in_ok-take.field-0 c.in_ok-take.ensures c.if-branch.false in
    let t = taken (sign s.Comma) c.take.new.self c.take-2.new.self c.in_ok-take-2.field-0 c.in_ok-take-2.ensures c.if-branch-2.true in
    let whole = c.in_ok-name.ensures ∙ ap (λ z. named c.in_ok-name.name ∷ z) (sym l.0 ∙ t.1 ∙ ap (λ z. marked (sign s.Comma) t.0 ∷ z) c.in_ok-next.ensures) in
    rw (c.in_ok-push-3.ensures, c.in_ok-push-2.ensures, c.new-names.ensures) (refl, omega (arith, ap length whole), ap (run c.args.self.now.kind (begun_stat c.args.self.now starts.For c.args.pos)) (sym whole))

pub returns : goal.returns
returns c =
    let l = left (sign s.Assign) c.need_name.new.self c.take.new.self c.in_ok-take.field-0 c.in_ok-take.ensures c.if-branch.false in
    let m = left (sign s.Comma) c.take.new.self c.take-2.new.self c.in_ok-take-2.field-0 c.in_ok-take-2.ensures c.if-branch-2.false in
    let t = c.in_ok-need_word.ensures in
    let whole = c.in_ok-name.ensures ∙ ap (λ z. named c.in_ok-name.name ∷ z) (sym l.0 ∙ sym m.0 ∙ t.1) in
    goes_as (iterated c.args.pos (onto c.push-2.new.self []) c.args.self.now.uses (on_stat c.args.self.now) (on_expr c.args.self.now)) (begun_stat c.args.self.now starts.For c.args.pos) (weight_at c.need_word.new.self c.args.self.now.frames c.args.self.now.outer (mode.Operand 0) + 3) (weight c.args.self.now (mode.Operand 0) + 8) c.args.self.now (with_cursor c.need_word.new.self c.args.self.now)
    c.iterated.new.self c.iterated.result refl (omega (arith, ap length whole)) (rw (c.in_ok-push-2.ensures, c.new-names.ensures) (ap (run c.args.self.now.kind (begun_stat c.args.self.now starts.For c.args.pos)) (sym whole))) c.iterated.ensures
