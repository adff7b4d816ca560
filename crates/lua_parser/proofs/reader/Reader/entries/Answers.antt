use Rattle.std.proofs.Common.{◌≡◌, ◌+◌, length, false, refl, sym, ap, ◌∙◌, arith}
use Rattle.std.proofs.lemmas.Result.{err_from_is_err_and}
use Rattle.lua_lexer.specs.declared.token.Symbol.TheVariants as s
use Rattle.lua_parser.specs.Words.{sign}
use Rattle.lua_parser.specs.Machine.Plan.{Item, read}
use Rattle.lua_parser.specs.Machine.Run.{run}
use Rattle.lua_parser.specs.Outcomes.{head_is, head_is_name}
use Rattle.lua_parser.specs.declared.reader.Mode.TheVariants as mode
use Rattle.lua_parser.specs.Stacks.{tabled, behind_entry, weight, weight_at, with_cursor, on_stat, on_return, on_expr}
use Rattle.lua_parser.proofs.Goings.{taken, left, goes_as}
use Rattle.lua_parser.proofs.Closings.{entry_goes, fails_as, no_name_taken}
use Rattle.lua_parser.proofs.reader.Reader.entries.Goals as goal

pub returns-then-branch-2 : goal.returns-then-branch-2
returns-then-branch-2 c =
    let l = left (sign s.CloseBrace) c.args.self.now.cursor c.take.new.self c.in_ok-take.field-0 c.in_ok-take.ensures c.if-branch.false in
    let t = taken (sign s.OpenBracket) c.take.new.self c.take-2.new.self c.in_ok-take-2.field-0 c.in_ok-take-2.ensures c.if-branch-2.true in
    let u = sym l.0 ∙ t.1 in
    rw (c.in_ok-push.ensures, c.open.ensures) (refl, omega (arith, ap length u), ap (run c.args.self.now.kind (read (Item.entries c.args.self.now.uses) (tabled c.args.table (on_stat c.args.self.now) (on_expr c.args.self.now)))) (sym u))

pub returns-in_err-name : goal.returns-in_err-name
returns-in_err-name c =
    let p = err_from_is_err_and c.from_residual-in_err-name.result c.from_residual-in_err-name.ensures.1 in
    rw (p.1, p.2) (fails_as (read (Item.entries c.args.self.now.uses) (tabled c.args.table (on_stat c.args.self.now) (on_expr c.args.self.now))) (weight c.args.self.now (mode.Entries c.args.table)) c.args.self.now (with_cursor c.need_name.new.self c.args.self.now) c.in_err-name.field-0.0 (λ q. absurd (no_name_taken c.take-2.new.self c.in_err-name.field-0.0 c.need_name.new.self c.in_err-name.ensures (sym c.is_name.ensures ∙ c.if-is_name.true) q)))

pub returns-then-is_name : goal.returns-then-is_name
returns-then-is_name c =
    let l = left (sign s.CloseBrace) c.args.self.now.cursor c.take.new.self c.in_ok-take.field-0 c.in_ok-take.ensures c.if-branch.false in
    let m = left (sign s.OpenBracket) c.take.new.self c.take-2.new.self c.in_ok-take-2.field-0 c.in_ok-take-2.ensures c.if-branch-2.false in
    let u = sym l.0 ∙ sym m.0 ∙ c.in_ok-name.ensures in
    goes_as (read (Item.named_or_item c.in_ok-name.name c.args.self.now.uses) (λ d. behind_entry c.args.table (on_stat c.args.self.now) (on_expr c.args.self.now) d.0 d.1)) (read (Item.entries c.args.self.now.uses) (tabled c.args.table (on_stat c.args.self.now) (on_expr c.args.self.now))) (weight_at c.need_name.new.self c.args.self.now.frames c.args.self.now.outer (mode.Operand 0) + 8) (weight c.args.self.now (mode.Entries c.args.table)) c.args.self.now (with_cursor c.need_name.new.self c.args.self.now)
    c.named_entry.new.self c.named_entry.result refl (omega (arith, ap length u)) (ap (run c.args.self.now.kind (read (Item.entries c.args.self.now.uses) (tabled c.args.table (on_stat c.args.self.now) (on_expr c.args.self.now)))) (sym u)) c.named_entry.ensures

pub returns : goal.returns
returns c =
    let l = left (sign s.CloseBrace) c.args.self.now.cursor c.take.new.self c.in_ok-take.field-0 c.in_ok-take.ensures c.if-branch.false in
    let m = left (sign s.OpenBracket) c.take.new.self c.take-2.new.self c.in_ok-take-2.field-0 c.in_ok-take-2.ensures c.if-branch-2.false in
    let o : head_is (sign s.OpenBracket) c.args.self.now.cursor ≡ false = ap (head_is (sign s.OpenBracket)) (sym l.0) ∙ m.1 in
    let n : head_is_name c.args.self.now.cursor ≡ false = ap head_is_name (sym l.0 ∙ sym m.0) ∙ sym c.is_name.ensures ∙ c.if-is_name.false in
    rw (c.in_ok-push-2.ensures, m.0, l.0) (refl, omega arith, entry_goes c.args.self.now.kind (on_stat c.args.self.now) (on_return c.args.self.now) (on_expr c.args.self.now) c.args.table c.args.self.now.uses c.args.self.now.cursor l.1 o n)
