use Rattle.std.proofs.Common.{◌≡◌, ◌∷◌, length, false, refl, sym, ap, ◌∙◌, arith}
use Rattle.std.proofs.lemmas.Result.{err_from_is_err_and}
use Rattle.lua_lexer.specs.declared.token.Symbol.TheVariants as s
use Rattle.lua_parser.specs.Words.{sign}
use Rattle.lua_parser.specs.Machine.Plan.{Item, read}
use Rattle.lua_parser.specs.Machine.Run.{run}
use Rattle.lua_parser.specs.Outcomes.{head_is}
use Rattle.lua_parser.specs.declared.reader.Mode.TheVariants as mode
use Rattle.lua_parser.specs.Stacks.{local_of, onto, weight, with_cursor, on_stat}
use Rattle.lua_parser.proofs.Goings.{taken, left}
use Rattle.lua_parser.proofs.Closings.{local_none, stepped, fails_as, typed_stops}
use Rattle.lua_parser.proofs.reader.Reader.locals.Goals as goal

pub returns-in_err-typed : goal.returns-in_err-typed
returns-in_err-typed c =
    let p = err_from_is_err_and c.from_residual-in_err-typed.result c.from_residual-in_err-typed.ensures.1 in
    let t = taken (sign s.Comma) c.args.self.now.cursor c.take.new.self c.in_ok-take.field-0 c.in_ok-take.ensures c.if-branch.true in
    rw (p.1, p.2) (fails_as (read Item.more_typed λ ys. local_of c.args.pos (onto c.args.names ys) c.args.self.now.uses (on_stat c.args.self.now)) (weight c.args.self.now (mode.Locals c.args.pos c.args.names)) c.args.self.now c.typed.new.self c.in_err-typed.field-0.0 (λ q.
    ap (run c.args.self.now.kind (read Item.more_typed λ ys. local_of c.args.pos (onto c.args.names ys) c.args.self.now.uses (on_stat c.args.self.now))) t.1 ∙ typed_stops (with_cursor c.take.new.self c.args.self.now) c.in_err-typed.field-0.0 c.typed.new.self c.in_err-typed.ensures q (λ x. read Item.more_typed λ r. local_of c.args.pos (onto c.args.names (x ∷ r)) c.args.self.now.uses (on_stat c.args.self.now))))

pub returns-then-branch : goal.returns-then-branch
returns-then-branch c =
    let t = taken (sign s.Comma) c.args.self.now.cursor c.take.new.self c.in_ok-take.field-0 c.in_ok-take.ensures c.if-branch.true in
    let d = c.in_ok-typed.ensures in
    stepped (read Item.more_typed λ ys. local_of c.args.pos (onto c.args.names ys) c.args.self.now.uses (on_stat c.args.self.now)) (weight c.args.self.now (mode.Locals c.args.pos c.args.names)) c.args.self.now (with_cursor c.take.new.self c.args.self.now) c.typed.new.self (mode.Locals c.args.pos c.push.new.self) c.typed.new.self.cursor d.0 refl
    (omega (arith, d.1, ap length t.1))
    (rw c.in_ok-push.ensures (sym (d.2 (λ x. read Item.more_typed λ r. local_of c.args.pos (onto c.args.names (x ∷ r)) c.args.self.now.uses (on_stat c.args.self.now))) ∙ ap (run c.args.self.now.kind (read Item.more_typed λ ys. local_of c.args.pos (onto c.args.names ys) c.args.self.now.uses (on_stat c.args.self.now))) (sym t.1)))

pub returns : goal.returns
returns c =
    let l = left (sign s.Comma) c.args.self.now.cursor c.take.new.self c.in_ok-take.field-0 c.in_ok-take.ensures c.if-branch.false in
    let m = left (sign s.Assign) c.take.new.self c.take-2.new.self c.in_ok-take-2.field-0 c.in_ok-take-2.ensures c.if-branch-2.false in
    let n : head_is (sign s.Assign) c.args.self.now.cursor ≡ false = ap (head_is (sign s.Assign)) (sym l.0) ∙ m.1 in
    rw (c.into_list.ensures, c.new.ensures, m.0, l.0) (refl, omega arith, local_none c.args.self.now.kind c.args.pos c.args.names c.args.self.now.uses (on_stat c.args.self.now) c.args.self.now.cursor c.requires l.1 n)
