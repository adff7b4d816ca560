use Rattle.std.proofs.Common.{◌+◌, ◌∷◌, length, refl, sym, ap, ◌∙◌, arith}
use Rattle.std.proofs.lemmas.Result.{err_from_is_err_and}
use Rattle.lua_lexer.specs.declared.token.Keyword.TheVariants as w
use Rattle.lua_parser.specs.Words.{key}
use Rattle.lua_parser.specs.Machine.Plan.{Item, read}
use Rattle.lua_parser.specs.Machine.Run.{run}
use Rattle.lua_parser.specs.declared.reader.Mode.TheVariants as mode
use Rattle.lua_parser.specs.Stacks.{local_of, weight, with_cursor, on_stat, typed_plan}
use Rattle.lua_parser.proofs.Goings.{left}
use Rattle.lua_parser.proofs.Closings.{local_goes, stepped, fails_as, typed_stops}
use Rattle.lua_parser.proofs.reader.Reader.local.Goals as goal

pub returns-in_err-typed : goal.returns-in_err-typed
returns-in_err-typed c =
    let p = err_from_is_err_and c.from_residual-in_err-typed.result c.from_residual-in_err-typed.ensures.1 in
    let l = left (key w.Function) c.args.self.now.cursor c.take_word.new.self c.in_ok-take_word.field-0 c.in_ok-take_word.ensures c.if-branch.false in
    rw (p.1, p.2) (fails_as (read (Item.rest_of_local c.args.pos c.args.self.now.uses) (on_stat c.args.self.now)) (weight c.args.self.now (mode.Operand 0) + 8) c.args.self.now c.typed.new.self c.in_err-typed.field-0.0 (λ q.
    sym (ap (run c.args.self.now.kind (typed_plan λ x. read Item.more_typed λ r. local_of c.args.pos (x ∷ r) c.args.self.now.uses (on_stat c.args.self.now))) l.0 ∙ local_goes c.args.self.now.kind c.args.pos c.args.self.now.uses (on_stat c.args.self.now) c.args.self.now.cursor l.1)
    ∙ typed_stops (with_cursor c.take_word.new.self c.args.self.now) c.in_err-typed.field-0.0 c.typed.new.self c.in_err-typed.ensures q (λ x. read Item.more_typed λ r. local_of c.args.pos (x ∷ r) c.args.self.now.uses (on_stat c.args.self.now))))

pub returns : goal.returns
returns c =
    let l = left (key w.Function) c.args.self.now.cursor c.take_word.new.self c.in_ok-take_word.field-0 c.in_ok-take_word.ensures c.if-branch.false in
    let d = c.in_ok-typed.ensures in
    stepped (read (Item.rest_of_local c.args.pos c.args.self.now.uses) (on_stat c.args.self.now)) (weight c.args.self.now (mode.Operand 0) + 8) c.args.self.now (with_cursor c.take_word.new.self c.args.self.now) c.typed.new.self (mode.Locals c.args.pos c.push.new.self) c.typed.new.self.cursor d.0 refl
    (omega (arith, d.1, ap length l.0))
    (rw (c.in_ok-push.ensures, c.new-names.ensures) (sym (d.2 (λ x. read Item.more_typed λ r. local_of c.args.pos (x ∷ r) c.args.self.now.uses (on_stat c.args.self.now))) ∙ ap (run c.args.self.now.kind (typed_plan λ x. read Item.more_typed λ r. local_of c.args.pos (x ∷ r) c.args.self.now.uses (on_stat c.args.self.now))) l.0 ∙ local_goes c.args.self.now.kind c.args.pos c.args.self.now.uses (on_stat c.args.self.now) c.args.self.now.cursor l.1))
