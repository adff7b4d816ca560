use Rattle.std.proofs.Common.{◌+◌, ◌∷◌, sym, ap, length, ◌∙◌, arith}
use Rattle.lua_lexer.specs.declared.token.Symbol.TheVariants as s
use Rattle.lua_parser.specs.Words.{sign}
use Rattle.lua_parser.specs.Machine.Plan.{Item, read}
use Rattle.lua_parser.specs.declared.reader.Form.TheVariants as form
use Rattle.lua_parser.specs.declared.reader.Mode.TheVariants as mode
use Rattle.lua_parser.specs.declared.reader.Within.TheVariants as within
use Rattle.lua_parser.specs.declared.reader.ListOf.TheVariants as list_of
use Rattle.lua_parser.specs.Stacks.{on_stat, on_return, on_expr, listed, assignment, onto, weight_at}
use Rattle.lua_parser.proofs.Goings.{taken, left, goes_on, assign_goes, comma_goes}
use Rattle.lua_parser.proofs.reader.Reader.past_target.Goals as goal

pub returns-then-branch : goal.returns-then-branch
returns-then-branch c =
    let t = taken (sign s.Assign) c.args.self.now.cursor c.take.new.self c.in_ok-take.field-0 c.in_ok-take.ensures c.if-branch.true in
    goes_on (mode.Prefix (within.Targets c.args.targets) form.Target c.args.expr) c.args.self.now (read (Item.exprs c.args.self.now.uses) (listed (list_of.Assigned c.push.new.self) (on_stat c.args.self.now) (on_return c.args.self.now) (on_expr c.args.self.now))) (weight_at c.take.new.self c.args.self.now.frames c.args.self.now.outer (mode.Operand 0) + 3) c.take.new.self c.list.result c.list.new.self
    (omega (arith, ap length t.1)) (rw c.in_ok-push.ensures (assign_goes c.args.self.now.kind (on_stat c.args.self.now) (on_return c.args.self.now) (on_expr c.args.self.now) c.args.targets c.args.expr c.args.self.now.uses c.args.self.now.cursor c.take.new.self t.0 t.1)) c.list.ensures

pub returns-then-branch-2 : goal.returns-then-branch-2
returns-then-branch-2 c =
    let l = left (sign s.Assign) c.args.self.now.cursor c.take.new.self c.in_ok-take.field-0 c.in_ok-take.ensures c.if-branch.false in
    let t = taken (sign s.Comma) c.take.new.self c.take-2.new.self c.in_ok-take-2.field-0 c.in_ok-take-2.ensures c.if-branch-2.true in
    let u = sym l.0 ∙ t.1 in
    goes_on (mode.Prefix (within.Targets c.args.targets) form.Target c.args.expr) c.args.self.now (read (Item.next_target c.args.self.now.uses) (λ d. on_stat c.args.self.now (assignment (onto c.push.new.self (d.0 ∷ d.1)) d.2, d.3, d.4))) (weight_at c.take-2.new.self c.args.self.now.frames c.args.self.now.outer (mode.Operand 0)) c.take-2.new.self c.next_target.result c.next_target.new.self
    (omega (arith, ap length u)) (rw c.in_ok-push.ensures (comma_goes c.args.self.now.kind (on_stat c.args.self.now) (on_return c.args.self.now) (on_expr c.args.self.now) c.args.targets c.args.expr c.args.self.now.uses c.args.self.now.cursor c.take-2.new.self t.0 u)) c.next_target.ensures
