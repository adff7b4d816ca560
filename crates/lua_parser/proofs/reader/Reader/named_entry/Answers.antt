use Rattle.std.proofs.Common.{length, refl, sym, ap, arith}
use Rattle.lua_lexer.specs.declared.token.Symbol.TheVariants as s
use Rattle.lua_parser.specs.Words.{sign}
use Rattle.lua_parser.specs.Machine.Plan.{Item, read}
use Rattle.lua_parser.specs.Machine.Run.{run}
use Rattle.lua_parser.specs.Stacks.{behind_entry, on_stat, on_expr}
use Rattle.lua_parser.proofs.Goings.{taken, left}
use Rattle.lua_parser.proofs.Closings.{item_goes}
use Rattle.lua_parser.proofs.reader.Reader.named_entry.Goals as goal

pub returns-then-branch : goal.returns-then-branch
returns-then-branch c =
    let t = taken (sign s.Assign) c.args.self.now.cursor c.take.new.self c.in_ok-take.field-0 c.in_ok-take.ensures c.if-branch.true in
    rw c.in_ok-push.ensures (refl, omega (arith, ap length t.1), ap (run c.args.self.now.kind (read (Item.named_or_item c.args.name c.args.self.now.uses) (λ d. behind_entry c.args.table (on_stat c.args.self.now) (on_expr c.args.self.now) d.0 d.1))) (sym t.1))

pub returns : goal.returns
returns c =
    let l = left (sign s.Assign) c.args.self.now.cursor c.take.new.self c.in_ok-take.field-0 c.in_ok-take.ensures c.if-branch.false in
    rw (c.in_ok-push-2.ensures, c.leaf.ensures, c.in_ok-number.ensures.1, c.in_ok-number.ensures.0, l.0) (refl, omega arith, item_goes c.args.self.now.kind c.args.name c.args.self.now.uses (λ d. behind_entry c.args.table (on_stat c.args.self.now) (on_expr c.args.self.now) d.0 d.1) c.args.self.now.cursor l.1)
