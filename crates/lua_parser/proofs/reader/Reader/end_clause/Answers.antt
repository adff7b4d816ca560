use Rattle.std.proofs.Common.{◌+◌, ◌∷◌, length, false, refl, sym, ap, ◌∙◌, arith}
use Rattle.lua_tree.specs.declared.syntax.Stat.TheVariants as stat
use Rattle.lua_lexer.specs.declared.token.Keyword.TheVariants as w
use Rattle.lua_parser.specs.Words.{key}
use Rattle.lua_parser.specs.Machine.Plan.{Item, read}
use Rattle.lua_parser.specs.Machine.Run.{run}
use Rattle.lua_parser.specs.declared.reader.BlockOf.TheVariants as block_of
use Rattle.lua_parser.specs.declared.reader.Mode.TheVariants as mode
use Rattle.lua_parser.specs.Stacks.{opened, onto, weight, weight_at, with_cursor, on_stat, on_expr}
use Rattle.lua_parser.proofs.Goings.{taken, left, goes_as}
use Rattle.lua_parser.proofs.reader.Reader.end_clause.Goals as goal

pub returns-then-branch : goal.returns-then-branch
returns-then-branch c =
    let t = taken (key w.Elseif) c.args.self.now.cursor c.take_word.new.self c.in_ok-take_word.field-0 c.in_ok-take_word.ensures c.if-branch.true in
    rw (c.in_ok-push-2.ensures, c.in_ok-push.ensures) (refl, omega (arith, ap length t.1), ap (run c.args.self.now.kind (read (Item.more_clauses c.args.self.now.uses) (λ r. (on_stat c.args.self.now) (stat.If c.args.pos (onto c.args.clauses (c.args.clause ∷ r.0)) r.1, r.2, false)))) (sym t.1))

pub returns-then-branch-2 : goal.returns-then-branch-2
returns-then-branch-2 c =
    let l = left (key w.Elseif) c.args.self.now.cursor c.take_word.new.self c.in_ok-take_word.field-0 c.in_ok-take_word.ensures c.if-branch.false in
    let t = taken (key w.Else) c.take_word.new.self c.take_word-2.new.self c.in_ok-take_word-2.field-0 c.in_ok-take_word-2.ensures c.if-branch-2.true in
    let u = sym l.0 ∙ t.1 in
    goes_as (opened (block_of.Else c.args.pos c.push.new.self) c.args.self.now.uses (on_stat c.args.self.now) (on_expr c.args.self.now)) (read (Item.more_clauses c.args.self.now.uses) (λ r. (on_stat c.args.self.now) (stat.If c.args.pos (onto c.args.clauses (c.args.clause ∷ r.0)) r.1, r.2, false))) (weight_at c.take_word-2.new.self c.args.self.now.frames c.args.self.now.outer (mode.Operand 0) + 2) (weight c.args.self.now (mode.Operand 0)) c.args.self.now (with_cursor c.take_word-2.new.self c.args.self.now)
    c.enter.new.self c.enter.result refl (omega (arith, ap length u)) (rw c.in_ok-push.ensures (ap (run c.args.self.now.kind (read (Item.more_clauses c.args.self.now.uses) (λ r. (on_stat c.args.self.now) (stat.If c.args.pos (onto c.args.clauses (c.args.clause ∷ r.0)) r.1, r.2, false)))) (sym u))) c.enter.ensures
