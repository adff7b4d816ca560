use Rattle.std.proofs.Common.{◌+◌, length, refl, ap, arith}
use Rattle.lua_parser.specs.Machine.Run.{run}
use Rattle.lua_parser.specs.declared.starters.Start.TheVariants as starts
use Rattle.lua_parser.specs.declared.reader.BlockOf.TheVariants as block_of
use Rattle.lua_parser.specs.declared.reader.Mode.TheVariants as mode
use Rattle.lua_parser.specs.Stacks.{opened, weight, weight_at, with_cursor, begun_stat, on_stat, on_expr}
use Rattle.lua_parser.proofs.Goings.{goes_as}
use Rattle.lua_parser.proofs.reader.Reader.started.Goals as goal

pub returns-in-Do : goal.returns-in-Do
returns-in-Do c = rw c.in-Do.is
    (goes_as (opened (block_of.Do c.args.pos) c.args.self.now.uses (on_stat c.args.self.now) (on_expr c.args.self.now)) (begun_stat c.args.self.now starts.Do c.args.pos) (weight_at c.open.new.self c.args.self.now.frames c.args.self.now.outer (mode.Operand 0) + 2) (weight c.args.self.now (mode.Operand 0) + 8) c.args.self.now (with_cursor c.open.new.self c.args.self.now) c.enter.new.self c.enter.result refl
    (omega (arith, ap length c.open.ensures)) (ap (run c.args.self.now.kind (opened (block_of.Do c.args.pos) c.args.self.now.uses (on_stat c.args.self.now) (on_expr c.args.self.now))) c.open.ensures) c.enter.ensures)

pub returns-in_ok-push-in-While : goal.returns-in_ok-push-in-While
returns-in_ok-push-in-While c = rw (c.in-While.is, c.in_ok-push-in-While.ensures, c.open-in-While.ensures) (refl, omega arith, refl)

pub returns-in-Repeat : goal.returns-in-Repeat
returns-in-Repeat c = rw c.in-Repeat.is
    (goes_as (opened (block_of.Repeat c.args.pos) c.args.self.now.uses (on_stat c.args.self.now) (on_expr c.args.self.now)) (begun_stat c.args.self.now starts.Repeat c.args.pos) (weight_at c.open-in-Repeat.new.self c.args.self.now.frames c.args.self.now.outer (mode.Operand 0) + 2) (weight c.args.self.now (mode.Operand 0) + 8) c.args.self.now (with_cursor c.open-in-Repeat.new.self c.args.self.now) c.enter-in-Repeat.new.self c.enter-in-Repeat.result refl
    (omega (arith, ap length c.open-in-Repeat.ensures)) (ap (run c.args.self.now.kind (opened (block_of.Repeat c.args.pos) c.args.self.now.uses (on_stat c.args.self.now) (on_expr c.args.self.now))) c.open-in-Repeat.ensures) c.enter-in-Repeat.ensures)

pub returns-in_ok-push-in-If : goal.returns-in_ok-push-in-If
returns-in_ok-push-in-If c = rw (c.in-If.is, c.in_ok-push-in-If.ensures, c.new-none.ensures, c.open-in-If.ensures) (refl, omega arith, refl)

pub returns-in-For : goal.returns-in-For
returns-in-For c = rw c.in-For.is
    (goes_as (begun_stat c.args.self.now starts.For c.args.pos) (begun_stat c.args.self.now starts.For c.args.pos) (weight_at c.open-in-For.new.self c.args.self.now.frames c.args.self.now.outer (mode.Operand 0) + 8) (weight c.args.self.now (mode.Operand 0) + 8) c.args.self.now (with_cursor c.open-in-For.new.self c.args.self.now) c.for_loop.new.self c.for_loop.result refl
    (omega (arith, ap length c.open-in-For.ensures)) (ap (run c.args.self.now.kind (begun_stat c.args.self.now starts.For c.args.pos)) c.open-in-For.ensures) c.for_loop.ensures)
