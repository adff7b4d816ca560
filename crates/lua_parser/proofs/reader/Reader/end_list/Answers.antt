use Rattle.std.proofs.Common.{◌+◌, length, refl, sym, ap, arith}
use Rattle.lua_parser.specs.Machine.Run.{run}
use Rattle.lua_parser.specs.declared.reader.ListOf.TheVariants as list_of
use Rattle.lua_parser.specs.declared.reader.BlockOf.TheVariants as block_of
use Rattle.lua_parser.specs.declared.reader.Mode.TheVariants as mode
use Rattle.lua_parser.specs.Stacks.{listed, opened, weight, weight_at, with_cursor, on_stat, on_return, on_expr}
use Rattle.lua_parser.proofs.Goings.{goes_as}
use Rattle.lua_parser.proofs.reader.Reader.end_list.Goals as goal

pub returns-in_ok-need_word-in-Iterated : goal.returns-in_ok-need_word-in-Iterated
returns-in_ok-need_word-in-Iterated c =
    let t = c.in_ok-need_word-in-Iterated.ensures in
    let of = list_of.Iterated c.in-Iterated.pos c.in-Iterated.names in
    rw c.in-Iterated.is (goes_as (opened (block_of.Generic c.in-Iterated.pos c.into_list-in-Iterated.result c.args.values) c.args.self.now.uses (on_stat c.args.self.now) (on_expr c.args.self.now)) (listed of (on_stat c.args.self.now) (on_return c.args.self.now) (on_expr c.args.self.now) (c.args.values, c.args.self.now.uses, c.args.self.now.takes_call))
    (weight_at c.need_word.new.self c.args.self.now.frames c.args.self.now.outer (mode.Operand 0) + 2) (weight c.args.self.now (mode.Operand 0) + 5) c.args.self.now (with_cursor c.need_word.new.self c.args.self.now) c.enter.new.self c.enter.result refl (omega (arith, ap length t.1))
    (rw c.into_list-in-Iterated.ensures (ap (run c.args.self.now.kind (listed of (on_stat c.args.self.now) (on_return c.args.self.now) (on_expr c.args.self.now) (c.args.values, c.args.self.now.uses, c.args.self.now.takes_call))) (sym t.1))) c.enter.ensures)
