use Rattle.std.proofs.Common.{◌+◌, [], length, refl, sym, ap, ◌∙◌, arith}
use Rattle.lua_parser.specs.Machine.Run.{run}
use Rattle.lua_parser.specs.declared.reader.BlockOf.TheVariants as block_of
use Rattle.lua_parser.specs.declared.reader.Mode.TheVariants as mode
use Rattle.lua_parser.specs.Stacks.{opened, signed, onto, weight, weight_at, with_cursor, on_stat, on_expr}
use Rattle.lua_parser.proofs.Goings.{goes_as}
use Rattle.lua_parser.proofs.reader.Reader.signed.Goals as goal

pub returns : goal.returns
returns c =
    let d = c.in_ok-results.ensures in
    let o = c.open.ensures ∙ c.close.ensures in
    goes_as (opened (block_of.Body c.args.header.of (record { params = c.into_list.result; rest = c.args.rest; results = c.in_ok-results.results })) c.args.self.now.uses (on_stat c.args.self.now) (on_expr c.args.self.now)) (signed c.args.header.of c.args.self.now.uses (on_stat c.args.self.now) (on_expr c.args.self.now) (onto c.args.header.params [], c.args.rest))
    (weight_at c.outcome.new.cursor c.args.self.now.frames c.args.self.now.outer (mode.Operand 0) + 2) (weight c.args.self.now (mode.Operand 0) + 2) c.args.self.now (with_cursor c.outcome.new.cursor c.args.self.now) c.enter.new.self c.enter.result refl
    (omega (arith, d.0, ap length o)) (rw c.into_list.ensures (sym (d.1 (λ r. opened (block_of.Body c.args.header.of (record { params = onto c.args.header.params []; rest = c.args.rest; results = r })) c.args.self.now.uses (on_stat c.args.self.now) (on_expr c.args.self.now))) ∙ ap (run c.args.self.now.kind (signed c.args.header.of c.args.self.now.uses (on_stat c.args.self.now) (on_expr c.args.self.now) (onto c.args.header.params [], c.args.rest))) o)) c.enter.ensures
