use Rattle.std.proofs.Common.{◌∷◌, sym, arith}
use Rattle.lua_parser.specs.Machine.Plan.{Item, read}
use Rattle.lua_parser.specs.declared.reader.Mode.TheVariants as mode
use Rattle.lua_parser.specs.Stacks.{signed, onto, weight, on_stat, on_expr, param_plan, more_params_plan}
use Rattle.lua_parser.proofs.Closings.{goes_from}
use Rattle.lua_parser.proofs.reader.Reader.param.Goals as goal

pub returns : goal.returns
returns c =
    let d = c.in_ok-typed.ensures in
    goes_from (param_plan c.args.header c.args.self.now) (weight c.args.self.now (mode.Operand 0)) c.args.self.now c.typed.new.self c.more_params.new.self c.more_params.result c.typed.new.self.cursor
    (more_params_plan (record { of = c.args.header.of; params = c.push.new.self; depth = c.args.header.depth })) (λ r. weight r (mode.Operand 0)) d.0 (omega (arith, d.1))
    (rw c.in_ok-push.ensures (sym (d.2 (λ x. read Item.more_params λ ps. signed c.args.header.of c.args.self.now.uses (on_stat c.args.self.now) (on_expr c.args.self.now) (onto c.args.header.params (x ∷ ps.0), ps.1))))) c.more_params.ensures
