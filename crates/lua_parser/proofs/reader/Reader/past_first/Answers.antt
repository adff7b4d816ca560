use Rattle.std.proofs.Common.{refl, arith}
use Rattle.lua_parser.specs.declared.reader.Form.TheVariants as form
use Rattle.lua_parser.specs.declared.reader.Mode.TheVariants as mode
use Rattle.lua_parser.specs.declared.reader.Within.TheVariants as within
use Rattle.lua_parser.specs.Stacks.{on_stat, on_return, on_expr, weight, plan}
use Rattle.lua_parser.proofs.Goings.{goes_on, called_goes, first_target_goes}
use Rattle.lua_parser.proofs.reader.Reader.past_first.Goals as goal

pub returns-in-Called : goal.returns-in-Called
returns-in-Called c = rw (c.in-Called.is, c.place.ensures) (refl, omega arith, called_goes c.args.self.now.kind (on_stat c.args.self.now) (on_return c.args.self.now) (on_expr c.args.self.now) c.args.expr c.args.self.now.uses c.args.self.now.cursor c.requires)

pub returns-in-Target : goal.returns-in-Target
returns-in-Target c =
    goes_on (mode.Prefix within.Statement c.args.form c.args.expr) c.args.self.now (plan c.args.self.now (mode.Prefix (within.Targets c.new-none.result) form.Target c.args.expr)) (weight c.args.self.now (mode.Prefix (within.Targets c.new-none.result) form.Target c.args.expr)) c.args.self.now.cursor c.past_target.result c.past_target.new.self
    (omega arith) (rw (c.in-Target.is, c.new-none.ensures) (first_target_goes c.args.self.now.kind (on_stat c.args.self.now) (on_return c.args.self.now) (on_expr c.args.self.now) c.args.expr c.args.self.now.uses c.args.self.now.cursor c.requires)) c.past_target.ensures
