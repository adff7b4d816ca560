use Rattle.std.proofs.Common.{refl, arith}
use Rattle.lua_tree.specs.declared.syntax.Expr.TheVariants as e
use Rattle.lua_parser.specs.Machine.Plan.{Item, read}
use Rattle.lua_parser.specs.Grammar.Syntax.{Called, place}
use Rattle.lua_parser.specs.declared.reader.Mode.TheVariants as mode
use Rattle.lua_parser.specs.Stacks.{prefixed, form_of, plan, weight, on_stat, on_return, on_expr}
use Rattle.lua_parser.proofs.Goings.{goes_as, call_goes}
use Rattle.lua_parser.proofs.reader.Reader.call.Goals as goal

pub returns : goal.returns
returns c = λ x.
    goes_as (read (Item.some_arguments c.args.self.now.uses) (λ es. prefixed c.args.within (on_stat c.args.self.now) (on_expr c.args.self.now) Called (e.Call (place c.args.expr) c.args.expr es.0) es.1)) (plan c.args.self.now (mode.Prefix c.args.within x c.args.expr)) (weight c.args.self.now (mode.Operand 0)) (weight c.args.self.now (mode.Prefix c.args.within x c.args.expr)) c.args.self.now c.args.self.now
    c.arguments.new.self c.arguments.result refl (omega arith) (call_goes c.args.self.now.kind (on_stat c.args.self.now) (on_return c.args.self.now) (on_expr c.args.self.now) c.args.within (form_of x) c.args.expr c.args.self.now.uses c.args.self.now.cursor c.requires) c.arguments.ensures
