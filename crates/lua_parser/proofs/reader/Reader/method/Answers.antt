use Rattle.std.proofs.Common.{length, refl, ap, arith}
use Rattle.lua_tree.specs.declared.syntax.Expr.TheVariants as e
use Rattle.lua_parser.specs.Machine.Plan.{Item, read}
use Rattle.lua_parser.specs.Grammar.Syntax.{Called, place}
use Rattle.lua_parser.specs.declared.reader.Mode.TheVariants as mode
use Rattle.lua_parser.specs.Stacks.{prefixed, form_of, plan, weight, weight_at, with_cursor, on_stat, on_expr}
use Rattle.lua_parser.proofs.Goings.{goes_as, colon_begins}
use Rattle.lua_parser.proofs.Closings.{method_goes}
use Rattle.lua_parser.proofs.reader.Reader.method.Goals as goal

pub returns : goal.returns
returns c = λ x.
    let b = colon_begins c.args.self.now.cursor c.pass.new.self c.requires c.in_ok-pass.ensures in
    let n = c.in_ok-name.ensures in
    goes_as (read (Item.some_arguments c.args.self.now.uses) (λ es. prefixed c.args.within (on_stat c.args.self.now) (on_expr c.args.self.now) Called (e.Method (place c.args.expr) c.args.expr c.in_ok-name.name es.0) es.1)) (plan c.args.self.now (mode.Prefix c.args.within x c.args.expr))
    (weight_at c.need_name.new.self c.args.self.now.frames c.args.self.now.outer (mode.Operand 0)) (weight c.args.self.now (mode.Prefix c.args.within x c.args.expr)) c.args.self.now (with_cursor c.need_name.new.self c.args.self.now) c.arguments.new.self c.arguments.result refl
    (omega (arith, ap length b, ap length n)) (method_goes c.args.self.now.kind (on_stat c.args.self.now) (on_expr c.args.self.now) c.args.within (form_of x) c.args.expr c.args.self.now.uses c.in_ok-name.name c.args.self.now.cursor c.pass.new.self c.need_name.new.self _ b n) c.arguments.ensures
