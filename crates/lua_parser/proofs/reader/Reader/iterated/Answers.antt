use Rattle.std.proofs.Common.{refl, arith}
use Rattle.lua_parser.specs.declared.reader.ListOf.TheVariants as list_of
use Rattle.lua_parser.specs.Stacks.{on_stat, on_return, on_expr}
use Rattle.lua_parser.proofs.Goings.{list_goes}
use Rattle.lua_parser.proofs.reader.Reader.iterated.Goals as goal

pub returns : goal.returns
returns c = rw (c.in_ok-push.ensures, c.new-none.ensures) (refl, omega arith, list_goes c.args.self.now.kind (on_stat c.args.self.now) (on_return c.args.self.now) (on_expr c.args.self.now) (list_of.Iterated c.args.pos c.args.names) c.args.self.now.uses c.args.self.now.cursor)
