use Rattle.std.proofs.Common.{refl, sym, ◌∙◌, arith}
use Rattle.lua_parser.specs.Stacks.{on_stat}
use Rattle.lua_parser.proofs.Starts.{behind_goes}
use Rattle.lua_parser.proofs.reader.Reader.behind_name.Goals as goal

pub returns : goal.returns
returns c =
    rw (c.leaf.ensures, c.in_ok-number.ensures.1, c.in_ok-number.ensures.0) (refl, omega arith, behind_goes c.args.self.now.kind (on_stat c.args.self.now) _ c.args.name c.args.self.now.uses c.args.self.now.cursor (sym c.at_type_stat.ensures ∙ c.if-at_type_stat.false))
