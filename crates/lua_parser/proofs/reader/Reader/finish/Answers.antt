use Rattle.std.proofs.Common.{[], arith}
use Rattle.lua_parser.specs.Stacks.{onto}
use Rattle.lua_parser.proofs.Starts.{finish_stuck}
use Rattle.lua_parser.proofs.reader.Reader.finish.Goals as goal

pub returns-then-not-is_over : goal.returns-then-not-is_over
returns-then-not-is_over c =
    let t = c.in_ok-need_end.ensures in
    finish_stuck c.args.self.now.kind c.args.self.now.outer (onto c.args.self.now.stats [], c.args.last, c.args.self.now.uses) c.args.self.now.cursor c.need_end.new.self t.0 c.requires t.1 (λ q. grind (arith, c.is_over.ensures, c.if-not-is_over.true, q))
