use Rattle.std.proofs.Common.{[], refl, sym, ap, arith}
use Rattle.lua_parser.specs.Machine.Run.{run}
use Rattle.lua_parser.specs.declared.reader.Mode.TheVariants as mode
use Rattle.lua_parser.specs.declared.reader.Reader.{Reader}
use Rattle.lua_parser.specs.Stacks.{held, closed, ended, onto, plan, weight, on_stat, on_expr}
use Rattle.lua_parser.proofs.Goings.{goes_as}
use Rattle.lua_parser.proofs.reader.Reader.ended.Goals as goal

pub returns : goal.returns
returns c =
    let r : Reader = record { alloc = c.args.self.now.alloc; kind = c.args.self.now.kind; cursor = c.args.self.now.cursor; uses = c.args.self.now.uses; takes_call = c.args.self.now.takes_call; stats = c.in-Some.outer.stats; frames = c.in-Some.outer.frames; outer = c.pop.new.self } in
    goes_as (closed c.in-Some.outer.of (c.into_list-inner.result, c.args.last, c.args.self.now.uses) (on_stat r) (on_expr r)) (plan c.args.self.now (mode.Ended c.args.last)) (weight r (mode.Operand 0)) (weight c.args.self.now (mode.Ended c.args.last)) c.args.self.now r c.end_block.new.self c.end_block.result refl
    (omega (arith, ap held c.in-Some.ensures))
    (rw (c.into_list-inner.ensures, c.take.ensures.taken) (ap (λ z. run c.args.self.now.kind (ended z (onto c.args.self.now.stats [], c.args.last, c.args.self.now.uses)) c.args.self.now.cursor) (sym c.in-Some.ensures))) c.end_block.ensures
