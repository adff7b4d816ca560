use Rattle.std.proofs.Common.{suc, length, ap, arith}
use Rattle.lua_lexer.proofs.Fences.{fence_done, fence_more, fence_absent}
use Rattle.lua_lexer.proofs.brackets.fence.Goals as goal

pub returns-then-byte-last : goal.returns-then-byte-last
returns-then-byte-last c = c.loop-byte.invariant.there 0 c.loop-byte.count _ (omega arith) (fence_done c.in-Some.ensures c.if-byte-last.true)

pub loop-byte-preserved : goal.loop-byte-preserved
loop-byte-preserved c = record {
  counted = let h = ap length c.in-Some.ensures in omega (arith, h, c.loop-byte.invariant.counted);
  there = λ n m r e f. c.loop-byte.invariant.there (suc n) m r (omega (arith, e)) (fence_more c.in-Some.ensures c.if-byte-ne61.false f);
  absent = λ out. c.loop-byte.invariant.absent (fence_absent c.in-Some.ensures c.if-byte-last.false out);
}
