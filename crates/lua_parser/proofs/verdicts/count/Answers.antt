use Rattle.std.proofs.Common.{refl, drop, ◌+◌, ◌∙◌}
use Rattle.lua_parser.specs.Words.{word_of}
use Rattle.lua_parser.proofs.Counting.Loops.{item_seen, taken, counted_on}
use Rattle.lua_parser.proofs.verdicts.count.Goals as goal

pub loop-token-preserved : goal.loop-token-preserved
loop-token-preserved c =
    let x = c.token-item.result in
    let i = c.loop-token.token-index in
    counted_on c.args.source.now (drop i c.args.tokens.now) (drop (i + 1) c.args.tokens.now) x c.loop-token.tally _ _ (item_seen c.args.tokens.now i x c.loop-token-test.true c.token-item.is) c.loop-token.invariant
    (taken (word_of c.args.source.now x) c.tally.inside.expected c.tally.inside.height c.tally.inside.reached c.take.new.self _ (c.tally.view_is ∙ c.in_ok-meet.ensures) (c.in_ok-take.ensures (word_of c.args.source.now x) refl))
