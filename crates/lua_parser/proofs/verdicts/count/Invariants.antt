use Rattle.std.proofs.Common.{◌≡◌, drop}
use Rattle.lua_parser.specs.Words.{words_of}
use Rattle.lua_parser.specs.Counting.Count.{count, start}
use Rattle.lua_parser.proofs.verdicts.count.Given as goal

abbrev pub invariant-loop-token : goal.invariant-loop-token
invariant-loop-token l = count (words_of l.fn.source (drop l.token-index l.fn.tokens)) l.tally ≡ count (words_of l.fn.source l.fn.tokens) start
