use Rattle.std.proofs.Common.{◌≡◌, sym, subst, ◌∙◌}
use Rattle.lua_parser.specs.Words.{words_of}
use Rattle.lua_parser.specs.Counting.Count.{at}
use Rattle.lua_parser.specs.Counting.Most.{rise}
use Rattle.lua_parser.proofs.Cuts.{count_words}
use Rattle.lua_parser.proofs.Counting.Limits.{is_verdict}
use Rattle.lua_parser.proofs.verdicts.verdict.Goals as goal

pub returns-then-is_settled : goal.returns-then-is_settled
returns-then-is_settled c =
    is_verdict (words_of c.args.source.now c.args.tokens.now) (at c.tally.inside.expected c.tally.inside.height c.tally.inside.reached) c.first_over-first.result _ c.in_ok-later.later (c.tally.view_is ∙ c.in_ok-tally.ensures)
    (sym (count_words c.args.source.now c.args.tokens.now)) c.first_over-first.ensures (subst (λ t. c.in_ok-later.later ≡ rise t.expected t.height) (sym c.tally.view_is) c.in_ok-later.ensures) (c.is_settled.ensures c.if-is_settled.true)
