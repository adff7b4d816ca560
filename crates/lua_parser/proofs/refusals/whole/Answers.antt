use Rattle.std.proofs.Common.{refl, subst}
use Rattle.lua_parser.specs.Words.{words_of}
use Rattle.lua_parser.specs.Counting.Verdict.{IsVerdict}
use Rattle.lua_parser.specs.Grammar.TooDeep.{limits}
use Rattle.lua_parser.proofs.Parsings.{all_tokens_begin, is_module}
use Rattle.lua_parser.proofs.refusals.whole.Goals as goal

pub returns-in-Ok-Some-clause-refused : goal.returns-in-Ok-Some-clause-refused
returns-in-Ok-Some-clause-refused c = c.deep_refusal.ensures c.args.chunk.kind (all_tokens_begin c.args.chunk.kind c.args.source.now c.args.tokens.now c.args.chunk.body c.requires)

pub returns-in-Ok-None-clause-tree : goal.returns-in-Ok-None-clause-tree
returns-in-Ok-None-clause-tree c =
    let words = words_of c.args.source.now c.args.tokens.now in
    is_module c.args.chunk.module c.args.chunk.kind words c.args.chunk refl refl c.requires (subst (IsVerdict limits words) c.in-Ok-None.field-0-is c.in-Ok-None.ensures)
