use Rattle.std.proofs.Common.{Err, subst}
use Rattle.std.specs.Prelude.{IfOk, IfErr}
use Rattle.lua_parser.specs.Words.{words_of}
use Rattle.lua_parser.specs.Parsing.{IsModule, IsFailure}
use Rattle.lua_parser.proofs.Parsings.{only_tree, only_refusal, of_tree}
use Rattle.lua_parser.proofs.Parts.Spelled.{numbered, fewer_than_tokens, no_more_than_bytes}
use Rattle.lua_parser.proofs.parsing.parse.Goals as goal

pub returns-in-Ok-clause-only_tree : goal.returns-in-Ok-clause-only_tree
returns-in-Ok-clause-only_tree c = λ b d s. only_tree c.args.module c.whole.result
    (subst (λ t. IfOk c.whole.result (λ z. IsModule c.args.module c.args.kind (words_of c.args.source.now t) z)) c.as_slice-in-Ok.ensures c.whole.ensures.tree)
    (subst (λ t. IfErr c.whole.result (λ z. IsFailure c.args.kind (words_of c.args.source.now t) z)) c.as_slice-in-Ok.ensures c.whole.ensures.refused) d s

pub returns-in-Ok-clause-only_refusal : goal.returns-in-Ok-clause-only_refusal
returns-in-Ok-clause-only_refusal c = λ r f. only_refusal c.args.module c.whole.result
    (subst (λ t. IfOk c.whole.result (λ z. IsModule c.args.module c.args.kind (words_of c.args.source.now t) z)) c.as_slice-in-Ok.ensures c.whole.ensures.tree)
    (subst (λ t. IfErr c.whole.result (λ z. IsFailure c.args.kind (words_of c.args.source.now t) z)) c.as_slice-in-Ok.ensures c.whole.ensures.refused) f

pub returns-in-Err-Unexpected-clause-only_tree : goal.returns-in-Err-Unexpected-clause-only_tree
returns-in-Err-Unexpected-clause-only_tree c = λ b d s. only_tree c.args.module (Err c.refusal.result) tt (subst (λ z. IsFailure c.args.kind (words_of c.args.source.now z) c.refusal.result) c.as_slice-in-Err-Unexpected.ensures c.refusal.ensures) d s

pub returns-in-Err-Unexpected-clause-only_refusal : goal.returns-in-Err-Unexpected-clause-only_refusal
returns-in-Err-Unexpected-clause-only_refusal c = λ r f. only_refusal c.args.module (Err c.refusal.result) tt (subst (λ z. IsFailure c.args.kind (words_of c.args.source.now z) c.refusal.result) c.as_slice-in-Err-Unexpected.ensures c.refusal.ensures) f

pub returns-in-Err-Deep-clause-only_tree : goal.returns-in-Err-Deep-clause-only_tree
returns-in-Err-Deep-clause-only_tree c = λ b d s. only_tree c.args.module (Err c.read_too_far.result) tt (subst (λ z. IsFailure c.args.kind (words_of c.args.source.now z) c.read_too_far.result) c.as_slice-in-Err-Deep.ensures c.read_too_far.ensures) d s

pub returns-in-Err-Deep-clause-only_refusal : goal.returns-in-Err-Deep-clause-only_refusal
returns-in-Err-Deep-clause-only_refusal c = λ r f. only_refusal c.args.module (Err c.read_too_far.result) tt (subst (λ z. IsFailure c.args.kind (words_of c.args.source.now z) c.read_too_far.result) c.as_slice-in-Err-Deep.ensures c.read_too_far.ensures) f

pub returns-in-Ok-clause-numbered : goal.returns-in-Ok-clause-numbered
returns-in-Ok-clause-numbered c =
    of_tree c.whole.result (λ z h. numbered c.args.kind h.2) (subst (λ t. IfOk c.whole.result (λ z. IsModule c.args.module c.args.kind (words_of c.args.source.now t) z)) c.as_slice-in-Ok.ensures c.whole.ensures.tree)

pub returns-in-Ok-clause-fewer : goal.returns-in-Ok-clause-fewer
returns-in-Ok-clause-fewer c =
    of_tree c.whole.result (λ z h. fewer_than_tokens c.args.source.now c.args.tokens.now h.2) (subst (λ t. IfOk c.whole.result (λ z. IsModule c.args.module c.args.kind (words_of c.args.source.now t) z)) c.as_slice-in-Ok.ensures c.whole.ensures.tree)

pub returns-in-Ok-clause-few : goal.returns-in-Ok-clause-few
returns-in-Ok-clause-few c = λ m l.
    of_tree c.whole.result (λ z h. no_more_than_bytes m c.args.source.now c.args.tokens.now l h.2) (subst (λ t. IfOk c.whole.result (λ z. IsModule c.args.module c.args.kind (words_of c.args.source.now t) z)) c.as_slice-in-Ok.ensures c.whole.ensures.tree)
