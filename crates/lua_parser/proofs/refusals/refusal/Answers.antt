use Rattle.std.proofs.Common.{length, subst, ap, ◌-◌, ◌∙◌}
use Rattle.lua_parser.specs.Words.{words_of}
use Rattle.lua_parser.specs.Grammar.TooDeep.{limits}
use Rattle.lua_parser.specs.Counting.Verdict.{IsVerdict}
use Rattle.std.proofs.Common.{take}
use Rattle.lua_parser.proofs.Parsings.{read_before, begins_before, shallow_before}
use Rattle.lua_parser.proofs.refusals.refusal.Goals as goal

pub fault-requires-clause-shallow : goal.fault-requires-clause-shallow
fault-requires-clause-shallow c =
    let source = c.args.source.now in
    let tokens = c.args.tokens.now in
    let n = c.saturating_sub-read.result in
    let l = read_before c.args.kind source tokens c.args.left.now n c.requires (c.saturating_sub-read.ensures ∙ ap (λ z. length tokens - z) c.len.ensures) in
    shallow_before c.args.kind source tokens c.args.left.now n c.requires l (subst (IsVerdict limits (words_of source (take n tokens))) c.in-Ok-None.field-0-is c.in-Ok-None.ensures)

pub returns-in-Ok-Some : goal.returns-in-Ok-Some
returns-in-Ok-Some c =
    let source = c.args.source.now in
    let tokens = c.args.tokens.now in
    let n = c.saturating_sub-read.result in
    let l = read_before c.args.kind source tokens c.args.left.now n c.requires (c.saturating_sub-read.ensures ∙ ap (λ z. length tokens - z) c.len.ensures) in
    c.deep_refusal.ensures c.args.kind (begins_before c.args.kind source tokens c.args.left.now n c.requires l)
