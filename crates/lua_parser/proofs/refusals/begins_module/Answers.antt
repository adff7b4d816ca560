use Rattle.std.proofs.Common.{refl, Ok}
use Rattle.lua_parser.specs.Words.{words_of}
use Rattle.lua_parser.proofs.Parsings.{whole_begins, begins_where_over, reached, stopped}
use Rattle.lua_parser.specs.Stacks.{plan}
use Rattle.lua_parser.specs.declared.reader.Mode.TheVariants as mode
use Rattle.lua_parser.proofs.refusals.begins_module.Goals as goal

pub returns-in-Ok : goal.returns-in-Ok
returns-in-Ok c =
    let words = words_of c.args.source.now c.args.tokens.now in
    (λ t. whole_begins c.args.kind words c.in-Ok.field-0 (reached c.new-reader.result c.args.kind words (Ok c.in-Ok.field-0) c.new-reader.ensures.kind c.new-reader.ensures.words c.new-reader.ensures.plan c.in-Ok.ensures), λ v. refl)

pub returns-in-Err-Unexpected : goal.returns-in-Err-Unexpected
returns-in-Err-Unexpected c =
    let words = words_of c.args.source.now c.args.tokens.now in
    begins_where_over c.args.kind words _ c.is_over.result (reached c.new-reader.result c.args.kind words _ c.new-reader.ensures.kind c.new-reader.ensures.words c.new-reader.ensures.plan
    (stopped (plan c.new-reader.result mode.Block) c.new-reader.result c.read.new.self c.in-Err-Unexpected.field-0 c.in-Err-Unexpected.field-0-is c.in-Err-Unexpected.ensures)) c.is_over.ensures
