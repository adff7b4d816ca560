use Rattle.lua_parser.specs.Words.{words_of}
use Rattle.lua_parser.specs.Parsing.{IsModule, IsRefused}
use Rattle.tlua_top.specs.Defined.{OfTree}
use Rattle.tlua_top.proofs.Phases.{goes_on}
use Rattle.tlua_top.proofs.accept.of_tokens.Goals as goal

pub returns-in-Ok : goal.returns-in-Ok
returns-in-Ok c = λ input.
    let words = words_of c.args.source.now c.args.tokens.now in
    goes_on c.args.file.now (IsRefused c.args.kind words) (IsModule 0 c.args.kind words) (OfTree c.args.file.now input) input c.of_tree.result c.in-Ok.tree c.in-Ok.ensures.tree (c.of_tree.ensures input)
