use Rattle.lua_parser.proofs.refusals.first_deep.Goals as goal

pub returns-in-Ok-Some : goal.returns-in-Ok-Some
returns-in-Ok-Some c = c.deep_refusal.ensures c.args.kind c.requires.begins
