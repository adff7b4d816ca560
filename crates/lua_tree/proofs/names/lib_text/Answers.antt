use Rattle.lua_tree.proofs.Library.{listed_text}
use Rattle.lua_tree.proofs.names.lib_text.Goals as goal

pub returns-in-Some : goal.returns-in-Some
returns-in-Some c =
    let text = listed_text _ _ _ _ (c.library.ensures.complete c.args.name) c.number.ensures c.in-Some.ensures.lookup.3.0 c.in-Some.ensures.lookup.1 in
    rw (← text) c.text.ensures
