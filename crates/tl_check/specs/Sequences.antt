-- Statements in a row.
use Rattle.std.specs.Prelude.{List, map, None}
use Rattle.lua_tree.specs.declared.syntax.Stat.{Stat}
use Rattle.lua_tree.specs.Tree.{Block}
use Rattle.lua_tree.specs.View.{stat_of, block_from}
use Rattle.tl_rules.specs.Locals.{Env}
use Rattle.tl_rules.specs.Statements.{TypedBlock}

-- statements as a block without a `return`
abbrev pub statements_of : List Stat → Block
statements_of ss = block_from (map stat_of ss) None

abbrev pub stats_view : Env → List Stat → TypedBlock
stats_view env ss = record { env = env; tree = statements_of ss }
