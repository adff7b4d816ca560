-- The plain program, without marks and annotations, whose chunks are as the manual has them (Lua 5.3 manual, 3.3.2), and what its run has in common
-- with that of the marked one.
use Rattle.std.specs.Prelude.{◌≡◌}
use Rattle.lua_tree.specs.Plain.{plain_block}
use Rattle.lua_meaning.specs.Programs.{Module, Result}

abbrev pub plain_module : Module → Module
plain_module m = record m { body = plain_block m.body }

-- the same but for the two records
pub record IsSameRun (r q : Result) : Type 0 where
  pub output : r.output ≡ q.output
  pub ending : r.ending ≡ q.ending
  pub turns : r.turns ≡ q.turns
