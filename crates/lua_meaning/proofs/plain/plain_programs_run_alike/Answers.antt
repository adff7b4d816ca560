use Rattle.lua_meaning.proofs.Marks.Levels.{same_run}
use Rattle.lua_meaning.proofs.plain.plain_programs_run_alike.Goals as goal

pub returns : goal.returns
returns c = same_run
