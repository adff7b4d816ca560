use Rattle.tl_sound.proofs.Alike.{runs_alike}
use Rattle.tl_sound.proofs.laws.typed_modules_run_alike.Goals as goal

pub returns : goal.returns
returns c = runs_alike c.plain_programs_run_alike.ensures
