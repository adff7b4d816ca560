use Rattle.tl_sound.proofs.Sound.{errors_named}
use Rattle.tl_sound.proofs.laws.errors_name_crossings.Goals as goal

pub returns : goal.returns
returns c = errors_named
