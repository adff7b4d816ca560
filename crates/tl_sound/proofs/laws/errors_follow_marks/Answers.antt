use Rattle.tl_sound.proofs.Sound.{errors_stand}
use Rattle.tl_sound.proofs.laws.errors_follow_marks.Goals as goal

pub returns : goal.returns
returns c = errors_stand
