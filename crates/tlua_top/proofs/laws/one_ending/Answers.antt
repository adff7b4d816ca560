use Rattle.tlua_top.proofs.Once.{defined_once}
use Rattle.tlua_top.proofs.laws.one_ending.Goals as goal

pub returns : goal.returns
returns c = defined_once
