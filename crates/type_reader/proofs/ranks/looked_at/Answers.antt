use Rattle.type_reader.specs.Lent.{declared_in}
use Rattle.type_reader.proofs.Straight.{no_ranks}
use Rattle.type_reader.proofs.ranks.looked_at.Goals as goal

pub returns : goal.returns
returns c = no_ranks (declared_in c.args.«module».declared.now) c.clear.new.self.items c.clear.ensures.items
