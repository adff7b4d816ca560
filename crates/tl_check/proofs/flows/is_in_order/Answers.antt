use Rattle.tl_check.proofs.Tested.{tested}
use Rattle.tl_check.proofs.flows.is_in_order.Goals as goal

pub returns : goal.returns
returns c = tested c.args.loose c.new.result c.args.a.now c.args.b.now c.is_below.result c.new.ensures c.is_below.ensures
