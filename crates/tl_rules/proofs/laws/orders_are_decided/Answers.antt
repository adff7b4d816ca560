use Rattle.tl_rules.proofs.Decided.{are_orders}
use Rattle.tl_rules.proofs.laws.orders_are_decided.Goals as goal

pub returns : goal.returns
returns c = are_orders
