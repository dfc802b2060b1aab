use Rattle.expr_aggregates.proofs.Orders.{before_order}
use Rattle.expr_aggregates.proofs.laws.before_is_order.Goals as goal

pub returns : goal.returns
returns c = before_order
