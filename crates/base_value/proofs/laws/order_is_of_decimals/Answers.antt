use Rattle.base_value.proofs.Orders.{order_of_decimals}
use Rattle.base_value.proofs.laws.order_is_of_decimals.Goals as goal

pub returns : goal.returns
returns c = order_of_decimals
