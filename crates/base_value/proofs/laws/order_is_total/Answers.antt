use Rattle.base_value.proofs.Orders.{value_total, row_total}
use Rattle.base_value.proofs.laws.order_is_total.Goals as goal

pub returns : goal.returns
returns c = (value_total, row_total)
