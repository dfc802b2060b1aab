use Rattle.base_row_laws.proofs.Values.{sum_bag}
use Rattle.base_row_laws.proofs.value_laws.sum_in_any_order.Goals as goal

pub returns : goal.returns
returns g c = sum_bag
