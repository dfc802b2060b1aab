use Rattle.base_row_laws.proofs.Values.{avg_bag}
use Rattle.base_row_laws.proofs.value_laws.avg_in_any_order.Goals as goal

pub returns : goal.returns
returns g c = avg_bag
