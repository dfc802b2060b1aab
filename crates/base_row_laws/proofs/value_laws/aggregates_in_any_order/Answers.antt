use Rattle.base_row_laws.proofs.Values.{aggregated_bag}
use Rattle.base_row_laws.proofs.value_laws.aggregates_in_any_order.Goals as goal

pub returns : goal.returns
returns g c = aggregated_bag
