use Rattle.base_row_laws.proofs.Values.{mark_bag}
use Rattle.base_row_laws.proofs.value_laws.mark_in_any_order.Goals as goal

pub returns : goal.returns
returns g c = mark_bag
