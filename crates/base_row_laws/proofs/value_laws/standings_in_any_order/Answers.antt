use Rattle.base_row_laws.proofs.Alike.{least_bag, greatest_bag}
use Rattle.base_row_laws.proofs.value_laws.standings_in_any_order.Goals as goal

pub returns : goal.returns
returns g c = (least_bag, greatest_bag)
