use Rattle.base_row_laws.proofs.OfBags.{OfBag-filter}
use Rattle.base_row_laws.proofs.value_laws.of_kept_in_any_order.Goals as goal

pub returns : goal.returns
returns g c = OfBag-filter
