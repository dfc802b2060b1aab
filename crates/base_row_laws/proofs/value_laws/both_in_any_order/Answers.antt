use Rattle.base_row_laws.proofs.OfBags.{OfBag-both}
use Rattle.base_row_laws.proofs.value_laws.both_in_any_order.Goals as goal

pub returns : goal.returns
returns g c = OfBag-both
