use Rattle.base_row_laws.proofs.OfBags.{OfBag-then}
use Rattle.base_row_laws.proofs.value_laws.then_in_any_order.Goals as goal

pub returns : goal.returns
returns g c = OfBag-then
