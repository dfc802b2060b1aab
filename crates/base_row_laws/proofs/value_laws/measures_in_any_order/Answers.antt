use Rattle.base_row_laws.proofs.OfBags.{OfBag-weigh, OfBag-top, OfBag-bottom}
use Rattle.base_row_laws.proofs.value_laws.measures_in_any_order.Goals as goal

pub returns : goal.returns
returns g c = λ h n. (OfBag-weigh h, OfBag-top h, OfBag-bottom n h)
