use Rattle.base_row_laws.proofs.OfBags.{OfBag-map}
use Rattle.base_row_laws.proofs.value_laws.of_images_in_any_order.Goals as goal

pub returns : goal.returns
returns g c = OfBag-map
