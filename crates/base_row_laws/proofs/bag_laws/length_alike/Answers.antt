use Rattle.base_row_laws.proofs.OfBags.{OfBag-length}
use Rattle.base_row_laws.proofs.bag_laws.length_alike.Goals as goal

pub returns : goal.returns
returns g c = λ xs us e. OfBag-length.alike xs us e
