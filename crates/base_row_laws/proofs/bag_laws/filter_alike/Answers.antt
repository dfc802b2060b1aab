use Rattle.base_row_laws.proofs.Bags.{SameBag-filter}
use Rattle.base_row_laws.proofs.bag_laws.filter_alike.Goals as goal

pub returns : goal.returns
returns g c = λ p xs us. SameBag-filter p
