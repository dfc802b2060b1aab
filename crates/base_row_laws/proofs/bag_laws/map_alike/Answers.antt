use Rattle.base_row_laws.proofs.Bags.{SameBag-map}
use Rattle.base_row_laws.proofs.bag_laws.map_alike.Goals as goal

pub returns : goal.returns
returns g c = λ f xs us. SameBag-map f
